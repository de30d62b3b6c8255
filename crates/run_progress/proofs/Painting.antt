-- Where a line has in front how many nodes failed, whole, that is red; any other line stays as it is.
use Rattle.std.proofs.Common.{◌≡◌, ◌≢◌, ℕ, ◌<◌, List, ◌++◌, true, false, nat_eq, length, take, drop, refl, sym, ap, ◌∙◌, arith}
use Rattle.std.specs.List.{starts_with}
use Rattle.std.proofs.lemmas.Bool.{false_from_ne_true}
use Rattle.std.proofs.lemmas.Bool.Decides.{Decides-eqb}
use Rattle.std.proofs.lemmas.List.Prefix.{front_rest}
use Rattle.std.proofs.lemmas.Slice.Eq.{starts_is}
use Rattle.std.proofs.Math.Seq.{take-append_seam}
use Rattle.run_progress.specs.Line.{failed_number, red_begins, red_ends, painted}

begins : (line front rest : List ℕ) → line ≡ front ++ rest → starts_with nat_eq line front ≡ true
begins line front rest split = (starts_is Decides-eqb line front _ refl).1 rest split

begins_not : (line front : List ℕ) → ((rest : List ℕ) → line ≢ front ++ rest) → starts_with nat_eq line front ≡ false
begins_not line front other = false_from_ne_true _ (λ yes. other _ ((starts_is Decides-eqb line front _ refl).0 yes))

first_bytes : (line front rest : List ℕ) → line ≡ front ++ rest → take (length front) line ≡ front
first_bytes line front rest split = ap (take (length front)) split ∙ take-append_seam front rest

pub painted-front : (line : List ℕ) (failed : ℕ) (rest : List ℕ) → 0 < failed → line ≡ failed_number failed ++ rest
    → painted line failed ≡ red_begins ++ (failed_number failed ++ (red_ends ++ rest))
painted-front line failed rest some split =
    let yes = begins line (failed_number failed) rest split in
    let first = first_bytes line (failed_number failed) rest split in
    let last = front_rest line (failed_number failed) rest split in
    grind (arith, yes, first, last)

pub painted-other : (line : List ℕ) (failed : ℕ) → ((rest : List ℕ) → line ≢ failed_number failed ++ rest)
    → painted line failed ≡ line
painted-other line failed other =
    let no = begins_not line (failed_number failed) other in
    grind (arith, no)

-- what `strip_prefix` says, of a front that is known by its words
pub split-front : (line found front rest : List ℕ) (count : ℕ) → found ≡ front → line ≡ found ++ drop count line
    → rest ≡ drop count line → line ≡ front ++ rest
split-front line found front rest count same split last = split ∙ (ap (λ text. text ++ drop count line) same ∙ ap (λ text. front ++ text) (sym last))
