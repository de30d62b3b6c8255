-- Runs of bytes, and texts between quotes.
use Rattle.std.proofs.Common.{◌≡◌, ℕ, suc, ◌+◌, ◌≤◌, Bool, true, false, cond, ◌&&◌, nat_eq, nat_lt, List, [], ◌∷◌, ◌++◌, length, take, drop, Option, Some, None, refl, sym, ap, subst, ◌∙◌, arith, ⊎_elim}
use Rattle.std.proofs.lemmas.Bool.{cases_Bool, false≢true, eqb-true}
use Rattle.std.proofs.lemmas.List.{take-append-drop}
use Rattle.std.proofs.lemmas.List.Recursion.{is_position_or_len}
use Rattle.std.specs.List.{AllByRecursion, position, position_or_len}
use Rattle.std.specs.Option.{option_map}
use Rattle.std.specs.Prelude.{unwrap_or}
use Rattle.dag_reader.proofs.Parts.{chosen}
use Rattle.dag_reader.specs.Macros.{place_of, is_escape, begins_escape, unquoted, closing_quote, is_backslash}

-- Runs.
abbrev pub NonePass : (ℕ → Bool) → List ℕ → Type 0
NonePass p bs = AllByRecursion (λ b. p b ≡ false) bs

-- the bytes end, or the first passes
abbrev pub Stops : (ℕ → Bool) → List ℕ → Type 0
Stops p [] = Unit {0}
Stops p (b ∷ bs) = p b ≡ true

pub none_before_place : (p : ℕ → Bool) (bs : List ℕ) → NonePass p (take (place_of p bs) bs)
none_before_place p [] = tt
none_before_place p (b ∷ bs) = ⊎_elim (λ yes. rw yes tt) (λ other. rw other (other, none_before_place p bs)) (cases_Bool (p b))

pub stops_at_place : (p : ℕ → Bool) (bs : List ℕ) → Stops p (drop (place_of p bs) bs)
stops_at_place p [] = tt
stops_at_place p (b ∷ bs) = ⊎_elim (λ yes. rw yes yes) (λ other. rw other (stops_at_place p bs)) (cases_Bool (p b))

pub place_le : (p : ℕ → Bool) (bs : List ℕ) → place_of p bs ≤ length bs
place_le p [] = omega arith
place_le p (b ∷ bs) =
    let below = place_le p bs in
    ⊎_elim (λ yes. rw yes (omega arith)) (λ other. rw other (omega arith)) (cases_Bool (p b))

pub first_place : (p : ℕ → Bool) (bs : List ℕ) → unwrap_or (position p bs) (length bs) ≡ place_of p bs
first_place p bs =
    let q = position_or_len p bs in
    let same : place_of p bs ≡ q = is_position_or_len (place_of p) p refl (λ x xs. let one : suc (place_of p xs) ≡ 1 + place_of p xs = omega arith in ap (λ (n : ℕ). cond (p x) 0 n) one) bs in
    let le = place_le p bs in
    ⊎_elim
    (λ yes. let found : unwrap_or (position p bs) (length bs) ≡ q = ap (λ (b : Bool). unwrap_or (cond b (Some q) None) (length bs)) yes in found ∙ sym same)
    (λ other.
    let past : unwrap_or (position p bs) (length bs) ≡ length bs = ap (λ (b : Bool). unwrap_or (cond b (Some q) None) (length bs)) other in
    let ge : length bs ≤ q = grind (arith, other) in
    let all : length bs ≡ place_of p bs = omega arith in
    past ∙ all)
    (cases_Bool (nat_lt q (length bs)))

-- Tests.
pub and_both : (a b : Bool) → (a && b) ≡ true → (a ≡ true) × (b ≡ true)
and_both true true h = (refl, refl)
and_both true false h = absurd (false≢true h)
and_both false b h = absurd (false≢true h)

-- Closing quotes.
mapped : (f : ℕ → ℕ) (o : Option ℕ) (n : ℕ) → option_map f o ≡ Some n → (m : ℕ) × (o ≡ Some m) × (f m ≡ n)
mapped f None n e = absurd cc
mapped f (Some m) n e = (m, refl, cc)

abbrev Closed : List ℕ → ℕ → Type 0
Closed bs n = bs ≡ take n bs ++ 34 ∷ drop (suc n) bs

closed_here : (b : ℕ) (bs : List ℕ) (n : ℕ) → nat_eq b 34 ≡ true → Some 0 ≡ Some n → Closed (b ∷ bs) n
closed_here b bs n is e =
    let zero_is : 0 ≡ n = cc in
    subst (Closed (b ∷ bs)) zero_is (ap (λ (x : ℕ). x ∷ bs) (eqb-true b 34 is))

pub closing_ok : (bs : List ℕ) (n : ℕ) → closing_quote bs ≡ Some n → Closed bs n
closing_ok [] n e = absurd cc
closing_ok (b ∷ []) n e =
    ⊎_elim
    (λ yes. closed_here b [] n yes.0 yes.1)
    (λ other. absurd (let bad = other.1 in cc))
    (chosen (nat_eq b 34) _ _ (Some n) e)
closing_ok (b ∷ c ∷ bs) n e =
    ⊎_elim
    (λ yes. closed_here b (c ∷ bs) n yes.0 yes.1)
    (λ differs. ⊎_elim
    (λ yes.
    let p = mapped (λ (k : ℕ). suc (suc k)) (closing_quote bs) n yes.1 in
    subst (Closed (b ∷ c ∷ bs)) p.2 (ap (λ (xs : List ℕ). b ∷ c ∷ xs) (closing_ok bs p.0 p.1)))
    (λ plain.
    let p = mapped (λ (k : ℕ). suc k) (closing_quote (c ∷ bs)) n plain.1 in
    subst (Closed (b ∷ c ∷ bs)) p.2 (ap (λ (xs : List ℕ). b ∷ xs) (closing_ok (c ∷ bs) p.0 p.1)))
    (chosen (is_escape b c) _ _ (Some n) differs.1))
    (chosen (nat_eq b 34) _ _ (Some n) e)

-- Texts without their escapes.
unquoted_plain : (b : ℕ) (bs : List ℕ) → begins_escape (b ∷ bs) ≡ false → unquoted (b ∷ bs) ≡ b ∷ unquoted bs
unquoted_plain b [] h = refl
unquoted_plain b (c ∷ bs) h = rw h refl

no_backslash : (b : ℕ) (bs : List ℕ) → nat_eq b 92 ≡ false → begins_escape (b ∷ bs) ≡ false
no_backslash b [] h = refl
no_backslash b (c ∷ bs) h = rw h refl

unquoted_run : (xs ys : List ℕ) → NonePass is_backslash xs → unquoted (xs ++ ys) ≡ xs ++ unquoted ys
unquoted_run [] ys none = refl
unquoted_run (x ∷ xs) ys none = unquoted_plain x (xs ++ ys) (no_backslash x (xs ++ ys) none.0) ∙ ap (λ (zs : List ℕ). x ∷ zs) (unquoted_run xs ys none.1)

-- a byte that stands for itself, and the bytes up to the next backslash
unquoted_bytes : (bs : List ℕ) → unquoted bs ≡ take (place_of is_backslash bs) bs ++ unquoted (drop (place_of is_backslash bs) bs)
unquoted_bytes bs =
    let n = place_of is_backslash bs in
    ap unquoted (sym (take-append-drop n bs)) ∙ unquoted_run (take n bs) (drop n bs) (none_before_place is_backslash bs)

pub unquoted_piece : (b : ℕ) (bs : List ℕ) → begins_escape (b ∷ bs) ≡ false
    → unquoted (b ∷ bs) ≡ take (suc (place_of is_backslash bs)) (b ∷ bs) ++ unquoted (drop (suc (place_of is_backslash bs)) (b ∷ bs))
unquoted_piece b bs h = unquoted_plain b bs h ∙ ap (λ (zs : List ℕ). b ∷ zs) (unquoted_bytes bs)

pub unquoted_escape : (b c : ℕ) (bs : List ℕ) → begins_escape (b ∷ c ∷ bs) ≡ true
    → unquoted (b ∷ c ∷ bs) ≡ take (suc (place_of is_backslash bs)) (c ∷ bs) ++ unquoted (drop (suc (place_of is_backslash bs)) (c ∷ bs))
unquoted_escape b c bs h = rw h (ap (λ (zs : List ℕ). c ∷ zs) (unquoted_bytes bs))

pub not_equal : (a b : ℕ) → (a ≡ b → ⊥) → nat_eq a b ≡ false
not_equal a b h = ⊎_elim (λ yes. absurd (h (eqb-true a b yes))) (λ other. other) (cases_Bool (nat_eq a b))
