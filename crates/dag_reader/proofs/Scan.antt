-- How a scan from left to right takes blanks and words.
use Rattle.std.proofs.Common.{◌≡◌, ℕ, zero, suc, ◌+◌, ◌-◌, ◌<◌, ◌≤◌, true, false, List, [], ◌∷◌, ◌++◌, length, take, drop, get_or, refl, sym, ap, subst, ◌∙◌, arith, add-one, add-zero, drop-cons, ⊎_elim}
use Rattle.std.proofs.lemmas.Grind.{common_steps}
use Rattle.std.proofs.lemmas.List.{append-nil, take-append-drop, take-append-drop, drop-drop}
use Rattle.std.proofs.lemmas.List.Elements.{All-from_get_or}
use Rattle.std.proofs.lemmas.List.Splits.{slice_split-cons_yes, slice_split_none, slice_split_at}
use Rattle.std.proofs.lemmas.Bool.{cases_lt, false≢true}
use Rattle.std.proofs.lemmas.Str.{IsCharBoundary-after_ascii, IsCharBoundary-before_ascii, IsCharBoundary-end}
use Rattle.std.specs.Str.{IsUtf8, IsCharBoundary}
use Rattle.std.specs.List.{slice_split, All}
use Rattle.dag_reader.specs.Word.{PlacedText, placed}
use Rattle.dag_reader.specs.Words.{is_blank, words, words_of_parts, RunEnds}

pub words-nil : (n at : ℕ) → words n at [] ≡ []
unfolding words
words-nil n at = refl

pub words-blank : (n at b : ℕ) (rest : List ℕ) → is_blank b ≡ true → words n at (b ∷ rest) ≡ words n (at + 1) rest
unfolding words
words-blank n at b rest h = rw (slice_split-cons_yes is_blank b rest h) refl

pub blank_is_ascii : (b : ℕ) → is_blank b ≡ true → b < 128
blank_is_ascii b h = grind arith

abbrev pub from_to : ℕ → ℕ → List ℕ → ℕ → PlacedText
from_to n at xs stop = placed xs (record { line = n; start = at; stop = stop })

-- a part that is not empty is a word
kept : (n at : ℕ) (xs : List ℕ) (parts : List (List ℕ)) → 0 < length xs → words_of_parts n at (xs ∷ parts) ≡ from_to n at xs (at + length xs) ∷ words_of_parts n (at + length xs + 1) parts
kept n at [] parts some = absurd (omega arith)
kept n at (x ∷ xs) parts some = refl

pub words-last : (n at : ℕ) (xs : List ℕ) → 0 < length xs → All (λ x. is_blank x ≡ false) xs → words n at xs ≡ from_to n at xs (at + length xs) ∷ []
unfolding words
words-last n at xs some none = rw (slice_split_none is_blank xs none) (kept n at xs [] some)

pub words-first : (n at : ℕ) (xs : List ℕ) (b : ℕ) (rest : List ℕ) → 0 < length xs → All (λ x. is_blank x ≡ false) xs → is_blank b ≡ true → words n at (xs ++ b ∷ rest) ≡ from_to n at xs (at + length xs) ∷ words n (at + length xs + 1) rest
unfolding words
words-first n at xs b rest some none blank = rw (slice_split_at is_blank xs b rest none blank) (kept n at xs (slice_split is_blank rest) some)

-- blanks are passed over
passed : (d n at : ℕ) (bytes : List ℕ) → at + d ≤ length bytes → ((k : ℕ) → at ≤ k → k < at + d → is_blank (get_or bytes k 0) ≡ true) → words n at (drop at bytes) ≡ words n (at + d) (drop (at + d) bytes)
passed zero n at bytes within run = rw add-zero refl
passed (suc d) n at bytes within run =
    let here : at < length bytes = omega arith in
    let blank : is_blank (get_or bytes at 0) ≡ true = run at (omega arith) (omega arith) in
    let shape : drop at bytes ≡ get_or bytes at 0 ∷ drop (at + 1) bytes = rw add-one (drop-cons bytes at 0 here) in
    let same : at + suc d ≡ at + 1 + d = omega arith in
    rw (shape, same) (words-blank n at (get_or bytes at 0) (drop (at + 1) bytes) blank ∙ passed d n (at + 1) bytes (omega arith) (λ k low high. run k (omega arith) (omega arith)))

pub passes_blanks : (n at end : ℕ) (bytes : List ℕ) → RunEnds true bytes at end → words n at (drop at bytes) ≡ words n end (drop end bytes)
passes_blanks n at end bytes r =
    let from = r.from in
    let within = r.within in
    let e : at + (end - at) ≡ end = omega arith in
    let p = passed (end - at) n at bytes (omega arith) (λ k low high. r.run k low (omega arith)) in
    rw e at p

unblank : (bytes : List ℕ) (start stop : ℕ) → RunEnds false bytes start stop → All (λ x. is_blank x ≡ false) (take (stop - start) (drop start bytes))
unblank bytes start stop r =
    All-from_get_or (λ x. is_blank x ≡ false) (take (stop - start) (drop start bytes)) 0 (λ i lt.
    let from = r.from in
    let within = r.within in
    let small : i < stop - start = grind (arith, common_steps) in
    let e : get_or (take (stop - start) (drop start bytes)) i 0 ≡ get_or bytes (start + i) 0 = grind (arith, common_steps) in
    rw e (r.run (start + i) (omega arith) (omega arith)))

-- a word is taken
pub takes_word : (n start stop : ℕ) (bytes : List ℕ) → start < stop → RunEnds false bytes start stop
    → words n start (drop start bytes) ≡ from_to n start (take (stop - start) (drop start bytes)) stop ∷ words n stop (drop stop bytes)
takes_word n start stop bytes some r =
    let within = r.within in
    let xs = take (stop - start) (drop start bytes) in
    let len : length xs ≡ stop - start = grind (arith, common_steps) in
    let joins : start + (stop - start) ≡ stop = omega arith in
    let beyond : drop (stop - start) (drop start bytes) ≡ drop stop bytes = drop-drop (stop - start) start bytes ∙ ap (λ (k : ℕ). drop k bytes) joins in
    let whole : drop start bytes ≡ xs ++ drop stop bytes = sym (take-append-drop (stop - start) (drop start bytes)) ∙ ap (λ (ys : List ℕ). xs ++ ys) beyond in
    let none = unblank bytes start stop r in
    let end : start + length xs ≡ stop = omega arith in
    ⊎_elim
    (λ more.
    let blank : is_blank (get_or bytes stop 0) ≡ true = r.stops more in
    let shape : drop stop bytes ≡ get_or bytes stop 0 ∷ drop (stop + 1) bytes = rw add-one (drop-cons bytes stop 0 more) in
    let first = words-first n start xs (get_or bytes stop 0) (drop (stop + 1) bytes) (omega arith) none blank in
    let later = words-blank n stop (get_or bytes stop 0) (drop (stop + 1) bytes) blank in
    let at_end = rw end at first in
    ap (words n start) (whole ∙ ap (λ (ys : List ℕ). xs ++ ys) shape) ∙ at_end ∙ ap (λ (ws : List PlacedText). from_to n start xs stop ∷ ws) (sym later ∙ ap (words n stop) (sym shape)))
    (λ last.
    let gone : drop stop bytes ≡ [] = grind (arith, common_steps) in
    let only : words n start xs ≡ from_to n start xs (start + length xs) ∷ [] = words-last n start xs (omega arith) none in
    let at_end = rw end at only in
    let empty : words n stop [] ≡ [] = words-nil n stop in
    ap (words n start) (whole ∙ ap (λ (ys : List ℕ). xs ++ ys) gone ∙ append-nil xs) ∙ at_end ∙ ap (λ (ws : List PlacedText). from_to n start xs stop ∷ ws) (sym (ap (words n stop) gone ∙ empty)))
    (cases_lt stop (length bytes))

-- At the line's end no word is left.
pub no_word : (n start stop : ℕ) (bytes : List ℕ) → start ≡ stop → RunEnds true bytes n start → RunEnds false bytes start stop → drop start bytes ≡ []
no_word n start stop bytes same blanks word =
    ⊎_elim
    (λ more.
    let lt : start < length bytes = more in
    let stops : stop < length bytes = omega arith in
    let a : is_blank (get_or bytes start 0) ≡ false = blanks.stops lt in
    let b : is_blank (get_or bytes stop 0) ≡ true = word.stops stops in
    let b' = rw (← same) at b in
    absurd (false≢true (sym a ∙ b')))
    (λ last. grind (arith, common_steps))
    (cases_lt start (length bytes))

pub start_cut : (bytes : List ℕ) (at start : ℕ) → IsUtf8 bytes → IsCharBoundary bytes at → RunEnds true bytes at start → IsCharBoundary bytes start
start_cut bytes at start utf8 cut r =
    let from = r.from in
    let within = r.within in
    ⊎_elim
    (λ moved.
    let before : is_blank (get_or bytes (start - 1) 0) ≡ true = r.run (start - 1) (omega arith) (omega arith) in
    let e : start - 1 + 1 ≡ start = omega arith in
    subst (IsCharBoundary bytes) e (IsCharBoundary-after_ascii bytes (start - 1) utf8 (omega arith) (blank_is_ascii _ before)))
    (λ stayed. let e : at ≡ start = omega arith in subst (IsCharBoundary bytes) e cut)
    (cases_lt at start)

pub stop_cut : (bytes : List ℕ) (start stop : ℕ) → RunEnds false bytes start stop → IsCharBoundary bytes stop
stop_cut bytes start stop r =
    let within = r.within in
    ⊎_elim
    (λ more. IsCharBoundary-before_ascii bytes stop more (blank_is_ascii _ (r.stops more)))
    (λ last. let e : length bytes ≡ stop = omega arith in subst (IsCharBoundary bytes) e (IsCharBoundary-end bytes))
    (cases_lt stop (length bytes))
