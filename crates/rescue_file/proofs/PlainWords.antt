-- The words of a line whose bytes are a text.
use Rattle.std.proofs.Common.{◌≡◌, ℕ, suc, ◌+◌, ◌<◌, true, false, List, [], ◌∷◌, ◌++◌, length, take, drop, refl, sym, ap, subst, arith, ⊎_elim, append_assoc, IsUtf8, get_or, add-one}
use Rattle.std.proofs.lemmas.Bool.{cases_Bool}
use Rattle.std.proofs.lemmas.List.{append-nil}
use Rattle.std.proofs.lemmas.List.Elements.{All-nil, All-cons, All-head, All-tail}
use Rattle.std.proofs.lemmas.List.Splits.{slice_split-cons_yes, slice_split-cons_no}
use Rattle.std.proofs.lemmas.Str.{IsUtf8-take, IsUtf8-drop, IsCharBoundary-before_ascii, IsCharBoundary-after_ascii}
use Rattle.std.specs.List.{All, slice_split, onto_first}
use Rattle.dag_reader.specs.Lines.{is_control}
use Rattle.dag_reader.specs.Word.{PlacedText}
use Rattle.dag_reader.specs.Words.{is_blank, words, words_of_parts}
use Rattle.dag_reader.proofs.LineTexts.{IsText}
use Rattle.dag_reader.proofs.Scan.{blank_is_ascii}

-- Text before and after an ASCII byte.
front_of : (xs ys : List ℕ) → take (length xs) (xs ++ ys) ≡ xs
front_of [] ys = refl
front_of (x ∷ xs) ys = ap (λ (zs : List ℕ). x ∷ zs) (front_of xs ys)

past_of : (xs ys : List ℕ) (c : ℕ) → drop (suc (length xs)) (xs ++ c ∷ ys) ≡ ys
past_of [] ys c = refl
past_of (x ∷ xs) ys c = past_of xs ys c

back_of : (xs ys : List ℕ) (c : ℕ) → drop (length xs + 1) (xs ++ c ∷ ys) ≡ ys
back_of xs ys c = rw add-one (past_of xs ys c)

byte_of : (xs ys : List ℕ) (c : ℕ) → get_or (xs ++ c ∷ ys) (length xs) 0 ≡ c
byte_of [] ys c = refl
byte_of (x ∷ xs) ys c = byte_of xs ys c

inside_of : (xs ys : List ℕ) (c : ℕ) → length xs < length (xs ++ c ∷ ys)
inside_of [] ys c = omega arith
inside_of (x ∷ xs) ys c = let below = inside_of xs ys c in omega arith

text_before : (xs ys : List ℕ) (c : ℕ) → c < 128 → IsUtf8 (xs ++ c ∷ ys) → IsUtf8 xs
text_before xs ys c low u =
    let at = byte_of xs ys c in
    subst IsUtf8 (front_of xs (c ∷ ys)) (IsUtf8-take (xs ++ c ∷ ys) (length xs) u (IsCharBoundary-before_ascii (xs ++ c ∷ ys) (length xs) (inside_of xs ys c) (omega (arith, at))))

text_behind : (xs ys : List ℕ) (c : ℕ) → c < 128 → IsUtf8 (xs ++ c ∷ ys) → IsUtf8 ys
text_behind xs ys c low u =
    let at = byte_of xs ys c in
    subst IsUtf8 (back_of xs ys c) (IsUtf8-drop (xs ++ c ∷ ys) (length xs + 1) u (IsCharBoundary-after_ascii (xs ++ c ∷ ys) (length xs) u (inside_of xs ys c) (omega (arith, at))))

-- the bytes before the first part, and the parts
abbrev onto : List ℕ → List (List ℕ) → List (List ℕ)
onto w [] = w ∷ []
onto w (part ∷ parts) = (w ++ part) ∷ parts

one_byte_more : (w : List ℕ) (x : ℕ) (parts : List (List ℕ)) → onto (w ++ x ∷ []) parts ≡ onto w (onto_first x parts)
one_byte_more w x [] = refl
one_byte_more w x (part ∷ parts) = ap (λ (p : List ℕ). p ∷ parts) (append_assoc w (x ∷ []) part)

from_none : (P : List ℕ → Type 0) (parts : List (List ℕ)) → All P (onto [] parts) → All P parts
from_none P [] all = All-nil P
from_none P (part ∷ parts) all = all

texts_of : (w bytes : List ℕ) → IsUtf8 (w ++ bytes) → All IsUtf8 (onto w (slice_split is_blank bytes))
texts_of w [] u = All-cons IsUtf8 (w ++ []) [] u (All-nil IsUtf8)
texts_of w (x ∷ xs) u =
    ⊎_elim
    (λ (yes : is_blank x ≡ true).
    let low = blank_is_ascii x yes in
    let parts = slice_split is_blank xs in
    subst (λ (ps : List (List ℕ)). All IsUtf8 (onto w ps)) (sym (slice_split-cons_yes is_blank x xs yes))
    (All-cons IsUtf8 (w ++ []) parts (subst IsUtf8 (sym (append-nil w)) (text_before w xs x low u)) (from_none IsUtf8 parts (texts_of [] xs (text_behind w xs x low u)))))
    (λ (no : is_blank x ≡ false).
    subst (λ (ps : List (List ℕ)). All IsUtf8 (onto w ps)) (sym (slice_split-cons_no is_blank x xs no))
    (subst (All IsUtf8) (one_byte_more w x (slice_split is_blank xs)) (texts_of (w ++ x ∷ []) xs (subst IsUtf8 (sym (append_assoc w (x ∷ []) xs)) u))))
    (cases_Bool (is_blank x))

-- What holds of the bytes that are no blanks holds of those of the parts.
put_first : (P : ℕ → Type 0) (x : ℕ) (parts : List (List ℕ)) → P x → All (All P) parts → All (All P) (onto_first x parts)
put_first P x [] here all = All-cons (All P) (x ∷ []) [] (All-cons P x [] here (All-nil P)) (All-nil (All P))
put_first P x (part ∷ parts) here all = All-cons (All P) (x ∷ part) parts (All-cons P x part here (All-head (All P) part parts all)) (All-tail (All P) part parts all)

bytes_of : (P : ℕ → Type 0) (bytes : List ℕ) → All (λ b. is_blank b ≡ false → P b) bytes → All (All P) (slice_split is_blank bytes)
bytes_of P [] all = All-cons (All P) [] [] (All-nil P) (All-nil (All P))
bytes_of P (x ∷ xs) all =
    let later = bytes_of P xs (All-tail (λ b. is_blank b ≡ false → P b) x xs all) in
    ⊎_elim
    (λ (yes : is_blank x ≡ true). subst (All (All P)) (sym (slice_split-cons_yes is_blank x xs yes)) (All-cons (All P) [] (slice_split is_blank xs) (All-nil P) later))
    (λ (no : is_blank x ≡ false). subst (All (All P)) (sym (slice_split-cons_no is_blank x xs no)) (put_first P x (slice_split is_blank xs) (All-head (λ b. is_blank b ≡ false → P b) x xs all no) later))
    (cases_Bool (is_blank x))

pub record IsWord (text : List ℕ) : Type 0 where
  pub some : 0 < length text
  pub utf8 : IsUtf8 text
  pub solid : All (λ b. is_blank b ≡ false) text
  pub clear : All (λ b. is_control b ≡ false) text

abbrev IsPart : List ℕ → Type 0
IsPart part = IsUtf8 part × All (λ b. is_blank b ≡ false) part × All (λ b. is_control b ≡ false) part

are_words : (line at : ℕ) (parts : List (List ℕ)) → All IsPart parts → All (λ w. IsWord w.text) (words_of_parts line at parts)
are_words line at [] all = All-nil (λ (w : PlacedText). IsWord w.text)
are_words line at ([] ∷ parts) all = are_words line (at + 1) parts (All-tail IsPart [] parts all)
are_words line at ((b ∷ bs) ∷ parts) all =
    let here = All-head IsPart (b ∷ bs) parts all in
    All-cons (λ (w : PlacedText). IsWord w.text) _ _ (record { some = omega arith; utf8 = here.0; solid = here.1; clear = here.2 })
    (are_words line _ parts (All-tail IsPart (b ∷ bs) parts all))

pub line_words : (number : ℕ) (bytes : List ℕ) → IsText bytes → All (λ w. IsWord w.text) (words number 0 bytes)
unfolding words
line_words number bytes text =
    let parts = slice_split is_blank bytes in
    let utf8 = from_none IsUtf8 parts (texts_of [] bytes text.utf8) in
    let solid = bytes_of (λ b. is_blank b ≡ false) bytes (λ k d lt is. is) in
    let clear = bytes_of (λ b. is_control b ≡ false) bytes (λ k d lt is. text.clear k d lt) in
    are_words number 0 parts (λ k d lt. (utf8 k d lt, solid k d lt, clear k d lt))
