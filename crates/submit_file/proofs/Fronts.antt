-- Blanks at the front of a line, counted, and kept where the line is joined with those below it.
use Rattle.std.proofs.Common.{◌≡◌, ◌≤◌, ◌<◌, ◌+◌, ◌-◌, ◌==◌, ◌++◌, not, ℕ, zero, suc, true, false, List, [], ◌∷◌, length, take, drop, slice_index, slice_get, Option, Some, None, refl, sym, ap, subst, ◌∙◌, ⊎_elim, arith}
use Rattle.std.proofs.lemmas.Bool.{false≢true, and_parts, and_from, ne_eqb, cases_lt}
use Rattle.std.proofs.lemmas.List.{take_all, take-append-le, length-append}
use Rattle.std.specs.Option.{option_to_list}
use Rattle.std.specs.List.{list_all}
use Rattle.submit_file.specs.Lines.{is_blank, trim_start, is_the_byte, is_comment_line, is_continued}
use Rattle.submit_file.specs.Fronts.{BeginsWithBlanks}

-- no byte is read yet
pub no_blank : (text : List ℕ) → BeginsWithBlanks 0 text
no_blank text = record { within = omega arith; blank = refl }

-- one blank more
one_more : (text : List ℕ) (n : ℕ) → n < length text → list_all is_blank (take n text) ≡ true → is_blank (slice_index text n) ≡ true → list_all is_blank (take (suc n) text) ≡ true
one_more [] n within all next = refl
one_more (b ∷ bs) zero within all next = and_from _ _ next refl
one_more (b ∷ bs) (suc n) within all next =
    let parts = and_parts (is_blank b) (list_all is_blank (take n bs)) all in
    and_from _ _ parts.0 (one_more bs n (omega arith) parts.1 next)

pub blank_more : (text : List ℕ) (n : ℕ) → n < length text → BeginsWithBlanks n text → is_blank (slice_index text n) ≡ true → BeginsWithBlanks (n + 1) text
blank_more text n within is next =
    let e : suc n ≡ n + 1 = omega arith in
    record { within = omega arith; blank = subst (λ (k : ℕ). list_all is_blank (take k text) ≡ true) e (one_more text n within is.blank next) }

-- where no further blank comes, these are all
pub all_counted : (text : List ℕ) (n : ℕ) → BeginsWithBlanks n text → (n < length text → is_blank (slice_index text n) ≡ false) → drop n text ≡ trim_start text
all_counted [] zero is stops = refl
all_counted [] (suc n) is stops = refl
all_counted (b ∷ bs) zero is stops = rw (stops (omega arith)) refl
all_counted (b ∷ bs) (suc n) is stops =
    let parts = and_parts (is_blank b) (list_all is_blank (take n bs)) is.blank in
    let within = is.within in
    rw parts.0 (all_counted bs n (record { within = omega (arith, within); blank = parts.1 }) (λ less. stops (omega arith)))

-- a text of blanks doesn't end with a backslash
not_both : (b : ℕ) → is_blank b ≡ true → (b == 92) ≡ false
not_both b blank = ne_eqb b 92 (λ e. absurd (false≢true (subst (λ (x : ℕ). is_blank x ≡ true) e blank)))

blank_end : (text : List ℕ) → list_all is_blank text ≡ true → is_the_byte 92 (slice_get text (length text - 1)) ≡ false
blank_end [] all = refl
blank_end (b ∷ []) all = not_both b (and_parts (is_blank b) true all).0
blank_end (b ∷ c ∷ bs) all =
    let e : suc (suc (length bs) - 1) ≡ suc (suc (length bs)) - 1 = omega arith in
    subst (λ (k : ℕ). is_the_byte 92 (slice_get (b ∷ c ∷ bs) k) ≡ false) e (blank_end (c ∷ bs) (and_parts (is_blank b) (list_all is_blank (c ∷ bs)) all).1)

-- the blanks at the front of a line that is continued stay there, where its last byte goes and others come
pub kept : (text front : List ℕ) (last : Option ℕ) (below : List ℕ) (n : ℕ) → text ≡ front ++ option_to_list last → BeginsWithBlanks n text → is_continued text ≡ true → BeginsWithBlanks n (front ++ below)
unfolding is_continued
kept text front last below n e is goes =
    let within = is.within in
    let byte = (and_parts (is_the_byte 92 (slice_get text (length text - 1))) (not (is_comment_line text)) goes).0 in
    let not_all : n < length text = ⊎_elim (λ less. less)
    (λ (past : length text ≤ n). absurd (false≢true (sym (blank_end text (subst (λ (t : List ℕ). list_all is_blank t ≡ true) (take_all n text past) is.blank)) ∙ byte)))
    (cases_lt n (length text)) in
    let low : n ≤ length front = fits last (subst (λ (t : List ℕ). n < length t) e not_all) in
    let same : take n (front ++ below) ≡ take n text = take-append-le n front below low ∙ sym (ap (take n) e ∙ take-append-le n front (option_to_list last) low) in
    record {
      within = subst (λ (k : ℕ). n ≤ k) (sym (length-append front below)) (omega (arith, low));
      blank = subst (λ (t : List ℕ). list_all is_blank t ≡ true) (sym same) is.blank;
    }
  where
    fits : (last : Option ℕ) → n < length (front ++ option_to_list last) → n ≤ length front
    fits None less = omega (arith, less, length-append front [])
    fits (Some b) less = omega (arith, less, length-append front (b ∷ []))
