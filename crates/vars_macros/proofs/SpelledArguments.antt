-- Texts of arguments spell the words that are gathered.
use Rattle.std.proofs.Common.{◌≡◌, ◌∙◌, sym, ap, refl, subst, ℕ, ◌-◌, Bool, true, false, List, [], ◌∷◌, ◌++◌, length, take, drop, Ok}
use Rattle.std.proofs.lemmas.Bool.{cond-false}
use Rattle.vars_macros.specs.Cut.{begins_with}
use Rattle.vars_macros.specs.Symbols.{gathered, new_symbols, old_symbols, ends_with_byte, quoted_symbols, arguments}
use Rattle.vars_macros.specs.Gathered.{no_words}
use Rattle.vars_macros.specs.declared.words.Symbol.TheVariants.{Broken}
use Rattle.vars_macros.specs.ArgumentGrammar.{SpellsNewPart, SpellsOldPart, SpellsArguments, new_style, old_style}
use Rattle.vars_macros.proofs.WordsAlike as texts
use Rattle.vars_macros.proofs.SpelledWords.{words_read, words_found}
use Rattle.vars_macros.proofs.SpelledParts.{broken, new_symbols_are, old_symbols_are}

pub only : (text : List ℕ) (words : List (List ℕ)) → SpellsArguments text words → arguments text ≡ Ok words
only text words (new_style {body = body} spells) =
    ap (gathered no_words) (texts.quoted_front body) ∙ words_read SpellsNewPart (new_symbols false false) new_symbols_are spells []
only text words (old_style first spells) =
    ap (gathered no_words) (texts.old_style text first) ∙ words_read SpellsOldPart (old_symbols false) old_symbols_are spells []

-- words that are gathered from the body
in_body : (body : List ℕ) (words : List (List ℕ)) → gathered no_words (new_symbols false false body) ≡ Ok words → SpellsArguments (34 ∷ (body ++ 34 ∷ [])) words
in_body body words h =
    new_style (words_found SpellsNewPart (new_symbols false false) new_symbols_are body words h)

behind_quote : (behind : List ℕ) (words : List (List ℕ)) → gathered no_words (quoted_symbols behind) ≡ Ok words → SpellsArguments (34 ∷ behind) words
behind_quote behind words h = by_last (ends_with_byte 34 behind) refl
  where
    by_last : (t : Bool) → ends_with_byte 34 behind ≡ t → SpellsArguments (34 ∷ behind) words
    by_last true e =
        let front = take (length behind - 1) behind in
        let split = texts.last_splits 34 behind e in
        subst (λ (x : List ℕ). SpellsArguments (34 ∷ x) words) (sym split)
        (in_body front words (ap (gathered no_words) (sym (texts.quoted_front front)) ∙ ap (λ (x : List ℕ). gathered no_words (quoted_symbols x)) (sym split) ∙ h))
    by_last false e =
        let front = take (length behind - 1) behind in
        absurd (broken no_words [] words (ap (gathered no_words) (sym (cond-false (ends_with_byte 34 behind) (new_symbols false false front) (Broken ∷ []) e)) ∙ h))

pub found : (text : List ℕ) (words : List (List ℕ)) → arguments text ≡ Ok words → SpellsArguments text words
found text words h = by_style (begins_with 34 text) refl
  where
    by_style : (t : Bool) → begins_with 34 text ≡ t → SpellsArguments text words
    by_style true e =
        let first = texts.begins_is 34 text e in
        subst (λ (x : List ℕ). SpellsArguments x words) (sym first) (behind_quote (drop 1 text) words (ap arguments (sym first) ∙ h))
    by_style false e =
        old_style e (words_found SpellsOldPart (old_symbols false) old_symbols_are text words (ap (gathered no_words) (sym (texts.old_style text e)) ∙ h))
