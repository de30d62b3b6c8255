-- What is answered of a text is what the grammar says of it.
use Rattle.std.proofs.Common.{◌≡◌, ◌∙◌, inl, inr, sym, ap, refl, subst, ℕ, Bool, true, false, List, [], ◌∷◌, ◌++◌, Result, Ok, Err, Option, Some, None, option_map, unwrap_or, slice_get, length, take, ◌-◌, ◌==◌}
use Rattle.std.proofs.lemmas.Bool.{cond-false}
use Rattle.vars_macros.specs.Answers.{Gives, Fails}
use Rattle.vars_macros.specs.Cut.{begins_with}
use Rattle.vars_macros.specs.Gathered.{Gathering, no_words}
use Rattle.vars_macros.specs.ArgumentGrammar.{SpellsNewPart, SpellsOldPart, SpellsWords, SpellsArguments, new_style, old_style, IsSplit}
use Rattle.vars_macros.specs.declared.fault.MacroFault.{MacroFault}
use Rattle.vars_macros.specs.declared.fault.MacroFault.TheVariants.{Unclosed, Loop, TooLong, BadQuote, BadReference, Memory}
use Rattle.vars_macros.specs.declared.words.Symbol.{Symbol}
use Rattle.vars_macros.specs.declared.words.Symbol.TheVariants.{Letter, Mark, Gap, Broken}
use Rattle.vars_macros.specs.Symbols.{gathered, new_symbols, old_symbols, is_byte, ends_with_byte, arguments}
use Rattle.vars_macros.proofs.SpelledWords.{words_read, words_found}
use Rattle.vars_macros.proofs.SpelledParts.{broken, new_symbols_are, old_symbols_are}
use Rattle.vars_macros.proofs.WordsAlike as texts
use Rattle.vars_macros.proofs.WordsAlike.{last_splits, quoted_front}
use Rattle.vars_macros.proofs.SpelledArguments.{only, found}

-- Words are refused for a quote alone.
refused : (g : Gathering) (ss : List Symbol) (fault : MacroFault) → gathered g ss ≡ Err fault → fault ≡ BadQuote
unfolding gathered
refused g [] fault h = absurd cc
refused g (Letter b ∷ ss) fault h = refused _ ss fault h
refused g (Mark ∷ ss) fault h = refused _ ss fault h
refused g (Gap ∷ ss) fault h = refused _ ss fault h
refused g (Broken ∷ ss) fault h = cc

module _ (Spells : List (List ℕ) → Type 0) (ss : List Symbol) (read : (words : List (List ℕ)) → Spells words → gathered no_words ss ≡ Ok words)
    (back : (words : List (List ℕ)) → gathered no_words ss ≡ Ok words → Spells words) where
  refuses : (fault : MacroFault) → gathered no_words ss ≡ Err fault → IsSplit Spells (Err fault)
  refuses fault h = inr (refused no_words ss fault h, λ words spells. let wrong : Ok words ≡ Err fault = sym (read words spells) ∙ h in cc)

  is_split : (r : Result (List (List ℕ)) MacroFault) → Gives (λ words. words) r (gathered no_words ss) → IsSplit Spells r
  is_split (Ok words) h = back words h
  is_split (Err Memory) h = inl refl
  is_split (Err Unclosed) h = refuses Unclosed h
  is_split (Err Loop) h = refuses Loop h
  is_split (Err TooLong) h = refuses TooLong h
  is_split (Err BadQuote) h = refuses BadQuote h
  is_split (Err BadReference) h = refuses BadReference h

pub new_split : (text : List ℕ) (r : Result (List (List ℕ)) MacroFault) → Gives (λ words. words) r (gathered no_words (new_symbols false false text)) → IsSplit (SpellsWords SpellsNewPart text) r
new_split text r h =
    is_split (SpellsWords SpellsNewPart text) (new_symbols false false text)
    (λ words spells. words_read SpellsNewPart (new_symbols false false) new_symbols_are spells [])
    (λ words is. words_found SpellsNewPart (new_symbols false false) new_symbols_are text words is) r h

pub old_split : (text : List ℕ) (r : Result (List (List ℕ)) MacroFault) → Gives (λ words. words) r (gathered no_words (old_symbols false text)) → IsSplit (SpellsWords SpellsOldPart text) r
old_split text r h =
    is_split (SpellsWords SpellsOldPart text) (old_symbols false text)
    (λ words spells. words_read SpellsOldPart (old_symbols false) old_symbols_are spells [])
    (λ words is. words_found SpellsOldPart (old_symbols false) old_symbols_are text words is) r h

-- From one grammar to another that has the same words.
pub split_alike : (P Q : List (List ℕ) → Type 0) (r : Result (List (List ℕ)) MacroFault) → ((words : List (List ℕ)) → P words → Q words) → ((words : List (List ℕ)) → Q words → P words) → IsSplit P r → IsSplit Q r
split_alike P Q (Ok words) there back h = there words h
split_alike P Q (Err fault) there back (inl memory) = inl memory
split_alike P Q (Err fault) there back (inr (is, none)) = inr (is, λ words spells. none words (back words spells))

-- A text that begins with a double quote: the words between that and the one at its end, if one is there.
last_so : (o : Option ℕ) → unwrap_or (option_map (λ b. b == 34) o) false ≡ is_byte 34 o
last_so None = refl
last_so (Some b) = refl

pub is_last_so : (t : Bool) (behind : List ℕ) → t ≡ unwrap_or (option_map (λ b. b == 34) (slice_get behind (length behind - 1))) false → t ≡ ends_with_byte 34 behind
is_last_so t behind h = h ∙ last_so (slice_get behind (length behind - 1))

pub quoted_split : (behind : List ℕ) (r : Result (List (List ℕ)) MacroFault) → ends_with_byte 34 behind ≡ true → IsSplit (SpellsWords SpellsNewPart (take (length behind - 1) behind)) r → IsSplit (SpellsArguments (34 ∷ behind)) r
quoted_split behind r e h =
    let front = take (length behind - 1) behind in
    let split = last_splits 34 behind e in
    subst (λ (x : List ℕ). IsSplit (SpellsArguments (34 ∷ x)) r) (sym split)
    (split_alike (SpellsWords SpellsNewPart front) (SpellsArguments (34 ∷ (front ++ 34 ∷ []))) r (λ words spells. new_style spells)
    (λ words spells. words_found SpellsNewPart (new_symbols false false) new_symbols_are front words
    (ap (gathered no_words) (sym (quoted_front front)) ∙ only (34 ∷ (front ++ 34 ∷ [])) words spells)) h)

pub open_quote : (behind : List ℕ) → ends_with_byte 34 behind ≡ false → IsSplit (SpellsArguments (34 ∷ behind)) (Err BadQuote)
open_quote behind e =
    let front = take (length behind - 1) behind in
    inr (
      refl,
      λ words spells. broken no_words [] words
          (ap (gathered no_words) (sym (cond-false (ends_with_byte 34 behind) (new_symbols false false front) (Broken ∷ []) e)) ∙ only (34 ∷ behind) words spells),
    )

-- A text that begins with none is old style.
pub plain_split : (text : List ℕ) (r : Result (List (List ℕ)) MacroFault) → begins_with 34 text ≡ false → IsSplit (SpellsWords SpellsOldPart text) r → IsSplit (SpellsArguments text) r
plain_split text r e h =
    split_alike (SpellsWords SpellsOldPart text) (SpellsArguments text) r (λ words spells. old_style e spells)
    (λ words spells. words_found SpellsOldPart (old_symbols false) old_symbols_are text words
    (ap (gathered no_words) (sym (texts.old_style text e)) ∙ only text words spells)) h

pub one_list : (text : List ℕ) (words others : List (List ℕ)) → SpellsArguments text words → SpellsArguments text others → words ≡ others
one_list text words others p q = let same : Ok words ≡ Ok others = sym (only text words p) ∙ only text others q in cc

pub only_these : (text : List ℕ) (r : Result (List (List ℕ)) MacroFault) → IsSplit (SpellsArguments text) r → (words : List (List ℕ)) → SpellsArguments text words → Gives (λ given. given) r (Ok words)
only_these text (Ok given) h words spells = ap (λ (ws : List (List ℕ)). Ok ws) (one_list text words given spells h)
only_these text (Err fault) (inl memory) words spells = subst (λ (f : MacroFault). Fails f (Ok words)) (sym memory) tt
only_these text (Err fault) (inr (is, none)) words spells = absurd (none words spells)

-- What is answered of arguments, as a value.
pub gives_arguments : (text : List ℕ) (r : Result (List (List ℕ)) MacroFault) → IsSplit (SpellsArguments text) r → Gives (λ words. words) r (arguments text)
gives_arguments text (Ok words) h = only text words h
gives_arguments text (Err fault) (inl memory) = subst (λ (f : MacroFault). Fails f (arguments text)) (sym memory) tt
gives_arguments text (Err fault) (inr (is, none)) = subst (λ (f : MacroFault). Fails f (arguments text)) (sym is) (by_answer (arguments text) refl)
  where
    by_answer : (answer : Result (List (List ℕ)) MacroFault) → arguments text ≡ answer → answer ≡ Err BadQuote
    by_answer (Ok words) e = absurd (none words (found text words e))
    by_answer (Err other) e = ap (λ (f : MacroFault). Err f) (refused no_words _ other e)

pub refused_for_quotes : (text : List ℕ) (fault : MacroFault) → arguments text ≡ Err fault → fault ≡ BadQuote
refused_for_quotes text fault h = refused no_words _ fault h
