-- The values of assignments are UTF-8.
use Rattle.std.proofs.Common.{◌≡◌, Bool, true, false, ◌&&◌, List, [], ◌∷◌, ◌++◌, refl}
use Rattle.std.proofs.lemmas.Bool.{false≢true}
use Rattle.std.proofs.lemmas.Str.{IsUtf8-from_is_utf8, is_utf8-from_IsUtf8}
use Rattle.std.specs.Str.{IsUtf8, is_utf8}
use Rattle.vars_macros.specs.Texts.{are_texts, AreTexts}
use Rattle.vars_macros.specs.declared.assignment.Macro.{Macro}

both : (a b : Bool) → (a && b) ≡ true → (a ≡ true) × (b ≡ true)
both true true h = (refl, refl)
both true false h = absurd (false≢true h)
both false b h = absurd (false≢true h)

pub all_texts : (ms : List Macro) → are_texts ms ≡ true → AreTexts ms
all_texts [] h = tt
all_texts (m ∷ ms) h = let p = both (is_utf8 m.value) (are_texts ms) h in (IsUtf8-from_is_utf8 m.value p.0, all_texts ms p.1)

pub one_more : (ms : List Macro) (m : Macro) → are_texts ms ≡ true → IsUtf8 m.value → are_texts (ms ++ m ∷ []) ≡ true
one_more [] m h u = rw (is_utf8-from_IsUtf8 m.value u) refl
one_more (x ∷ xs) m h u = let p = both (is_utf8 x.value) (are_texts xs) h in rw (p.0, one_more xs m p.1 u) refl
