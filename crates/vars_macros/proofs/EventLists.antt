-- What is met one after another.
use Rattle.std.proofs.Common.{◌≡◌, ◌∙◌, sym, ap, refl, ℕ, ◌+◌, Bool, false, ◌||◌, List, [], ◌∷◌, ◌++◌, map, arith}
use Rattle.std.proofs.Math.Bool.{or_assoc}
use Rattle.vars_macros.specs.Expansion.{Event, Wrote, Replaced, Refused}
use Rattle.vars_macros.specs.Defined.{written_in, references_replaced, whole_in, NoneRefused}

pub written_append : (xs ys : List Event) → written_in (xs ++ ys) ≡ written_in xs ++ written_in ys
written_append [] ys = refl
written_append (Wrote b ∷ xs) ys = ap (λ (bs : List ℕ). b ∷ bs) (written_append xs ys)
written_append (Replaced whole ∷ xs) ys = written_append xs ys
written_append (Refused fault ∷ xs) ys = written_append xs ys

pub replaced_append : (xs ys : List Event) → references_replaced (xs ++ ys) ≡ references_replaced xs + references_replaced ys
replaced_append [] ys = omega arith
replaced_append (Wrote b ∷ xs) ys = replaced_append xs ys
replaced_append (Replaced whole ∷ xs) ys = omega (arith, replaced_append xs ys)
replaced_append (Refused fault ∷ xs) ys = replaced_append xs ys

pub whole_append : (xs ys : List Event) → whole_in (xs ++ ys) ≡ (whole_in xs || whole_in ys)
whole_append [] ys = refl
whole_append (Wrote b ∷ xs) ys = whole_append xs ys
whole_append (Replaced whole ∷ xs) ys = ap (λ (b : Bool). whole || b) (whole_append xs ys) ∙ sym (or_assoc whole (whole_in xs) (whole_in ys))
whole_append (Refused fault ∷ xs) ys = whole_append xs ys

pub lawful_parts : (xs ys : List Event) → NoneRefused (xs ++ ys) → NoneRefused xs × NoneRefused ys
lawful_parts [] ys h = (tt, h)
lawful_parts (Wrote b ∷ xs) ys h = lawful_parts xs ys h
lawful_parts (Replaced whole ∷ xs) ys h = lawful_parts xs ys h
lawful_parts (Refused fault ∷ xs) ys h = absurd h

pub lawful_append : (xs ys : List Event) → NoneRefused xs → NoneRefused ys → NoneRefused (xs ++ ys)
lawful_append [] ys g h = h
lawful_append (Wrote b ∷ xs) ys g h = lawful_append xs ys g h
lawful_append (Replaced whole ∷ xs) ys g h = lawful_append xs ys g h
lawful_append (Refused fault ∷ xs) ys g h = absurd g

-- a text that is written as it is
pub written_plain : (bs : List ℕ) → written_in (map Wrote bs) ≡ bs
written_plain [] = refl
written_plain (b ∷ bs) = ap (λ (xs : List ℕ). b ∷ xs) (written_plain bs)

pub replaced_plain : (bs : List ℕ) → references_replaced (map Wrote bs) ≡ 0
replaced_plain [] = refl
replaced_plain (b ∷ bs) = replaced_plain bs

pub whole_plain : (bs : List ℕ) → whole_in (map Wrote bs) ≡ false
whole_plain [] = refl
whole_plain (b ∷ bs) = whole_plain bs

pub lawful_plain : (bs : List ℕ) → NoneRefused (map Wrote bs)
lawful_plain [] = tt
lawful_plain (b ∷ bs) = lawful_plain bs
