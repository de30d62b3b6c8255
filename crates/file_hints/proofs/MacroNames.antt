-- The bytes of a macro's name are a text.
use Rattle.std.proofs.Common.{◌≡◌, ◌∙◌, sym, subst, refl, ℕ, zero, suc, ◌+◌, ◌<◌, Bool, true, false, cond, List, [], ◌∷◌, length, take, arith}
use Rattle.std.specs.Prelude.{slice_index}
use Rattle.std.specs.List.{take_while, prefix_len}
use Rattle.std.specs.Str.{IsUtf8}
use Rattle.std.proofs.lemmas.Str.{IsUtf8-nil, IsUtf8-append, IsUtf8-from_ascii}
use Rattle.std.proofs.lemmas.List.Folds.{length-prefix_len}
use Rattle.file_hints.specs.References.{is_reference_byte, references_from}

one_ascii : (c : ℕ) → c < 128 → (i : ℕ) → slice_index (c ∷ []) i < 128
one_ascii c low zero = low
one_ascii c low (suc i) = omega arith

name_byte_ascii : (b : ℕ) → is_reference_byte b ≡ true → b < 128
name_byte_ascii b h = grind arith

text_by : (test : Bool) (b n : ℕ) (bs : List ℕ) → (test ≡ true → b < 128) → IsUtf8 (take n bs) → IsUtf8 (take (cond test (1 + n) 0) (b ∷ bs))
text_by true b n bs low u =
    let more : suc n ≡ 1 + n = omega arith in
    subst (λ (m : ℕ). IsUtf8 (take m (b ∷ bs))) more (IsUtf8-append (b ∷ []) (take n bs) (IsUtf8-from_ascii (b ∷ []) (one_ascii b (low refl))) u)
text_by false b n bs low u = IsUtf8-nil

front_text : (bs : List ℕ) → IsUtf8 (take (prefix_len is_reference_byte bs) bs)
front_text [] = IsUtf8-nil
front_text (b ∷ bs) = text_by (is_reference_byte b) b (prefix_len is_reference_byte bs) bs (name_byte_ascii b) (front_text bs)

pub name_text : (bs : List ℕ) (at : ℕ) → at ≡ length (take_while is_reference_byte bs) → IsUtf8 (take at bs)
name_text bs at h = subst (λ (n : ℕ). IsUtf8 (take n bs)) (sym (h ∙ length-prefix_len is_reference_byte bs)) (front_text bs)

-- after the last byte no reference is left
pub none_left : (dollar : Bool) (rest : List ℕ) → length rest < 1 → references_from dollar rest ≡ []
none_left dollar [] h = refl
none_left dollar (b ∷ bs) h = absurd (omega arith)
