-- Lines that are cut at line feeds, joined and cut again.
use Rattle.std.proofs.Common.{◌≡◌, ℕ, zero, suc, ◌-◌, ◌==◌, ◌<◌, Bool, true, false, List, [], ◌∷◌, length, slice_index_or, refl, ap, ◌∙◌, arith, if◌then◌else◌}
use Rattle.std.proofs.lemmas.List.Splits.{slice_split_none, slice_split_at, length-slice_split}
use Rattle.std.specs.List.{onto_first, join_with_byte}
use Rattle.fault_list.specs.Emptied.{goes_on_below, lines_emptied, lines_in, without_line}

-- no byte is a line feed
abbrev IsOneLine : List ℕ → Type 0
IsOneLine [] = Unit {0}
IsOneLine (byte ∷ bytes) = ((byte == 10) ≡ false) × IsOneLine bytes

abbrev AreLines : List (List ℕ) → Type 0
AreLines [] = Unit {0}
AreLines (line ∷ lines) = IsOneLine line × AreLines lines

each-byte : (line : List ℕ) → IsOneLine line → (k d : ℕ) → k < length line → (slice_index_or line k d == 10) ≡ false
each-byte [] is k d below = absurd (omega arith)
each-byte (byte ∷ bytes) is zero d below = is.0
each-byte (byte ∷ bytes) is (suc k) d below = each-byte bytes is.1 k d (omega arith)

onto-first : (byte : ℕ) (lines : List (List ℕ)) → (byte == 10) ≡ false → AreLines lines → AreLines (onto_first byte lines)
onto-first byte [] other are = ((other, tt), tt)
onto-first byte (line ∷ lines) other are = ((other, are.0), are.1)

cut-first : (byte : ℕ) (lines : List (List ℕ)) (feed : Bool) → (byte == 10) ≡ feed → AreLines lines → AreLines (if feed then [] ∷ lines else onto_first byte lines)
cut-first byte lines true is are = (tt, are)
cut-first byte lines false is are = onto-first byte lines is are

cut-lines : (text : List ℕ) → AreLines (lines_in text)
cut-lines [] = (tt, tt)
cut-lines (byte ∷ text) = cut-first byte (lines_in text) (byte == 10) refl (cut-lines text)

either : (more : Bool) (emptied lines : List (List ℕ)) → AreLines emptied → AreLines lines → AreLines (if more then emptied else lines)
either true emptied lines some are = some
either false emptied lines some are = are

emptied-lines : (above : ℕ) (lines : List (List ℕ)) → AreLines lines → AreLines (lines_emptied above lines)
emptied-lines above [] are = tt
emptied-lines zero (line ∷ lines) are = (tt, either (goes_on_below line) (lines_emptied zero lines) lines (emptied-lines zero lines are.1) are.1)
emptied-lines (suc above) (line ∷ lines) are = (are.0, emptied-lines above lines are.1)

cut-joined : (line : List ℕ) (lines : List (List ℕ)) → AreLines (line ∷ lines) → lines_in (join_with_byte 10 (line ∷ lines)) ≡ line ∷ lines
cut-joined line [] are = slice_split_none (λ byte. byte == 10) line (each-byte line are.0)
cut-joined line (next ∷ lines) are =
    slice_split_at (λ byte. byte == 10) line 10 (join_with_byte 10 (next ∷ lines)) (each-byte line are.0) refl ∙ ap (λ (rest : List (List ℕ)). line ∷ rest) (cut-joined next lines are.1)

cut-emptied : (above : ℕ) (lines : List (List ℕ)) → 0 < length lines → AreLines lines → lines_in (join_with_byte 10 (lines_emptied above lines)) ≡ lines_emptied above lines
cut-emptied above [] some are = absurd (omega arith)
cut-emptied zero (line ∷ lines) some are = cut-joined _ _ (emptied-lines zero (line ∷ lines) are)
cut-emptied (suc above) (line ∷ lines) some are = cut-joined _ _ (emptied-lines (suc above) (line ∷ lines) are)

pub others-stay : (number : ℕ) (text : List ℕ) → lines_in (without_line number text) ≡ lines_emptied (number - 1) (lines_in text)
others-stay number text =
    let some : 0 < length (lines_in text) = omega (arith, length-slice_split (λ byte. byte == 10) text) in
    cut-emptied (number - 1) (lines_in text) some (cut-lines text)
