-- Lines that are gone over, one of which is emptied.
use Rattle.std.proofs.Common.{◌≡◌, ℕ, zero, suc, ◌-◌, ◌==◌, ◌<◌, List, [], ◌∷◌, ◌++◌, length, take, sym, ap, ◌∙◌, append_assoc, arith, if◌then◌else◌}
use Rattle.std.proofs.lemmas.Grind.{common_steps}
use Rattle.std.specs.List.{flat_map, join_with_byte, slice_split}
use Rattle.std.proofs.lemmas.List.Splits.{length-slice_split}
use Rattle.fault_list.specs.Emptied.{goes_on_below, lines_emptied, without_line}
use Rattle.fault_list.specs.Emptying.{with_line_feed}

-- lines with a line feed each are those that are joined at line feeds, and one line feed more
joined-ended : (line : List ℕ) (lines : List (List ℕ)) → flat_map with_line_feed (line ∷ lines) ≡ join_with_byte 10 (line ∷ lines) ++ 10 ∷ []
joined-ended line [] = grind (arith, common_steps)
joined-ended line (next ∷ lines) =
    let behind : flat_map with_line_feed (next ∷ lines) ≡ join_with_byte 10 (next ∷ lines) ++ 10 ∷ [] = joined-ended next lines in
    append_assoc line (10 ∷ []) (flat_map with_line_feed (next ∷ lines)) ∙ ap (λ (rest : List ℕ). line ++ 10 ∷ rest) behind ∙ sym (append_assoc line (10 ∷ join_with_byte 10 (next ∷ lines)) (10 ∷ []))

front-of : (front text : List ℕ) → text ≡ front ++ 10 ∷ [] → take (length text - 1) text ≡ front
front-of front text is = grind (arith, common_steps)

-- without the last line feed
last-gone : (parts : List (List ℕ)) → 0 < length parts → (above : ℕ) (text : List ℕ) → text ≡ flat_map with_line_feed (lines_emptied above parts)
    → take (length text - 1) text ≡ join_with_byte 10 (lines_emptied above parts)
last-gone [] some above text is = absurd (omega arith)
last-gone (line ∷ lines) some zero text is = front-of _ text (is ∙ joined-ended [] (if goes_on_below line then lines_emptied zero lines else lines))
last-gone (line ∷ lines) some (suc above) text is = front-of _ text (is ∙ joined-ended line (lines_emptied above lines))

pub line-gone : (number : ℕ) (bytes text : List ℕ) (above size : ℕ) (parts : List (List ℕ)) → size ≡ length text → above ≡ number - 1
    → parts ≡ slice_split (λ byte. byte == 10) bytes → text ≡ flat_map with_line_feed (lines_emptied above parts) → take (size - 1) text ≡ without_line number bytes
line-gone number bytes text above size parts long place are is =
    let some : 0 < length parts = omega (arith, ap length are ∙ length-slice_split (λ byte. byte == 10) bytes) in
    ap (λ (k : ℕ). take (k - 1) text) long ∙ last-gone parts some above text is
    ∙ ap (λ (k : ℕ). join_with_byte 10 (lines_emptied k parts)) place ∙ ap (λ (ps : List (List ℕ)). join_with_byte 10 (lines_emptied (number - 1) ps)) are
