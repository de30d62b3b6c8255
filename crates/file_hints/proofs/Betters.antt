-- Findings with the names that may have been meant.
use Rattle.std.proofs.Common.{◌≡◌, ap, refl, List, [], ◌∷◌, ◌++◌}
use Rattle.file_hints.specs.Meant.{AreBetterIn}
use Rattle.file_hints.specs.declared.hint.Hint.{Hint}
use Rattle.file_hints.specs.declared.hint.Finding.{Finding}

-- one finding more
pub better_more : (IsBetter : Finding → Hint → Type 0) (fs gs : List Finding) (f g : Finding) → AreBetterIn IsBetter fs gs → g.line ≡ f.line → IsBetter f g.hint →
    AreBetterIn IsBetter (fs ++ f ∷ []) (gs ++ g ∷ [])
better_more IsBetter [] gs f g h line is = (g, [], ap (λ (xs : List Finding). xs ++ g ∷ []) h, line, is, refl)
better_more IsBetter (x ∷ fs) gs f g (y, more, e, stays, better, rest) line is =
    (y, more ++ g ∷ [], ap (λ (xs : List Finding). xs ++ g ∷ []) e, stays, better, better_more IsBetter fs more f g rest line is)
