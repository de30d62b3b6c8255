-- Lines that are replaced, each once.
use Rattle.std.proofs.Common.{◌≡◌, ℕ, ◌==◌, ◌++◌, List, [], ◌∷◌, refl, if◌then◌else◌}
use Rattle.std.specs.List.{list_any}
use Rattle.splices_flat.specs.Warnings.{with_numbers}

pub joined-append : (numbers xs ys : List ℕ) → with_numbers numbers (xs ++ ys) ≡ with_numbers (with_numbers numbers xs) ys
joined-append numbers [] ys = refl
joined-append numbers (x ∷ xs) ys = joined-append (if list_any (λ m. m == x) numbers then numbers else numbers ++ x ∷ []) xs ys
