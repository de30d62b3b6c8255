-- Lines that are joined.
use Rattle.std.proofs.Common.{◌≡◌, ℕ, List, [], ◌∷◌, ◌++◌, Bor, map, refl, sym, ap}
use Rattle.std.specs.List.{join_by}
use Rattle.std.proofs.lemmas.List.Folds.{flat_map-map}

pub joined_now : (between : List ℕ) (lines : List (Bor (List ℕ))) → join_by (λ (line : Bor (List ℕ)). line.now) between lines ≡ join_by (λ (line : List ℕ). line) between (map (λ (line : Bor (List ℕ)). line.now) lines)
joined_now between [] = refl
joined_now between (line ∷ lines) = ap (λ (rest : List ℕ). line.now ++ rest) (sym (flat_map-map (λ (next : List ℕ). between ++ next) (λ (next : Bor (List ℕ)). next.now) lines))
