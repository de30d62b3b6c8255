-- A child that was waited for.
use Rattle.std.proofs.Common.{◌≡◌, ◌<◌, ℕ, zero, suc, List, [], ◌∷◌, Some, map, length, slice_get, slice_set, arith, ap}

-- what is read at a place that was written
pub read-where-written : {X Y : Type 0} (f : X → Y) (xs : List X) (place : ℕ) (x : X) (y : Y) → place < length xs → f x ≡ y
    → slice_get (map f (slice_set xs place x)) place ≡ Some y
read-where-written f [] place x y less is = absurd (omega (arith, less))
read-where-written f (other ∷ xs) zero x y less is = ap Some is
read-where-written f (other ∷ xs) (suc place) x y less is = read-where-written f xs place x y (omega (arith, less)) is
