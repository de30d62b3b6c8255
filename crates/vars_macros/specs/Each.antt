-- What holds of each element of a list.
use Rattle.std.specs.Prelude.{◌≡◌, ℕ, List, slice_get, Some}

abbrev pub Each : {X : Type 0} → (X → Type 0) → List X → Type 0
Each {X} P xs = (k : ℕ) (x : X) → slice_get xs k ≡ Some x → P x
