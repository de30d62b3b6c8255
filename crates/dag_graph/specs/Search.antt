-- A search from a node to its ancestors.
use Rattle.std.specs.Prelude.{◌≡◌, ℕ, ◌+◌, ◌<◌, ◌≤◌, ◌⊎◌, Bool, true, not, false, List, [], ◌∷◌, ◌++◌, length, slice_set, slice_index, slice_index_or, if◌then◌else◌}
use Rattle.std.specs.List.{Contains, count_by}
use Rattle.splices_flat.specs.declared.flat.Edge.{Edge}
use Rattle.dag_graph.specs.Graph.{IsAncestor, rank_in}
use Rattle.dag_graph.specs.Climb.{up}

-- which nodes were met, and these nodes in the order in which they were
pub record Searched : Type 0 where
  pub met : List Bool
  pub found : List ℕ

abbrev pub is_met : Searched → ℕ → Bool
is_met s v = slice_index_or s.met v false

-- the same, with a node that may be new
abbrev pub with_met : Searched → ℕ → Searched
with_met s v = if is_met s v then s else (record { met = slice_set s.met v true; found = s.found ++ v ∷ [] })

-- the nodes that were found are those that were met, each once
pub record IsSearch (s : Searched) : Type 0 where
  pub below : (i : ℕ) → i < length s.found → slice_index s.found i < length s.met
  pub marked : (i : ℕ) → i < length s.found → is_met s (slice_index s.found i) ≡ true
  pub listed : (v : ℕ) → v < length s.met → is_met s v ≡ true → rank_in s.found v < length s.found
  pub count : length s.found + count_by (λ b. not b) s.met ≡ length s.met

-- these nodes were met too, and no others
pub record MeetsNodes (nodes : List ℕ) (before after : Searched) : Type 0 where
  pub search : IsSearch after
  pub len : length after.met ≡ length before.met
  pub kept : (v : ℕ) → is_met before v ≡ true → is_met after v ≡ true
  pub only : (v : ℕ) → is_met after v ≡ true → (is_met before v ≡ true) ⊎ Contains nodes v
  pub all : (k : ℕ) → k < length nodes → is_met after (slice_index nodes k) ≡ true
  pub front : (i : ℕ) → i < length before.found → slice_index after.found i ≡ slice_index before.found i
  pub longer : length before.found ≤ length after.found

-- the parents of a node are met, and those of the first nodes that were found; all of them are ancestors of the node
pub record IsUpward (edges : List Edge) (parents : List (List ℕ)) (node done : ℕ) (s : Searched) : Type 0 where
  pub search : IsSearch s
  pub len : length s.met ≡ length parents
  pub done_within : done ≤ length s.found
  pub first : (k : ℕ) → k < length (up parents node) → is_met s (slice_index (up parents node) k) ≡ true
  pub closed : (i k : ℕ) → i < done → k < length (up parents (slice_index s.found i)) → is_met s (slice_index (up parents (slice_index s.found i)) k) ≡ true
  pub sound : (v : ℕ) → is_met s v ≡ true → IsAncestor edges v node
