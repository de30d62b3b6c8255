-- Paths that come back, and the fault that reports them.
use Rattle.std.specs.Prelude.{◌≡◌, ℕ, ◌+◌, ◌-◌, ◌<◌, List, [], ◌∷◌, length, map, slice_index}
use Rattle.splices_flat.specs.declared.flat.Edge.{Edge}
use Rattle.splices_flat.specs.Dag.{Dag}
use Rattle.dag_graph.specs.declared.fault.GraphFault.{GraphFault}
use Rattle.dag_graph.specs.declared.fault.GraphFault.TheVariants.{Cycle, Memory}
use Rattle.dag_graph.specs.Graph.{IsParent, Leads, IsCycle, AreDistinct, rank_in, name_of}

-- each node of a path is followed by one of its parents, one of the parents of the last is on it, and none comes twice
pub record IsClosedBy (edges : List Edge) (path : List ℕ) (parent : ℕ) : Type 0 where
  pub chain : (i : ℕ) → i + 1 < length path → IsParent edges (slice_index path (i + 1)) (slice_index path i)
  pub last : IsParent edges parent (slice_index path (length path - 1))
  pub there : rank_in path parent < length path
  pub apart : AreDistinct path

-- each is a parent of the next, and the last is one of the first
abbrev pub IsCycleOf : List Edge → List ℕ → Type 0
IsCycleOf edges [] = ⊥
IsCycleOf edges (x ∷ xs) = Leads edges x xs x

-- the full names of the nodes of a cycle
pub record NamesCycle (dag : Dag) (names : List (List ℕ)) : Type 0 where
  pub nodes : List ℕ
  pub is_cycle : IsCycle dag.edges nodes
  pub are_names : names ≡ map (name_of dag) nodes

-- where memory lasts there is a cycle
abbrev pub IsCycleFault : Dag → GraphFault → Type 0
IsCycleFault dag (Cycle names) = NamesCycle dag names
IsCycleFault dag Memory = Unit {0}
