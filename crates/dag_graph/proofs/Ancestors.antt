-- Ranks, cycles and ancestors.
use Rattle.std.proofs.Common.{ℕ, ◌<◌, List, [], ◌∷◌, arith}
use Rattle.splices_flat.specs.declared.flat.Edge.{Edge}
use Rattle.dag_graph.specs.Graph.{IsAncestor, direct, through, IsAcyclic, RisesAlong, Leads, IsCycle}

lower : (rank : ℕ → ℕ) (edges : List Edge) (a v : ℕ) → RisesAlong rank edges → IsAncestor edges a v → rank a < rank v
lower rank edges a v ranked (direct is) = ranked _ _ is
lower rank edges a v ranked (through {a = b} {p = p} {v = w} more is) =
    let x : rank b < rank p = lower rank edges b p ranked more in
    let y : rank p < rank w = ranked p w is in
    omega arith

pub ranked_acyclic : (rank : ℕ → ℕ) (edges : List Edge) → RisesAlong rank edges → IsAcyclic edges
ranked_acyclic rank edges ranked = λ v self. let bad : rank v < rank v = lower rank edges v v ranked self in absurd (omega arith)

leads_on : (edges : List Edge) (a x : ℕ) (xs : List ℕ) (end : ℕ) → IsAncestor edges a x → Leads edges x xs end → IsAncestor edges a end
leads_on edges a x [] end up is = through up is
leads_on edges a x (y ∷ ys) end up (is, rest) = leads_on edges a y ys end (through up is) rest

leads : (edges : List Edge) (x : ℕ) (xs : List ℕ) (end : ℕ) → Leads edges x xs end → IsAncestor edges x end
leads edges x [] end is = direct is
leads edges x (y ∷ ys) end (is, rest) = leads_on edges x y ys end (direct is) rest

pub cycle_cyclic : (edges : List Edge) (nodes : List ℕ) → IsCycle edges nodes → ¬ (IsAcyclic edges)
cycle_cyclic edges [] is = absurd is
cycle_cyclic edges (x ∷ xs) (round, least, apart) = λ acyclic. acyclic x (leads edges x xs x round)
