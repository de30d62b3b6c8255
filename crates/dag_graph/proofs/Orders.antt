-- The order of a climb that is over, and the path of one that came back.
use Rattle.std.proofs.Common.{◌≡◌, ℕ, ◌+◌, ◌-◌, ◌<◌, ◌≤◌, Bool, true, false, not, cond, List, length, get_or, slice_index, count_by, sym, ◌∙◌, subst, arith}
use Rattle.std.specs.List.{All}
use Rattle.std.proofs.lemmas.List.{get_or_default}
use Rattle.std.proofs.lemmas.List.Sums.{sum_by-le}
use Rattle.splices_flat.specs.declared.flat.Edge.{Edge}
use Rattle.splices_flat.specs.Dag.{Dag}
use Rattle.dag_graph.specs.Graph.{IsOrderOf, rank_in}
use Rattle.dag_graph.specs.Climb.{Climbing, IsClosed, IsFullClimb, up}
use Rattle.dag_graph.specs.Cycles.{IsClosedBy}
use Rattle.dag_graph.proofs.Ranks.{rank_at}
use Rattle.dag_graph.proofs.Told.{Tells}

none_left : (marks : List Bool) → ((i : ℕ) → i < length marks → get_or marks i false ≡ true) → count_by (λ b. not b) marks ≡ 0
none_left marks all =
    let each : All (λ b. cond (not b) 1 0 ≤ 0) marks = λ k d lt.
    let is : get_or marks k d ≡ true = get_or_default marks k d false lt ∙ all k lt in
    subst (λ (b : Bool). cond (not b) 1 0 ≤ 0) (sym is) (omega arith) in
    omega (arith, sum_by-le (λ b. cond (not b) 1 0) 0 marks each)

pub is_order : (dag : Dag) (parents : List (List ℕ)) (c : Climbing) → Tells (length dag.nodes) dag.edges parents → IsFullClimb parents c → IsOrderOf dag c.order
is_order dag parents c told is =
    let climb = is.climb in
    let none : count_by (λ b. not b) c.placed ≡ 0 = none_left c.placed (λ i lt. is.all i (omega (arith, climb.placed_len))) in
    let within = λ (v : ℕ) (low : v < length dag.nodes). climb.there v (omega (arith, told.len)) (is.all v (omega (arith, told.len))) in
    record {
      all = omega (arith, climb.count, told.len, none);
      places = λ v low. rank_at c.order v (within v low);
      within = within;
      ranked = λ p v e.
          let low : v < length parents = (let h = told.child_below p v e in omega (arith, h, told.len)) in
          let there = told.listed p v e in
          let at : slice_index (up parents v) there.0 ≡ p = get_or_default (up parents v) there.0 0 p there.1 ∙ there.2 in
          subst (λ (u : ℕ). rank_in c.order u < rank_in c.order v) at (climb.ranked v there.0 low (is.all v low) there.1);
    }

pub closed_by : (count : ℕ) (edges : List Edge) (parents : List (List ℕ)) (path : List ℕ) (parent : ℕ) → Tells count edges parents → IsClosed parents path parent → IsClosedBy edges path parent
closed_by count edges parents path parent told is = record {
  chain = λ i lt. told.said (slice_index path (i + 1)) (slice_index path i) (is.chain i lt);
  last = told.said parent (slice_index path (length path - 1)) is.last;
  there = is.there;
  apart = is.apart;
}
