-- The children that are not done, as lists.
use Rattle.std.proofs.Common.{◌≡◌, ℕ, zero, suc, ◌+◌, ◌<◌, ◌≤◌, not, List, length, get_or, subst, sym, arith}
use Rattle.std.proofs.lemmas.List.Elements.{All-filter, All-cons, All-nil}
use Rattle.std.specs.List.{All, list_any, range_with_len}
use Rattle.dag_graph.specs.Graph.{children_of, is_edge}
use Rattle.node_machine.specs.declared.Record.{Record}
use Rattle.run_plan.specs.Plan.{Plan, count_of}
use Rattle.sched_core.specs.Run.{is_done}
use Rattle.failure_report.specs.Reaching.{next_in, ListsAreBelow, IsReachCount}
use Rattle.failure_report.specs.Waiting.{held_by, AreChildrenLeft}
use Rattle.failure_report.proofs.Following.{lists-many, lists-below, to-next, from-next}

pub range-below : (from count n : ℕ) → from + count ≤ n → All (λ k. k < n) (range_with_len from count)
range-below from zero n fits = All-nil (λ k. k < n)
range-below from (suc count) n fits = All-cons (λ k. k < n) from (range_with_len (from + 1) count) (omega arith) (range-below (from + 1) count n (omega arith))

pub child_low : (plan : Plan) → count_of plan ≡ length plan.graph.dag.nodes → (node i : ℕ) (items : List ℕ) → items ≡ children_of plan.graph.dag node → i < length items
    → get_or items i 0 < count_of plan
child_low plan counted node i items is inside =
    let dag = plan.graph.dag in
    let all : All (λ c. c < length dag.nodes) items = subst (All (λ c. c < length dag.nodes)) (sym is)
    (All-filter (λ c. list_any (is_edge node c) dag.edges) (λ c. c < length dag.nodes) (range_with_len 0 (length dag.nodes)) (range-below 0 (length dag.nodes) (length dag.nodes) (omega arith))) in
    let low = all i 0 inside in
    omega (arith, low, counted)

module _ (plan : Plan) (past : List Record) (counted : count_of plan ≡ length plan.graph.dag.nodes) where
  -- children are ordinary nodes
  all_low : (p : ℕ) → All (λ c. c < length plan.graph.dag.nodes) (held_by plan past p)
  all_low p =
      let dag = plan.graph.dag in
      All-filter (λ child. not (is_done plan past child)) (λ c. c < length dag.nodes) (children_of dag p)
      (All-filter (λ c. list_any (is_edge p c) dag.edges) (λ c. c < length dag.nodes) (range_with_len 0 (length dag.nodes)) (range-below 0 (length dag.nodes) (length dag.nodes) (omega arith)))

  -- and so below FINAL's place
  held_low : (p : ℕ) → All (λ v. v < suc (count_of plan)) (held_by plan past p)
  held_low p i e lt = let h = all_low p i e lt in omega (arith, h, counted)

  module _ (lists : List (List ℕ)) (are : AreChildrenLeft plan past lists) where
    pub held_many : length lists ≡ suc (count_of plan)
    held_many = lists-many (held_by plan past) (suc (count_of plan)) held_low lists are

    pub held_below : ListsAreBelow (length lists) lists
    held_below = lists-below (held_by plan past) (suc (count_of plan)) held_low lists are

    -- what is counted by the lists waits
    pub counts_waiting : (from count : ℕ) → from < suc (count_of plan) → IsReachCount (next_in lists) from count → IsReachCount (held_by plan past) from count
    counts_waiting from count low is = record {
      marks = is.marks;
      are = λ v. (
        (λ met. to-next (held_by plan past) (suc (count_of plan)) held_low lists are from low v ((is.are v).0 met)),
        (λ waits. (is.are v).1 (from-next (held_by plan past) (suc (count_of plan)) held_low lists are from low v waits)),
      );
      counted = is.counted;
    }
