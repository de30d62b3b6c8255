-- Edges and splices of what is drawn.
use Rattle.std.proofs.Common.{◌≡◌, ℕ, zero, suc, ◌+◌, ◌<◌, ◌≤◌, List, ◌++◌, append_assoc, map, length, get_or, Option, Bor, subst, sym, ap, ◌∙◌, arith}
use Rattle.std.proofs.lemmas.List.{length-map}
use Rattle.std.proofs.lemmas.List.Elements.{All-filter, All-contains, All-cons, All-nil, Contains-get_or}
use Rattle.std.specs.List.{All, list_any, range_with_len}
use Rattle.dag_graph.specs.Graph.{children_of, is_edge}
use Rattle.run_plan.specs.Plan.{Plan, node_at, count_of}
use Rattle.status_report.specs.declared.status.Status.{Status}
use Rattle.status_report.specs.Text.{reported}
use Rattle.graph_text.specs.Names.{parts_of, splices_among}
use Rattle.graph_text.specs.Clusters.{closings, moved}
use Rattle.graph_text.specs.Picture.{drawn_node, scope_before, node_lines, all_drawn}

-- children are ordinary nodes
range-below : (from count n : ℕ) → from + count ≤ n → All (λ k. k < n) (range_with_len from count)
range-below from zero n fits = All-nil (λ k. k < n)
range-below from (suc count) n fits = All-cons (λ k. k < n) from (range_with_len (from + 1) count) (omega arith) (range-below (from + 1) count n (omega arith))

pub child-below : (plan : Plan) → count_of plan ≡ length plan.graph.dag.nodes → (node i : ℕ) (items : List ℕ) → items ≡ children_of plan.graph.dag node → i < length items
    → get_or items i 0 < count_of plan
child-below plan counted node i items is inside =
    let dag = plan.graph.dag in
    let all : All (λ c. c < length dag.nodes) items = subst (All (λ c. c < length dag.nodes)) (sym is)
    (All-filter (λ c. list_any (is_edge node c) dag.edges) (λ c. c < length dag.nodes) (range_with_len 0 (length dag.nodes)) (range-below 0 (length dag.nodes) (length dag.nodes) (omega arith))) in
    let low = All-contains (λ c. c < length dag.nodes) items (get_or items i 0) all (Contains-get_or items i 0 inside) in
    omega (arith, low, counted)

-- the nodes, one by one
module _ (plan : Plan) (states : ℕ → Option Status) (start : List ℕ) where
  pub nodes-more : (n : ℕ) (before parts : List (List ℕ)) (old now : List ℕ) → old ≡ start ++ node_lines plan states n → splices_among before ≡ scope_before plan n
      → parts ≡ parts_of (node_at plan n).name → now ≡ old ++ (moved n (splices_among before) (splices_among parts) ++ drawn_node plan (states n) n)
      → now ≡ start ++ node_lines plan states (suc n)
  nodes-more n before parts old now so_far scope are added =
      let line = drawn_node plan (states n) n in
      added
      ∙ (λ j. so_far j ++ (moved n (scope j) (splices_among (are j)) ++ line))
      ∙ append_assoc start (node_lines plan states n) _

  pub nodes-closed : (n : ℕ) (before : List (List ℕ)) (slice : List (Bor (List ℕ))) (old now : List ℕ) → old ≡ start ++ node_lines plan states n
      → splices_among before ≡ scope_before plan n → n ≡ reported plan → map (λ part. part.now) slice ≡ splices_among before → now ≡ old ++ closings 0 (length slice)
      → now ≡ start ++ all_drawn plan states
  nodes-closed n before slice old now so_far scope all are added =
      let count : length slice ≡ length (scope_before plan n) =
      sym (length-map slice (λ (part : Bor (List ℕ)). part.now)) ∙ ap length are ∙ ap length scope in
      added
      ∙ (λ j. so_far j ++ closings 0 (count j))
      ∙ append_assoc start (node_lines plan states n) _
      ∙ (λ j. start ++ (node_lines plan states (all j) ++ closings 0 (length (scope_before plan (all j)))))
