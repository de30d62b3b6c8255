-- The plan of a copy of a DAG.
use Rattle.std.proofs.Common.{◌≡◌, ◌∙◌, ◌≤◌, ℕ, false, List, [], map, length, Option, Some, None, Ok, refl, sym, ap, subst}
use Rattle.std.specs.Option.{option_map}
use denote.Ref.{Bor}
use Rattle.splices_flat.specs.declared.flat.FlatNode.{FlatNode}
use Rattle.splices_flat.specs.Dag.{Dag}
use Rattle.dag_graph.specs.Graph.{Network, IsOrderOf}
use Rattle.run_plan.specs.Plan.{Plan}
use Rattle.run_plan.specs.Digest.{digest_of}
use Rattle.run_plan.specs.Submitted.{plan_at, bare_plan}
use Rattle.run_plan.proofs.PlansWithoutRescue.{bare-made}
use Rattle.run_times.specs.Unlimited.{without_macros, without_limit_on, IsPlanWithoutLimit}

-- the FINAL node, as it is handed on
pub final-is : (node : Option (Bor FlatNode)) (final : Option FlatNode) → option_map (λ n. n.now) node ≡ final
    → option_map (λ n. without_macros n.now) node ≡ option_map without_macros final
final-is None final is = ap (option_map without_macros) is
final-is (Some node) final is = ap (option_map without_macros) is

-- the plan of a graph of a copy
pub plan-by : (graph : Network) (category : List ℕ) (dag : Dag) (built : Network) (plan : Plan) → dag ≡ without_limit_on category graph.dag → built.dag ≡ dag
    → plan_at false built None None (digest_of built.dag.top [] None) ≡ Ok plan → IsOrderOf plan.graph.dag plan.graph.order → IsPlanWithoutLimit graph category plan
plan-by graph category dag built plan copied built_is made ordered =
    let bare : plan ≡ bare_plan false built = bare-made false built (digest_of built.dag.top [] None) plan made in
    let dag_is : built.dag ≡ without_limit_on category graph.dag = built_is ∙ copied in
    let whole : built ≡ record { dag = without_limit_on category graph.dag; order = built.order } = λ j. record { dag = dag_is j; order = built.order } in
    record {
      order = built.order;
      is_order = subst (λ (n : Network). IsOrderOf n.dag n.order) (ap (λ (p : Plan). p.graph) bare ∙ whole) ordered;
      made = bare ∙ ap (bare_plan false) whole;
    }
