-- The plans of files.
use Rattle.std.proofs.Common.{◌≡◌, ◌∙◌, ℕ, List, [], Bool, true, false, Some, None, Ok, ap, sym, subst, refl, if◌then◌else◌}
use Rattle.splices_flat.specs.Opening.{Files}
use Rattle.splices_flat.specs.Opened.{dag_at}
use Rattle.splices_flat.specs.Dag.{Dag}
use Rattle.splices_flat.specs.declared.fault.SpliceFault.{SpliceFault}
use Rattle.splices_flat.specs.declared.fault.SpliceFault.TheVariants as splices
use Rattle.splices.specs.Adds as opened
use Rattle.dag_graph.specs.Cycles.{IsCycleFault}
use Rattle.dag_graph.specs.declared.fault.GraphFault.{GraphFault}
use Rattle.dag_graph.specs.declared.fault.GraphFault.TheVariants as graphs
use Rattle.dag_graph.specs.Graph.{Network, IsAcyclic, IsOrderOf}
use Rattle.run_plan.specs.Plan.{Plan}
use Rattle.run_plan.specs.Digest.{digest_of}
use Rattle.run_plan.specs.PlanAnswers.{Fails, is_memory}
use Rattle.run_plan.specs.Submitted.{first_plan_fault, all_nodes, plan_at, bare_plan}
use Rattle.run_plan.specs.declared.fault.PlanFault.{PlanFault}
use Rattle.run_plan.proofs.PlansWithoutRescue.{bare-made, built-fine, built-faulty, told-fault}
use Rattle.dag_main_check.specs.Checked.{IsCheckFault, not_sound, checking_had_no_memory, in_plan}
use Rattle.dag_main_check.specs.Planned.{IsPlanOf, IsGraphFault, in_files, in_graph, not_opened, cyclic, opening_had_no_memory}
use Rattle.dag_main_check.specs.declared.fault.RunFault.TheVariants.{InPlan, Memory}

-- a plan with no submit file read
module _ (always : Bool) (files : Files) (path : List ℕ) (graph : Network) (plan : Plan) (dag : dag_at files path ≡ Ok graph.dag) (acyclic : IsAcyclic graph.dag.edges)
    (made : plan_at always graph None None (digest_of graph.dag.top [] None) ≡ Ok plan) where
  is-bare : plan ≡ bare_plan always graph
  is-bare = bare-made always graph (digest_of graph.dag.top [] None) plan made

  graph-is : plan.graph ≡ graph
  graph-is = ap (λ (p : Plan). p.graph) is-bare

  pub is-plan : IsOrderOf plan.graph.dag plan.graph.order → IsPlanOf always files path plan
  is-plan order = record {
    is_dag = dag ∙ ap (λ (g : Network). Ok g.dag) (sym graph-is);
    acyclic = subst (λ (g : Network). IsAcyclic g.dag.edges) (sym graph-is) acyclic;
    is_order = order;
    made = is-bare ∙ ap (bare_plan always) (sym graph-is);
  }

-- a plan with its submit files
module _ (always : Bool) (files : Files) (path : List ℕ) (graph : Network) (digest : List ℕ) (dag : dag_at files path ≡ Ok graph.dag) (acyclic : IsAcyclic graph.dag.edges) where
  module _ (plan : Plan) (made : plan_at always graph (Some files) None digest ≡ Ok plan) where
    same-graph : graph ≡ plan.graph
    same-graph = sym (built-fine always graph files digest plan made).1

    pub full-dag : dag_at files path ≡ Ok plan.graph.dag
    full-dag = dag ∙ ap (λ (g : Network). Ok g.dag) same-graph

    pub full-acyclic : IsAcyclic plan.graph.dag.edges
    full-acyclic = subst (λ (g : Network). IsAcyclic g.dag.edges) same-graph acyclic

    pub full-sound : first_plan_fault (Some files) (all_nodes plan.graph.dag) ≡ Ok tt
    full-sound = subst (λ (g : Network). first_plan_fault (Some files) (all_nodes g.dag) ≡ Ok tt) same-graph (built-fine always graph files digest plan made).0

  pub full-refused : (fault : PlanFault) → Fails fault (plan_at always graph (Some files) None digest) → IsCheckFault files path (in_plan fault)
  full-refused fault fails = go (is_memory fault) refl
    where
      go : (b : Bool) → is_memory fault ≡ b → IsCheckFault files path (if b then Memory else InPlan fault)
      go true is = checking_had_no_memory
      go false is = not_sound graph.dag fault dag acyclic (built-faulty always graph files digest fault (told-fault fault (plan_at always graph (Some files) None digest) fails is))

-- files that make no graph
pub unopened : (files : Files) (path : List ℕ) (refusal : SpliceFault) → opened.Fails refusal (dag_at files path) → IsGraphFault files path (in_files refusal)
unopened files path (splices.Dag fault) fails = not_opened fault fails
unopened files path splices.Memory fails = opening_had_no_memory

pub no-graph : (files : Files) (path : List ℕ) (dag : Dag) (refusal : GraphFault) → dag_at files path ≡ Ok dag → IsCycleFault dag refusal
    → IsGraphFault files path (in_graph refusal)
no-graph files path dag (graphs.Cycle names) is cycle = cyclic dag names is cycle
no-graph files path dag graphs.Memory is cycle = opening_had_no_memory
