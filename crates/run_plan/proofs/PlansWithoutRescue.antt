-- Plans without a rescue file: the bare plan, and which fault a plan with submit files is refused for.
use Rattle.std.proofs.Common.{◌≡◌, ℕ, Bool, true, false, List, [], ◌∷◌, Some, None, Result, Ok, Err, refl, sym, ap, ◌∙◌, subst}
use Rattle.splices_flat.specs.Opening.{Files}
use Rattle.splices_flat.specs.declared.flat.FlatNode.{FlatNode}
use Rattle.dag_graph.specs.Graph.{Network}
use Rattle.run_plan.specs.declared.fault.PlanFault.{PlanFault}
use Rattle.run_plan.specs.declared.fault.PlanFault.TheVariants.{MissingFile, InSubmit, InMacro, NoExecutable, BadUniverse, InRescue, Memory}
use Rattle.run_plan_node.specs.Node.{Program}
use Rattle.run_plan.specs.Plan.{Plan}
use Rattle.run_plan.specs.Specs.{plan_from}
use Rattle.run_plan.specs.PlanAnswers.{Fails, is_memory}
use Rattle.run_plan.specs.Submitted.{◌>>=◌, job_at, first_plan_fault, all_nodes, rescued_in, sources_of, plan_at}

bare-job : (node : FlatNode) → job_at None node ≡ Ok (Program node.file)
unfolding job_at
bare-job node = refl

-- a bare plan has no fault
bare-fine : (nodes : List FlatNode) → first_plan_fault None nodes ≡ Ok tt
bare-fine [] = refl
bare-fine (node ∷ nodes) = ap (λ r. r >>= λ job. first_plan_fault None nodes) (bare-job node) ∙ bare-fine nodes

abbrev or-given : Plan → Result Plan PlanFault → Plan
or-given other (Ok plan) = plan
or-given other (Err fault) = other

abbrev is-given : Result Plan PlanFault → Type 0
is-given (Ok plan) = Unit {0}
is-given (Err fault) = ⊥

taken : (x y : Plan) (r : Result Plan PlanFault) → r ≡ Ok y → r ≡ Ok x → y ≡ x
taken x y r is given = sym (ap (or-given x) is) ∙ ap (or-given x) given

pub bare-made : (always : Bool) (graph : Network) (digest : List ℕ) (plan : Plan) → plan_at always graph None None digest ≡ Ok plan → plan ≡ plan_from graph (sources_of always None []) digest
unfolding plan_at
bare-made always graph digest plan is =
    taken (plan_from graph (sources_of always None []) digest) plan (plan_at always graph None None digest) is
    (ap (λ r. r >>= λ none. rescued_in graph.dag None >>= λ numbers. Ok (plan_from graph (sources_of always None numbers) digest)) (bare-fine (all_nodes graph.dag)))

-- what follows the nodes' faults: a plan
abbrev made_from : (always : Bool) (graph : Network) (files : Files) (digest : List ℕ) → Result (Unit {0}) PlanFault → Result Plan PlanFault
made_from always graph files digest r = r >>= λ none. Ok (plan_from graph (sources_of always (Some files) []) digest)

fine-from : (always : Bool) (graph : Network) (files : Files) (digest : List ℕ) (r : Result (Unit {0}) PlanFault) (plan : Plan) → made_from always graph files digest r ≡ Ok plan → (r ≡ Ok tt) × (plan.graph ≡ graph)
fine-from always graph files digest (Ok none) plan is =
    (refl, ap (λ (p : Plan). p.graph) (taken (plan_from graph (sources_of always (Some files) []) digest) plan (made_from always graph files digest (Ok none)) is refl))
fine-from always graph files digest (Err fault) plan is = absurd (subst is-given (sym is) tt)

faulty-from : (always : Bool) (graph : Network) (files : Files) (digest : List ℕ) (r : Result (Unit {0}) PlanFault) (fault : PlanFault) → made_from always graph files digest r ≡ Err fault → r ≡ Err fault
faulty-from always graph files digest (Ok none) fault is = absurd (subst is-given is tt)
faulty-from always graph files digest (Err other) fault is = ap (λ r. fault-in r) is
  where
    fault-in : Result Plan PlanFault → Result (Unit {0}) PlanFault
    fault-in (Ok plan) = Ok tt
    fault-in (Err fault) = Err fault

-- with submit files: no node has a fault
pub built-fine : (always : Bool) (graph : Network) (files : Files) (digest : List ℕ) (plan : Plan) → plan_at always graph (Some files) None digest ≡ Ok plan
    → (first_plan_fault (Some files) (all_nodes graph.dag) ≡ Ok tt) × (plan.graph ≡ graph)
unfolding plan_at
built-fine always graph files digest plan is = fine-from always graph files digest (first_plan_fault (Some files) (all_nodes graph.dag)) plan is

-- or the first fault is returned
pub built-faulty : (always : Bool) (graph : Network) (files : Files) (digest : List ℕ) (fault : PlanFault) → plan_at always graph (Some files) None digest ≡ Err fault
    → first_plan_fault (Some files) (all_nodes graph.dag) ≡ Err fault
unfolding plan_at
built-faulty always graph files digest fault is = faulty-from always graph files digest (first_plan_fault (Some files) (all_nodes graph.dag)) fault is

-- a fault that is returned, and not for memory
pub told-fault : {A : Type 0} (fault : PlanFault) (answer : Result A PlanFault) → Fails fault answer → is_memory fault ≡ false → answer ≡ Err fault
told-fault Memory answer fails other = absurd (subst is-true other tt)
  where
    is-true : Bool → Type 0
    is-true true = Unit {0}
    is-true false = ⊥
told-fault (MissingFile path) answer fails other = fails
told-fault (InSubmit path fault) answer fails other = fails
told-fault (InMacro node fault) answer fails other = fails
told-fault (NoExecutable node) answer fails other = fails
told-fault (BadUniverse node) answer fails other = fails
told-fault (InRescue fault) answer fails other = fails
