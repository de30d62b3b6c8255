-- The texts of each job of a plan can be expanded.
use Rattle.std.proofs.Common.{◌≡◌, ℕ, ◌+◌, Bool, true, false, List, [], ◌∷◌, Option, Some, None, Result, Ok, Err, unwrap_or, refl, sym, subst, ◌∙◌, if◌then◌else◌}
use Rattle.std.specs.Prelude.{option_to_list, is_ok}
use Rattle.std.specs.Option.{option_map}
use Rattle.std.specs.List.{list_all}
use Rattle.std.proofs.lemmas.Bool.{and_from}
use Rattle.splices_flat.specs.Dag.{Dag}
use Rattle.splices_flat.specs.Opening.{Files}
use Rattle.splices_flat.specs.declared.flat.FlatNode.{FlatNode}
use Rattle.splices_flat.specs.declared.flat.CategoryLimit.{CategoryLimit}
use Rattle.submit_file.specs.declared.submit.Assignment.{Assignment}
use Rattle.vars_macros.specs.Meaning.{MacroScope}
use Rattle.vars_macros.specs.declared.assignment.Macro.{Macro}
use Rattle.dag_graph.specs.Graph.{Network, parents_of}
use Rattle.run_plan_node.specs.declared.command.ChildCommand.{ChildCommand}
use Rattle.run_plan.specs.declared.fault.PlanFault.{PlanFault}
use Rattle.run_plan_node.specs.declared.job.JobFault.{JobFault}
use Rattle.run_plan_node.specs.Node.{Job, Program, Described, no_node}
use Rattle.run_plan.specs.Plan.{Plan}
use Rattle.run_plan_node.specs.Commands as commands
use Rattle.run_plan_node.specs.Commands.{scope_in, greatest, universe_of, job_command, checked, command_of_job, is_expandable}
use Rattle.run_plan.specs.Planned.{IsPlanned}
use Rattle.run_plan_node.specs.Specs.{spec_of, retries_of}
use Rattle.run_plan.specs.Specs.{specs_from, final_spec, plan_from}
use Rattle.run_plan.specs.Submitted.{◌>>=◌, job_at, described, described_by, kept, submit_at, assigned_to, job_or_program, first_plan_fault, all_nodes, rescued_in, sources_of, plan_at}
use Rattle.run_plan.proofs.PlanFacts.{all_get}
use Rattle.run_plan.proofs.PlanMade.{faults_append}

-- texts that were checked have a command
checked_command : (folder : List ℕ) (s : MacroScope) (done : Unit {0}) → checked folder s ≡ Ok done → is_ok (job_command folder s) ≡ true
checked_command folder s done = go (universe_of s) (job_command folder s)
  where
    go : (u : Result (Unit {0}) JobFault) (j : Result ChildCommand JobFault) → commands.◌>>=◌ u (λ known. commands.◌>>=◌ j (λ command. Ok tt)) ≡ Ok done → is_ok j ≡ true
    go (Ok x) (Ok command) e = refl
    go (Ok x) (Err fault) e = cc
    go (Err fault) j e = cc

HasCommand : FlatNode → Job → Type 0
HasCommand node job = is_ok (command_of_job node.folder job (retries_of node.settings.retry) greatest) ≡ true

described_command : (node : FlatNode) (assigned : List Macro) (job : Job) → described node assigned ≡ Ok job → HasCommand node job
unfolding HasCommand
described_command node assigned job = go (checked node.folder (scope_in node.name assigned (retries_of node.settings.retry) greatest)) refl
  where
    go : (r : Result (Unit {0}) JobFault) → checked node.folder (scope_in node.name assigned (retries_of node.settings.retry) greatest) ≡ r
        → kept node (Described node.name assigned) r ≡ Ok job → HasCommand node job
    go (Ok done) is e =
        let same : Described node.name assigned ≡ job = cc in
        subst (HasCommand node) same (checked_command node.folder (scope_in node.name assigned (retries_of node.settings.retry) greatest) done is)
    go (Err fault) is e = cc

submitted_command : (files : Files) (node : FlatNode) (job : Job) → described_by files node ≡ Ok job → HasCommand node job
submitted_command files node job = go (submit_at node.file (files node.file))
  where
    go : (r : Result (List Assignment) PlanFault) → (r >>= λ submitted. described node (assigned_to node.settings.macros submitted)) ≡ Ok job → HasCommand node job
    go (Ok submitted) e = described_command node (assigned_to node.settings.macros submitted) job e
    go (Err fault) e = cc

program_command : (node : FlatNode) (job : Job) → Program node.file ≡ job → HasCommand node job
unfolding HasCommand
program_command node job same = subst (HasCommand node) same refl

-- a job that was read has a command
job_has_command : (files : Option Files) (node : FlatNode) (job : Job) → job_at files node ≡ Ok job → HasCommand node job
unfolding job_at
job_has_command None node job e = let same : Program node.file ≡ job = cc in program_command node job same
job_has_command (Some files) node job e = go node.noop e
  where
    go : (b : Bool) → (if b then Ok (Program node.file) else described_by files node) ≡ Ok job → HasCommand node job
    go true e = let same : Program node.file ≡ job = cc in program_command node job same
    go false e = submitted_command files node job e

spec_expandable : (always : Bool) (limits : List CategoryLimit) (parents : List ℕ) (job : Job) (marked : Bool) (node : FlatNode) → HasCommand node job → is_expandable (spec_of always limits parents job marked node) ≡ true
unfolding is_expandable HasCommand
spec_expandable always limits parents job marked node has = has

-- A node whose job was read without a fault is sound, and the nodes after it have none.
first_expandable : (always : Bool) (files : Option Files) (limits : List CategoryLimit) (parents : List ℕ) (marked : Bool) (node : FlatNode) (nodes : List FlatNode) → first_plan_fault files (node ∷ nodes) ≡ Ok tt
    → (is_expandable (spec_of always limits parents (job_or_program node (job_at files node)) marked node) ≡ true) × (first_plan_fault files nodes ≡ Ok tt)
first_expandable always files limits parents marked node nodes = go (job_at files node) refl
  where
    go : (r : Result Job PlanFault) → job_at files node ≡ r → (r >>= λ job. first_plan_fault files nodes) ≡ Ok tt
        → (is_expandable (spec_of always limits parents (job_or_program node r) marked node) ≡ true) × (first_plan_fault files nodes ≡ Ok tt)
    go (Ok job) is e = (spec_expandable always limits parents job marked node (job_has_command files node job is), e)
    go (Err fault) is e = cc

specs_expandable : (always : Bool) (files : Option Files) (numbers : List ℕ) (dag : Dag) (number : ℕ) (nodes : List FlatNode) → first_plan_fault files nodes ≡ Ok tt
    → list_all is_expandable (specs_from dag (sources_of always files numbers) number nodes) ≡ true
specs_expandable always files numbers dag number [] none = refl
specs_expandable always files numbers dag number (x ∷ xs) none =
    let here = first_expandable always files dag.categories (parents_of dag number) ((sources_of always files numbers).marked number) x xs none in
    and_from _ _ here.0 (specs_expandable always files numbers dag (number + 1) xs here.1)

none_expandable : is_expandable no_node ≡ true
unfolding is_expandable
none_expandable = refl

final_expandable : (always : Bool) (files : Option Files) (numbers : List ℕ) (final_node : Option FlatNode) → first_plan_fault files (option_to_list final_node) ≡ Ok tt
    → is_expandable (unwrap_or (option_map (final_spec (sources_of always files numbers)) final_node) no_node) ≡ true
final_expandable always files numbers None none = none_expandable
final_expandable always files numbers (Some node) none = (first_expandable always files [] [] false node [] none).0

both : (first second : Result (Unit {0}) PlanFault) → (first >>= λ none. second) ≡ Ok tt → (first ≡ Ok tt) × (second ≡ Ok tt)
both (Ok x) second e = (refl, e)
both (Err fault) second e = cc

made_expandable : (always : Bool) (graph : Network) (files : Option Files) (numbers digest : List ℕ) → first_plan_fault files (all_nodes graph.dag) ≡ Ok tt → IsPlanned (plan_from graph (sources_of always files numbers) digest)
made_expandable always graph files numbers digest none =
    let parts = both (first_plan_fault files graph.dag.nodes) (first_plan_fault files (option_to_list graph.dag.final_node)) (sym (faults_append files graph.dag.nodes (option_to_list graph.dag.final_node)) ∙ none) in
    record {
      sources = sources_of always files numbers;
      made = refl;
      sound = all_get is_expandable (plan_from graph (sources_of always files numbers) digest).nodes (unwrap_or (plan_from graph (sources_of always files numbers) digest).final_node no_node)
          (specs_expandable always files numbers graph.dag 0 graph.dag.nodes parts.0) (final_expandable always files numbers graph.dag.final_node parts.1);
    }

-- What each plan keeps holds of a plan without a fault.
pub planned : (always : Bool) (graph : Network) (files : Option Files) (rescue : Option (List ℕ)) (digest : List ℕ) (plan : Plan) → plan_at always graph files rescue digest ≡ Ok plan → IsPlanned plan
unfolding plan_at
planned always graph files rescue digest plan = go (first_plan_fault files (all_nodes graph.dag)) (rescued_in graph.dag rescue) refl
  where
    go : (a : Result (Unit {0}) PlanFault) (b : Result (List ℕ) PlanFault) → first_plan_fault files (all_nodes graph.dag) ≡ a
        → (a >>= λ none. b >>= λ numbers. Ok (plan_from graph (sources_of always files numbers) digest)) ≡ Ok plan → IsPlanned plan
    go (Ok x) (Ok numbers) none e =
        let same : plan_from graph (sources_of always files numbers) digest ≡ plan = cc in
        subst IsPlanned same (made_expandable always graph files numbers digest none)
    go (Ok x) (Err fault) none e = cc
    go (Err fault) b none e = cc
