-- The plan of a graph with its submit files and a rescue file, or the first fault of these.
use Rattle.std.specs.Prelude.{ℕ, Bool, true, false, List, [], ◌∷◌, ◌++◌, map, filter, Option, Some, None, option_to_list, Result, Ok, Err, if◌then◌else◌}
use Rattle.std.specs.Str.{is_utf8}
use Rattle.dag_reader.specs.declared.command.Placement.{Placement}
use Rattle.dag_reader.specs.declared.command.Placement.TheVariants.{Prepend, Append}
use Rattle.dag_graph.specs.Graph.{Network}
pub use Rattle.dag_reader.specs.Results.{◌>>=◌}
use Rattle.splices_flat.specs.Dag.{Dag}
use Rattle.splices_flat.specs.Opening.{Files}
use Rattle.splices_flat.specs.declared.flat.FlatNode.{FlatNode}
use Rattle.splices_flat.specs.declared.flat.MacroSetting.{MacroSetting}
use Rattle.submit_file.specs.Submit.{submit_of}
use Rattle.submit_file.specs.declared.submit.Assignment.{Assignment}
use Rattle.submit_file.specs.declared.fault.SubmitFault.{SubmitFault}
use Rattle.submit_file.specs.declared.fault.SubmitFault.TheVariants.{NotText}
use Rattle.vars_macros.specs.declared.assignment.Macro.{Macro}
use Rattle.vars_macros.specs.declared.expanding.Attempt.{Attempt}
use Rattle.rescue_file.specs.Reading.{rescued_of}
use Rattle.rescue_file.specs.declared.fault.RescueFault.{RescueFault}
use Rattle.run_plan_node.specs.declared.job.JobFault.{JobFault}
use Rattle.run_plan_node.specs.declared.job.JobFault.TheVariants as job
use Rattle.run_plan.specs.declared.fault.PlanFault.{PlanFault}
use Rattle.run_plan.specs.declared.fault.PlanFault.TheVariants.{MissingFile, InSubmit, InMacro, NoExecutable, BadUniverse, InRescue, Memory}
use Rattle.run_plan_node.specs.Node.{Job, Program, Described}
use Rattle.run_plan.specs.Plan.{Plan}
use Rattle.run_plan_node.specs.Commands.{scope_in, greatest, checked}
use Rattle.run_plan.specs.Digest.{digest_of}
use Rattle.run_plan_node.specs.Specs.{retries_of}
use Rattle.run_plan.specs.Specs.{Sources, is_listed, plan_from}

abbrev pub fault_in_job : List ℕ → JobFault → PlanFault
fault_in_job name job.Memory = Memory
fault_in_job name (job.InMacro fault) = InMacro name fault
fault_in_job name job.NoExecutable = NoExecutable name
fault_in_job name job.BadUniverse = BadUniverse name

abbrev pub macro_of_setting : MacroSetting → Macro
macro_of_setting m = record { name = m.name; value = m.text; vars = true }

abbrev pub macro_of_assignment : Assignment → Macro
macro_of_assignment a = record { name = a.name; value = a.value; vars = false }

abbrev pub same_placement : Placement → Placement → Bool
same_placement Prepend Prepend = true
same_placement Append Append = true
same_placement p q = false

abbrev pub has_placement : Placement → MacroSetting → Bool
has_placement placement m = same_placement m.placement placement

-- What is assigned to the names of a job, in the order in which it counts: the macros of VARS lines that are prepended, the
-- submit file's assignments, and the macros that are appended.
abbrev pub assigned_to : List MacroSetting → List Assignment → List Macro
assigned_to macros submitted =
    map macro_of_setting (filter (has_placement Prepend) macros) ++ map macro_of_assignment submitted
    ++ map macro_of_setting (filter (has_placement Append) macros)

-- the last attempt of a node that is allowed, and the greatest launch number
abbrev pub last_attempt : FlatNode → Attempt
last_attempt node = record { retry = retries_of node.settings.retry; launch = greatest }

abbrev pub kept : FlatNode → Job → Result (Unit {0}) JobFault → Result Job PlanFault
kept node job (Ok done) = Ok job
kept node job (Err fault) = Err (fault_in_job node.name fault)

-- The job that a node's submit file and macros describe. Its texts are expanded for the last attempt that is allowed.
abbrev pub described : FlatNode → List Macro → Result Job PlanFault
described node assigned =
    kept node (Described node.name assigned)
    (checked node.folder (scope_in node.name assigned (retries_of node.settings.retry) greatest))

-- the assignments of a submit file's bytes
abbrev pub submit_in : List ℕ → Result (List Assignment) SubmitFault
submit_in bytes = if is_utf8 bytes then submit_of bytes else Err NotText

abbrev pub in_submit : List ℕ → Result (List Assignment) SubmitFault → Result (List Assignment) PlanFault
in_submit path (Ok submitted) = Ok submitted
in_submit path (Err fault) = Err (InSubmit path fault)

abbrev pub submit_at : List ℕ → Option (List ℕ) → Result (List Assignment) PlanFault
submit_at path None = Err (MissingFile path)
submit_at path (Some bytes) = in_submit path (submit_in bytes)

abbrev pub described_by : Files → FlatNode → Result Job PlanFault
described_by files node =
    submit_at node.file (files node.file) >>= λ submitted. described node (assigned_to node.settings.macros submitted)

-- The job of a node, or the first fault of its submit file and of its texts. A NOOP has no submit file read, and where
-- there are no files none has: the job is started by the path of its submit file.
unfoldable pub job_at : Option Files → FlatNode → Result Job PlanFault
job_at None node = Ok (Program node.file)
job_at (Some files) node = if node.noop then Ok (Program node.file) else described_by files node

abbrev pub job_or_program : FlatNode → Result Job PlanFault → Job
job_or_program node (Ok job) = job
job_or_program node (Err fault) = Program node.file

-- the first fault of nodes, in plan order
abbrev pub first_plan_fault : Option Files → List FlatNode → Result (Unit {0}) PlanFault
first_plan_fault files [] = Ok tt
first_plan_fault files (node ∷ nodes) = job_at files node >>= λ job. first_plan_fault files nodes

-- FINAL is the last of all nodes
abbrev pub all_nodes : Dag → List FlatNode
all_nodes dag = dag.nodes ++ option_to_list dag.final_node

abbrev pub in_rescue : Result (List ℕ) RescueFault → Result (List ℕ) PlanFault
in_rescue (Ok numbers) = Ok numbers
in_rescue (Err fault) = Err (InRescue fault)

-- the nodes that a rescue file marks as done
abbrev pub rescued_in : Dag → Option (List ℕ) → Result (List ℕ) PlanFault
rescued_in dag None = Ok []
rescued_in dag (Some bytes) = in_rescue (rescued_of dag bytes)

abbrev pub sources_of : Bool → Option Files → List ℕ → Sources
sources_of always_post files numbers = record {
  job = λ node. job_or_program node (job_at files node);
  marked = is_listed numbers;
  always_post = always_post;
}

-- The plan of a graph, or the first fault: those of the nodes in plan order, then that of the rescue file. The flag says
-- whether POST runs after a failed PRE.
unfoldable pub plan_at : Bool → Network → Option Files → Option (List ℕ) → List ℕ → Result Plan PlanFault
plan_at always_post graph files rescue digest =
    first_plan_fault files (all_nodes graph.dag) >>= λ none. rescued_in graph.dag rescue >>= λ numbers.
    Ok (plan_from graph (sources_of always_post files numbers) digest)

-- the plan of a graph whose submit files aren't read, with no rescue file
abbrev pub bare_plan : Bool → Network → Plan
bare_plan always_post graph = plan_from graph (sources_of always_post None []) (digest_of graph.dag.top [] None)
