-- The plan of a run, which a rescue file may mark.
use Rattle.std.specs.Prelude.{◌≡◌, ℕ, Bool, List, Option, Some, None, Ok, Err}
use Rattle.splices_flat.specs.Dag.{Dag}
use Rattle.splices_flat.specs.Opening.{Files}
use Rattle.splices_flat.specs.Opened.{dag_at}
use Rattle.splices_flat.specs.declared.fault.DagFault.{DagFault}
use Rattle.splices_flat.specs.declared.fault.SpliceFault.{SpliceFault}
use Rattle.splices_flat.specs.declared.fault.SpliceFault.TheVariants as splices
use Rattle.dag_graph.specs.declared.fault.GraphFault.{GraphFault}
use Rattle.dag_graph.specs.declared.fault.GraphFault.TheVariants as graphs
use Rattle.dag_graph.specs.Graph.{Network, IsAcyclic, IsOrderOf}
use Rattle.dag_graph.specs.Cycles.{NamesCycle}
use Rattle.run_plan.specs.Plan.{Plan}
use Rattle.run_plan.specs.Digest.{digest_of}
use Rattle.run_plan.specs.Submitted.{plan_at, bare_plan}
use Rattle.run_plan.specs.declared.fault.PlanFault.{PlanFault}
use Rattle.run_plan.specs.declared.fault.PlanFault.TheVariants as plans
use Rattle.rescue_file.specs.declared.fault.RescueFault.{RescueFault}
use Rattle.dag_main_check.specs.declared.fault.RunFault.{RunFault}
use Rattle.dag_main_check.specs.declared.fault.RunFault.TheVariants.{InFiles, Cycle, InPlan, InTable, InRescue, NotThere, Unfinished, InManager, StartMemory, WaitFault, Halted, FileRefused, Memory}

-- the graph of the files of a path
pub record IsGraphOf (files : Files) (path : List ℕ) (graph : Network) : Type 0 where
  pub is_dag : dag_at files path ≡ Ok graph.dag
  pub acyclic : IsAcyclic graph.dag.edges

-- a fault of opening files and one of a graph, as that of a command
abbrev pub in_files : SpliceFault → RunFault
in_files (splices.Dag fault) = InFiles fault
in_files splices.Memory = Memory

abbrev pub in_graph : GraphFault → RunFault
in_graph (graphs.Cycle names) = Cycle names
in_graph graphs.Memory = Memory

-- why the files of a path make no graph: opening them meets a fault; a node is its own ancestor; memory ran out
pub data IsGraphFault (files : Files) (path : List ℕ) : RunFault → Type 0 where
  not_opened : (fault : DagFault) → dag_at files path ≡ Err fault → IsGraphFault files path (InFiles fault)
  cyclic : (dag : Dag) (names : List (List ℕ)) → dag_at files path ≡ Ok dag → NamesCycle dag names → IsGraphFault files path (Cycle names)
  opening_had_no_memory : IsGraphFault files path Memory

-- the plan of files, with no submit file read; the flag says whether POST runs after a failed PRE
pub record IsPlanOf (always_post : Bool) (files : Files) (path : List ℕ) (plan : Plan) : Type 0 where
  pub is_dag : dag_at files path ≡ Ok plan.graph.dag
  pub acyclic : IsAcyclic plan.graph.dag.edges
  pub is_order : IsOrderOf plan.graph.dag plan.graph.order
  pub made : plan ≡ bare_plan always_post plan.graph

-- the plan of a graph whose submit files stand in the set, with a rescue file, if there is one
abbrev pub IsPlanBy : Bool → Files → List (List ℕ × List ℕ) → Option (List ℕ) → Network → Plan → Type 0
IsPlanBy always_post files entries rescue graph plan =
    plan_at always_post graph (Some files) rescue (digest_of graph.dag.top entries rescue) ≡ Ok plan

-- why there is none: the first fault of the submit files, of the texts of jobs and of the rescue file, whatever the flag is
pub data IsPlanByFault (files : Files) (entries : List (List ℕ × List ℕ)) (rescue : Option (List ℕ)) (graph : Network) : RunFault → Type 0 where
  has_plan_fault : (always_post : Bool) (fault : PlanFault) → plan_at always_post graph (Some files) rescue (digest_of graph.dag.top entries rescue) ≡ Err fault →
      IsPlanByFault files entries rescue graph (InPlan fault)
  planning_had_no_memory : IsPlanByFault files entries rescue graph Memory

-- the plan of the files of a path
pub record IsPlanWith (always_post : Bool) (files : Files) (entries : List (List ℕ × List ℕ)) (path : List ℕ) (rescue : Option (List ℕ)) (plan : Plan) : Type 0 where
  pub graph : Network
  pub is_graph : IsGraphOf files path graph
  pub made : IsPlanBy always_post files entries rescue graph plan

-- why there is none: the files make no graph, or it has no plan
pub data IsPlanWithFault (files : Files) (entries : List (List ℕ × List ℕ)) (path : List ℕ) (rescue : Option (List ℕ)) : RunFault → Type 0 where
  has_no_graph : (fault : RunFault) → IsGraphFault files path fault → IsPlanWithFault files entries path rescue fault
  not_planned : (graph : Network) (fault : RunFault) → IsGraphOf files path graph → IsPlanByFault files entries rescue graph fault →
      IsPlanWithFault files entries path rescue fault

-- the fault of a line of the rescue file
abbrev pub rescue_line : PlanFault → Option RescueFault
rescue_line (plans.MissingFile path) = None
rescue_line (plans.InSubmit path fault) = None
rescue_line (plans.InMacro node fault) = None
rescue_line (plans.NoExecutable node) = None
rescue_line (plans.BadUniverse node) = None
rescue_line (plans.InRescue fault) = Some fault
rescue_line plans.Memory = None

abbrev pub in_line : RunFault → Option RescueFault
in_line (InFiles fault) = None
in_line (Cycle names) = None
in_line (InPlan fault) = rescue_line fault
in_line (InTable fault) = None
in_line (InRescue file fault) = None
in_line (NotThere number) = None
in_line Unfinished = None
in_line (InManager fault) = None
in_line StartMemory = None
in_line WaitFault = None
in_line (Halted asked) = None
in_line (FileRefused file) = None
in_line Memory = None

-- such a fault is returned with the path of the rescue file
abbrev pub named_by : Option RescueFault → Option (List ℕ) → RunFault → RunFault
named_by None rescue fault = fault
named_by (Some line) None fault = fault
named_by (Some line) (Some path) fault = InRescue path line
