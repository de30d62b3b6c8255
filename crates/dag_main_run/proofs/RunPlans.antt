-- What a run prints and why it is refused, by its plan; and what is said of the files that were read is said of those that are held.
use Rattle.std.proofs.Common.{◌≡◌, ℕ, Bool, List, Option, Some, None, Result, Ok, Err, IfOk, string_bytes, sym, subst}
use Rattle.splices_flat.specs.Opening.{Files}
use Rattle.splices_flat.specs.FileSet.{bytes_of, entries_of}
use Rattle.splices_flat.specs.declared.file_set.FileSet.{FileSet}
use Rattle.rescue_file.specs.Numbered.{rescue_name_of}
use Rattle.dag_graph.specs.Graph.{Network}
use Rattle.run_plan.specs.Plan.{Plan, count_of}
use Rattle.run_plan.specs.declared.fault.PlanFault.TheVariants as plans
use Rattle.dag_main_args.specs.declared.request.RunOptions.{RunOptions}
use Rattle.dag_main_files.specs.declared.rounds.Round.{Round}
use Rattle.dag_main_files.specs.Folder.{IsReadFrom}
use Rattle.dag_main_files.specs.Opened.{IsStill, still_missing, asking_had_no_memory}
use Rattle.dag_main_run.specs.Sites.{Rounds}
use Rattle.job_starter_local.specs.declared.launching.Launcher.{Launcher}
use Rattle.dag_main_run.specs.Launching.{IsLauncherBy}
use Rattle.dag_main_run.specs.RunChanges.{found_where, IsPlannedRound}
use Rattle.dag_main_run.specs.Runs.{RoundSight, any_round, held_round, IsPlannedRun, IsPlannedFor, IsRunOf, IsRunFrom, IsRoundPlanFault, not_planned, not_planned_with, planning_had_no_memory, IsRunFaultWhere, no_graph, not_found, no_plan, no_launcher, no_room, not_alone, not_held, no_memory}
use Rattle.dag_main_check.specs.Planned.{in_line, named_by}
use Rattle.dag_main_check.specs.Missing.{missing_in}
use Rattle.dag_main_check.specs.Warnings.{warning_lines}
use Rattle.dag_main_check.specs.declared.fault.RunFault.{RunFault}
use Rattle.dag_main_check.specs.declared.fault.RunFault.TheVariants.{InPlan}
use Rattle.dag_main_check.specs.declared.warnings.Answer.{Answer}
use Rattle.dag_main_check.proofs.HeldFiles.{graph-held, graph-refused, plan-held, plan-refused, planned-held}

-- why a run is refused of one set, it is of some
module _ (files : FileSet) (sight : RoundSight) (rounds : Rounds) (path : List ℕ) (options : RunOptions) where
  planned-of-some : IsPlannedFor bytes_of (λ set. set ≡ files) sight.is_round path → IsPlannedFor bytes_of (λ set. Unit {0}) sight.is_round path
  planned-of-some is = record { files = is.files; graph = is.graph; round = is.round; plan = is.plan; read = tt; is_graph = is.is_graph; is_round = is.is_round; planned = is.planned }

  pub fault-of-some : (fault : RunFault) → IsRunFaultWhere bytes_of (λ set. set ≡ files) sight rounds path options fault → IsRunFaultWhere bytes_of (λ set. Unit {0}) sight rounds path options fault
  unfolding planned-of-some
  fault-of-some fault (no_graph set why read is) = no_graph set why tt is
  fault-of-some fault (not_found set graph why read is_graph is) = not_found set graph why tt is_graph is
  fault-of-some fault (no_plan set graph round rescue why read is_graph is_round is_rescue is) = no_plan set graph round rescue why tt is_graph is_round is_rescue is
  fault-of-some fault (no_launcher why planned is) = no_launcher why (planned-of-some planned) is
  fault-of-some fault (no_room why planned is) = no_room why (planned-of-some planned) is
  fault-of-some fault (not_alone why planned is) = not_alone why (planned-of-some planned) is
  fault-of-some fault (not_held planned launcher why launches is) = not_held (planned-of-some planned) launcher why launches is
  fault-of-some fault no_memory = no_memory

  pub told-of-some : (fault told : RunFault) → IsRunFaultWhere bytes_of (λ set. set ≡ files) sight rounds path options fault → IsStill (λ file. None) fault told
      → IsRunFaultWhere bytes_of (λ set. Unit {0}) sight rounds path options told
  told-of-some fault told why (still_missing none) = fault-of-some fault why
  told-of-some fault told why asking_had_no_memory = no_memory

-- a fault that is returned with the name of the rescue file tells of no missing file
named-missing : (fault : RunFault) (name path : List ℕ) → missing_in fault ≡ Some path → missing_in (named_by (in_line fault) (Some name) fault) ≡ Some path
named-missing (InPlan (plans.InRescue line)) name path is = absurd cc
named-missing (InPlan (plans.MissingFile file)) name path is = is
named-missing (InPlan (plans.InSubmit file why)) name path is = is
named-missing (InPlan (plans.InMacro node why)) name path is = is
named-missing (InPlan (plans.NoExecutable node)) name path is = is
named-missing (InPlan (plans.BadUniverse node)) name path is = is
named-missing (InPlan plans.Memory) name path is = is
named-missing _ name path is = is

-- what is said of a set that was read is said of the files that are held
module _ (holds : Files) (files : FileSet) (path : List ℕ) (read : IsReadFrom holds path files) (sight : RoundSight) (rounds : Rounds) (options : RunOptions) where
  here : (set : FileSet) → set ≡ files → IsReadFrom holds path set
  here set same = subst (IsReadFrom holds path) (sym same) read

  run-plan-held : (set : FileSet) → set ≡ files → (graph : Network) (round : Round) (plan : Plan) → IsPlannedRun (bytes_of set) set graph round plan → IsPlannedRun holds set graph round plan
  run-plan-held set same graph round plan (rescue, is_rescue, made) =
      (rescue, is_rescue, plan-held (bytes_of set) holds (here set same).held round.always_post (entries_of set) rescue graph plan made)

  planned-for-held : IsPlannedFor bytes_of (λ set. set ≡ files) sight.is_round path → IsPlannedFor (λ set. holds) (IsReadFrom holds path) sight.is_round path
  planned-for-held is = record {
    files = is.files;
    graph = is.graph;
    round = is.round;
    plan = is.plan;
    read = here is.files is.read;
    is_graph = graph-held (bytes_of is.files) holds (here is.files is.read).held path is.graph is.is_graph;
    is_round = is.is_round;
    planned = run-plan-held is.files is.read is.graph is.round is.plan is.planned;
  }

  round-plan-refused : (set : FileSet) → set ≡ files → (graph : Network) (round : Round) (rescue : Option (List ℕ)) (fault : RunFault)
      → ((file : List ℕ) → missing_in fault ≡ Some file → holds file ≡ None)
      → IsRoundPlanFault (bytes_of set) set path graph round rescue fault → IsRoundPlanFault holds set path graph round rescue fault
  round-plan-refused set same graph round rescue fault none (not_planned why no_rescue is) =
      not_planned why no_rescue (plan-refused (bytes_of set) holds (here set same).held (entries_of set) rescue graph why none is)
  round-plan-refused set same graph round rescue fault none (not_planned_with why is) =
      not_planned_with why
      (plan-refused (bytes_of set) holds (here set same).held (entries_of set) rescue graph why
      (λ file tells. none file (named-missing why (rescue_name_of path round.used) file tells)) is)
  round-plan-refused set same graph round rescue fault none planning_had_no_memory = planning_had_no_memory

  pub fault-held : (fault : RunFault) → ((file : List ℕ) → missing_in fault ≡ Some file → holds file ≡ None) → IsRunFaultWhere bytes_of (λ set. set ≡ files) sight rounds path options fault
      → IsRunFaultWhere (λ set. holds) (IsReadFrom holds path) sight rounds path options fault
  unfolding planned-for-held
  fault-held fault none (no_graph set why same is) = no_graph set why (here set same) (graph-refused (bytes_of set) holds (here set same).held path why none is)
  fault-held fault none (not_found set graph why same is_graph is) = not_found set graph why (here set same) (graph-held (bytes_of set) holds (here set same).held path graph is_graph) is
  fault-held fault none (no_plan set graph round rescue why same is_graph is_round is_rescue is) =
      no_plan set graph round rescue why (here set same) (graph-held (bytes_of set) holds (here set same).held path graph is_graph) is_round is_rescue
      (round-plan-refused set same graph round rescue why none is)
  fault-held fault none (no_launcher why planned is) = no_launcher why (planned-for-held planned) is
  fault-held fault none (no_room why planned is) = no_room why (planned-for-held planned) is
  fault-held fault none (not_alone why planned is) = not_alone why (planned-for-held planned) is
  fault-held fault none (not_held planned launcher why launches is) = not_held (planned-for-held planned) launcher why launches is
  fault-held fault none no_memory = no_memory

  pub told-held : (fault told : RunFault) → IsRunFaultWhere bytes_of (λ set. set ≡ files) sight rounds path options fault → IsStill holds fault told
      → IsRunFaultWhere (λ set. holds) (IsReadFrom holds path) sight rounds path options told
  told-held fault told why (still_missing none) = fault-held fault none why
  told-held fault told why asking_had_no_memory = no_memory

-- A round that is planned is one of some files; and where the folder is honest, it is one of the files that are held.
module _ (Honest : Type 0) (holds : Files) (has : List ℕ → Bool) (path : List ℕ) (options : RunOptions) (files : FileSet) (round : Round) (rescue : Option (List ℕ)) (plan : Plan)
    (is : IsPlannedRound (found_where Honest holds has path options) path options files round rescue plan) where
  abbrev pub planned-some : IsPlannedFor bytes_of (λ set. Unit {0}) (any_round path options).is_round path
  planned-some = record {
    files = files;
    graph = is.graph;
    round = round;
    plan = plan;
    read = tt;
    is_graph = is.is_graph;
    is_round = is.by_options;
    planned = (rescue, is.rescue_is, is.planned);
  }

  abbrev pub planned-here : Honest → IsPlannedFor (λ set. holds) (IsReadFrom holds path) (held_round holds has path options).is_round path
  planned-here honest = let found = is.found honest in record {
    files = files;
    graph = is.graph;
    round = round;
    plan = plan;
    read = found.0;
    is_graph = graph-held (bytes_of files) holds found.0.held path is.graph is.is_graph;
    is_round = found.1;
    planned = (rescue, is.rescue_is, plan-held (bytes_of files) holds found.0.held round.always_post (entries_of files) rescue is.graph plan is.planned);
  }

  -- it is led to its end by a launcher, and prints this
  module _ (rounds : Rounds) (launcher : Launcher) (launches : IsLauncherBy options (count_of plan) launcher) where
    pub run-some : (r : Result Answer RunFault) → IfOk r (λ answer. rounds.led path options.limits launcher plan round (string_bytes answer.text) answer.status)
        → IfOk r (λ answer. string_bytes answer.warnings ≡ warning_lines plan.graph.dag.warnings)
        → IfOk r (λ answer. IsRunOf rounds path options (string_bytes answer.text) (string_bytes answer.warnings) answer.status)
    run-some (Ok answer) led notes = record {
      files = files;
      read = tt;
      round = round;
      is_round = is.by_options;
      rescue = rescue;
      rescue_is = is.rescue_is;
      launcher = launcher;
      answered = record {
        plan = plan;
        planned = record { graph = is.graph; is_graph = is.is_graph; made = is.planned };
        answered = (launches, led);
        warnings_are = notes;
      };
    }
    run-some (Err fault) led notes = tt

    pub run-here : Honest → (r : Result Answer RunFault) → IfOk r (λ answer. rounds.led path options.limits launcher plan round (string_bytes answer.text) answer.status)
        → IfOk r (λ answer. string_bytes answer.warnings ≡ warning_lines plan.graph.dag.warnings)
        → IfOk r (λ answer. IsRunFrom holds has rounds path options (string_bytes answer.text) (string_bytes answer.warnings) answer.status)
    run-here honest (Ok answer) led notes = let found = is.found honest in record {
      files = files;
      read = found.0;
      round = round;
      is_round = found.1;
      rescue = rescue;
      rescue_is = found.2;
      launcher = launcher;
      answered = record {
        plan = plan;
        planned = planned-held (bytes_of files) holds found.0.held round.always_post (entries_of files) path rescue plan (record { graph = is.graph; is_graph = is.is_graph; made = is.planned });
        answered = (launches, led);
        warnings_are = notes;
      };
    }
    run-here honest (Err fault) led notes = tt
