-- What `run` prints.
use Rattle.std.specs.Prelude.{◌≡◌, ◌≤◌, ℕ, Bool, List, Option, Some}
use Rattle.event_journal_log.specs.Image.{IsRescueNumber}
use Rattle.splices_flat.specs.FileSet.{bytes_of, entries_of}
use Rattle.splices_flat.specs.declared.file_set.FileSet.{FileSet}
use Rattle.dag_graph.specs.Graph.{Network}
use Rattle.run_plan.specs.Plan.{Plan, count_of}
use Rattle.job_starter_local.specs.declared.launching.Launcher.{Launcher}
use Rattle.rescue_file.specs.Numbered.{rescue_name_of}
use Rattle.recovery_manager.specs.declared.fault.ManagerFault.{ManagerFault}
use Rattle.dag_main_args.specs.declared.request.RunOptions.{RunOptions}
use Rattle.dag_main_run.specs.Launching.{IsLauncherBy, IsLauncherFault}
use Rattle.dag_main_run.specs.InTheWay.{IsOwnerFault, IsOrphanFault, IsReadyFault}
use Rattle.dag_main_run.specs.Sites.{Rounds}
use Rattle.dag_main_files.specs.declared.rounds.Round.{Round}
use Rattle.splices_flat.specs.Opening.{Files}
use Rattle.dag_main_files.specs.Folder.{IsReadFrom, IsRoundFrom, IsRoundFaultHeld, IsRescueReadFaultHeld, rescue_in}
use Rattle.dag_main_files.specs.Beside.{lock_name_of, IsRefusalOf, IsRoomFault, IsRoundFault, IsRoundBy, IsRescueOf, IsRescueReadFault}
use Rattle.dag_main_check.specs.Planned.{IsGraphOf, IsGraphFault, IsPlanBy, IsPlanByFault, in_line, named_by}
use Rattle.dag_main_check.specs.ByPlan.{IsAnswerByPlan}
use Rattle.dag_main_check.specs.declared.fault.RunFault.{RunFault}
use Rattle.dag_main_check.specs.declared.fault.RunFault.TheVariants.{InManager, WaitFault, Memory}

-- the plan of a graph and of its submit files, of which a set was read, with the rescue file of this round, or with none where it reads none, and with POST
-- scripts as the round runs them
abbrev pub IsPlannedRun : Files → FileSet → Network → Round → Plan → Type 0
IsPlannedRun files set graph round plan =
    (rescue : Option (List ℕ)) × IsRescueOf round rescue × IsPlanBy round.always_post files (entries_of set) rescue graph plan

-- What is known of the round that a run is: which it may be, what its rescue file may say, and why the two are not found.
pub record RoundSight : Type 1 where
  pub is_round : Round → Type 0
  pub is_rescue : Round → Option (List ℕ) → Type 0
  pub not_found : RunFault → Type 0

-- A round that is found, with the bytes of its rescue file: one that the options ask for, with numbers that rescue files can have; and where the folder is honest in which these files are
-- held and these paths are there, the one that the journal and the rescue files make of it there.
pub record IsFoundRound (Honest : Type 0) (holds : Files) (has : List ℕ → Bool) (path : List ℕ) (options : RunOptions) (round : Round) (rescue : Option (List ℕ)) : Type 0 where
  pub by_options : IsRoundBy options.autorescue options.dorescuefrom options.always_post round
  pub rescue_is : IsRescueOf round rescue
  pub next : IsRescueNumber round.next
  pub used : round.used ≤ 999
  pub held : Honest → IsRoundFrom holds has path options.autorescue options.dorescuefrom options.always_post round × (rescue ≡ rescue_in holds path round.used)

-- Why it is not known which round this is and what its rescue file says, the first cause first: the second is met where the first is not.
pub data IsFindingFault (path : List ℕ) (options : RunOptions) : RunFault → Type 0 where
  no_round : (fault : RunFault) → IsRoundFault path options.dorescuefrom fault → IsFindingFault path options fault
  no_rescue : (round : Round) (fault : RunFault) → IsRoundBy options.autorescue options.dorescuefrom options.always_post round → IsRescueReadFault path round fault →
      IsFindingFault path options fault

-- The same where these files are held and these paths are there.
pub data IsFindingFaultHeld (holds : Files) (has : List ℕ → Bool) (path : List ℕ) (options : RunOptions) : RunFault → Type 0 where
  held_no_round : (fault : RunFault) → IsRoundFaultHeld holds has path options.dorescuefrom fault → IsFindingFaultHeld holds has path options fault
  held_no_rescue : (round : Round) (fault : RunFault) → IsRoundFrom holds has path options.autorescue options.dorescuefrom options.always_post round →
      IsRescueReadFaultHeld holds path round fault → IsFindingFaultHeld holds has path options fault

-- What the options say of it; and where these files are held and these paths are there: it is the one that the journal and the rescue files make of it, and its
-- rescue file is the one that is held.
abbrev pub any_round : (path : List ℕ) → RunOptions → RoundSight
any_round path options = record {
  is_round = IsRoundBy options.autorescue options.dorescuefrom options.always_post;
  is_rescue = IsRescueOf;
  not_found = IsFindingFault path options;
}

abbrev pub held_round : Files → (List ℕ → Bool) → (path : List ℕ) → RunOptions → RoundSight
held_round holds has path options = record {
  is_round = IsRoundFrom holds has path options.autorescue options.dorescuefrom options.always_post;
  is_rescue = λ round rescue. rescue ≡ rescue_in holds path round.used;
  not_found = IsFindingFaultHeld holds has path options;
}

-- This was printed of the plan of the files of this path, by what is known of the set that was read, of the round and of its rescue file, where each set
-- stands for these files: the text and the exit status of the round that was led to its end, by the launcher that the options ask for, and the warnings of its files.
pub record IsRunWhere (says : FileSet → Files) (IsRead : FileSet → Type 0) (sight : RoundSight) (rounds : Rounds)
    (path : List ℕ) (options : RunOptions) (text warnings : List ℕ) (status : ℕ) : Type 0 where
  pub files : FileSet
  pub read : IsRead files
  pub round : Round
  pub is_round : sight.is_round round
  pub rescue : Option (List ℕ)
  pub rescue_is : sight.is_rescue round rescue
  pub launcher : Launcher
  pub answered : IsAnswerByPlan round.always_post (says files) (entries_of files) path rescue
      (λ plan. IsLauncherBy options (count_of plan) launcher × rounds.led path options.limits launcher plan round text status) warnings

-- Of some files, with the rescue file of the round that this is, or without one.
abbrev pub IsRunOf : Rounds → (path : List ℕ) → RunOptions → (text warnings : List ℕ) → (status : ℕ) → Type 0
IsRunOf rounds path options text warnings status = IsRunWhere bytes_of (λ files. Unit {0}) (any_round path options) rounds path options text warnings status

-- Where these files are held and these paths are there: of all that the DAG file names, and of the round that is found there.
abbrev pub IsRunFrom : Files → (List ℕ → Bool) → Rounds → (path : List ℕ) → RunOptions → (text warnings : List ℕ) → (status : ℕ) → Type 0
IsRunFrom holds has rounds path options text warnings status =
    IsRunWhere (λ files. holds) (IsReadFrom holds path) (held_round holds has path options) rounds path options text warnings status

-- Why it is not known under the lock: a name beside the DAG file would be too long; another manager is at work, or the lock is refused; or
-- as above.
pub data IsLockedFault (path : List ℕ) (NotFound : RunFault → Type 0) : RunFault → Type 0 where
  no_room_for_lock : (fault : RunFault) → IsRoomFault path fault → IsLockedFault path NotFound fault
  lock_refused : (fault : RunFault) → IsRefusalOf (lock_name_of path) fault → IsLockedFault path NotFound fault
  not_found_locked : (fault : RunFault) → NotFound fault → IsLockedFault path NotFound fault

-- The same as it is found first: a file beside the DAG file may be another user's, or is no regular one, or memory ran out; then as above,
-- but a journal that can't be read is looked at again under the lock.
pub data IsFirstRunFault (path : List ℕ) (NotFound : RunFault → Type 0) : RunFault → Type 0 where
  not_ours : (fault : RunFault) → IsOwnerFault path fault → IsFirstRunFault path NotFound fault
  not_found_at_first : (fault : RunFault) → NotFound fault → IsFirstRunFault path NotFound fault
  looked_again : (journal : ManagerFault) (fault : RunFault) → NotFound (InManager journal) → IsLockedFault path NotFound fault → IsFirstRunFault path NotFound fault

-- Why a round has no plan with these bytes of its rescue file: a submit file, a text of a job or a line of the rescue file has a fault, that of a line returned with
-- the name of the rescue file that the round reads; memory ran out.
pub data IsRoundPlanFault (files : Files) (set : FileSet) (path : List ℕ) (graph : Network) (round : Round) (rescue : Option (List ℕ)) : RunFault → Type 0 where
  not_planned : (fault : RunFault) → round.used ≡ 0 → IsPlanByFault files (entries_of set) rescue graph fault → IsRoundPlanFault files set path graph round rescue fault
  not_planned_with : (fault : RunFault) → IsPlanByFault files (entries_of set) rescue graph fault →
      IsRoundPlanFault files set path graph round rescue (named_by (in_line fault) (Some (rescue_name_of path round.used)) fault)
  planning_had_no_memory : IsRoundPlanFault files set path graph round rescue Memory

-- Why a round is not led to its end: nobody is told how children end; processes of an earlier manager are in the way; the file that is to have the status can't be
-- made; the journal is not readied; the round is stopped. Or memory ran out.
pub data IsStopFault (path : List ℕ) (options : RunOptions) (round : Round) (IsDeaf : Type 0) (Stopped : RunFault → Type 0) : RunFault → Type 0 where
  no_endings : IsDeaf → IsStopFault path options round IsDeaf Stopped WaitFault
  orphans_in_the_way : (fault : RunFault) → IsOrphanFault path fault → IsStopFault path options round IsDeaf Stopped fault
  no_status_file : (name : List ℕ) (fault : RunFault) → options.status_file ≡ Some name → IsRefusalOf name fault → IsStopFault path options round IsDeaf Stopped fault
  not_readied : (fault : RunFault) → IsReadyFault path round fault → IsStopFault path options round IsDeaf Stopped fault
  round_stopped : (fault : RunFault) → Stopped fault → IsStopFault path options round IsDeaf Stopped fault
  leading_had_no_memory : IsStopFault path options round IsDeaf Stopped Memory

-- Why the round is not led to its end once the lock is held, the first cause first: it is not found again which round this is, or it is
-- another one by now; or it is stopped.
pub data IsHeldFault (path : List ℕ) (options : RunOptions) (round : Round) (NotFound : RunFault → Type 0) (IsDeaf : Type 0) (Stopped : RunFault → Type 0) : RunFault → Type 0 where
  not_found_again : (fault : RunFault) → NotFound fault → IsHeldFault path options round NotFound IsDeaf Stopped fault
  another_was_at_work : (fault : RunFault) → IsRefusalOf (lock_name_of path) fault → IsHeldFault path options round NotFound IsDeaf Stopped fault
  not_led : (fault : RunFault) → IsStopFault path options round IsDeaf Stopped fault → IsHeldFault path options round NotFound IsDeaf Stopped fault

-- The plan of the round that the options ask for, by what is known of the files that were read and of the round.
pub record IsPlannedFor (says : FileSet → Files) (IsRead : FileSet → Type 0) (IsRound : Round → Type 0) (path : List ℕ) : Type 0 where
  pub files : FileSet
  pub graph : Network
  pub round : Round
  pub plan : Plan
  pub read : IsRead files
  pub is_graph : IsGraphOf (says files) path graph
  pub is_round : IsRound round
  pub planned : IsPlannedRun (says files) files graph round plan

-- Why `run` is refused, the first cause first, by what is known of the set that was read and of the round, where each set stands for these files. Each is met where those before it
-- are not: the files make no graph; it is not known which round this is, or what its rescue file says; the round has no plan; there is no
-- launcher as it is asked for; a name beside the DAG file would be too long; another manager is at work, or the lock is refused; under the lock
-- the round is another one, or is not led to its end.
pub data IsRunFaultWhere (says : FileSet → Files) (IsRead : FileSet → Type 0) (sight : RoundSight) (rounds : Rounds) (path : List ℕ) (options : RunOptions) : RunFault → Type 0 where
  no_graph : (files : FileSet) (fault : RunFault) → IsRead files → IsGraphFault (says files) path fault → IsRunFaultWhere says IsRead sight rounds path options fault
  not_found : (files : FileSet) (graph : Network) (fault : RunFault) → IsRead files → IsGraphOf (says files) path graph → IsFirstRunFault path sight.not_found fault →
      IsRunFaultWhere says IsRead sight rounds path options fault
  no_plan : (files : FileSet) (graph : Network) (round : Round) (rescue : Option (List ℕ)) (fault : RunFault) → IsRead files → IsGraphOf (says files) path graph →
      sight.is_round round → sight.is_rescue round rescue → IsRoundPlanFault (says files) files path graph round rescue fault →
      IsRunFaultWhere says IsRead sight rounds path options fault
  no_launcher : (fault : RunFault) → IsPlannedFor says IsRead sight.is_round path → IsLauncherFault options.launcher fault → IsRunFaultWhere says IsRead sight rounds path options fault
  no_room : (fault : RunFault) → IsPlannedFor says IsRead sight.is_round path → IsRoomFault path fault → IsRunFaultWhere says IsRead sight rounds path options fault
  not_alone : (fault : RunFault) → IsPlannedFor says IsRead sight.is_round path → IsRefusalOf (lock_name_of path) fault → IsRunFaultWhere says IsRead sight rounds path options fault
  not_held : (planned : IsPlannedFor says IsRead sight.is_round path) (launcher : Launcher) (fault : RunFault) → IsLauncherBy options (count_of planned.plan) launcher →
      IsHeldFault path options planned.round sight.not_found rounds.is_deaf (rounds.stopped path options.limits launcher planned.plan planned.round) fault → IsRunFaultWhere says IsRead sight rounds path options fault
  no_memory : IsRunFaultWhere says IsRead sight rounds path options Memory

-- of some files, and a round that the options ask for
abbrev pub IsRunFault : Rounds → (path : List ℕ) → RunOptions → RunFault → Type 0
IsRunFault rounds path options = IsRunFaultWhere bytes_of (λ files. Unit {0}) (any_round path options) rounds path options

-- Where these files are held and these paths are there: of all that the DAG file names, and of the round that is found there.
abbrev pub IsRunFaultFrom : Files → (List ℕ → Bool) → Rounds → (path : List ℕ) → RunOptions → RunFault → Type 0
IsRunFaultFrom holds has rounds path options = IsRunFaultWhere (λ files. holds) (IsReadFrom holds path) (held_round holds has path options) rounds path options
