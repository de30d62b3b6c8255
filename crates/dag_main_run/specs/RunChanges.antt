-- What a run changes beside its DAG file, and in which order.
use Rattle.std.specs.Prelude.{◌≡◌, ℕ, Bool, true, false, List, [], ◌∷◌, ◌++◌, Option, codes, Result, Ok, Err, IsErr}
use Rattle.splices_flat.specs.Opening.{Files}
use Rattle.splices_flat.specs.FileSet.{bytes_of, entries_of}
use Rattle.splices_flat.specs.declared.file_set.FileSet.{FileSet}
use Rattle.dag_graph.specs.Graph.{Network}
use Rattle.run_plan.specs.Plan.{Plan, count_of}
use Rattle.job_starter_local.specs.declared.launching.Launcher.{Launcher}
use Rattle.dag_main_args.specs.declared.request.RunOptions.{RunOptions}
use Rattle.dag_main_check.specs.declared.fault.RunFault.{RunFault}
use Rattle.dag_main_check.specs.declared.fault.RunFault.TheVariants.{Memory}
use Rattle.dag_main_check.specs.Planned.{IsGraphOf, IsPlanBy}
use Rattle.dag_main_files.specs.declared.changes.Change.TheVariants.{Made, Settled, Led}
use Rattle.dag_main_files.specs.declared.rounds.Journaled.{Journaled}
use Rattle.dag_main_files.specs.declared.rounds.Journaled.TheVariants.{Nothing, Finished, Unfinished}
use Rattle.dag_main_files.specs.declared.rounds.Round.{Round}
use Rattle.dag_main_files.specs.Beside.{journal_name_of, IsRoundBy, IsRescueOf}
use Rattle.dag_main_files.specs.Folder.{IsReadFrom, IsRoundFrom, rescue_in}
use Rattle.dag_main_files.specs.Changes.{FileChange, AreBegun, AreSome, AreHigher, locks, unlocks, under_lock, puts_journal_away, puts_rescues_away}
use Rattle.round_inputs.specs.KeptInputs.{keeps_sums, keeps_files}
use Rattle.dag_main_run.specs.InTheWay.{IsOrphanFault, IsReadyFault}
use Rattle.dag_main_run.specs.Launching.{IsLauncherBy}
use Rattle.dag_main_run.specs.Sites.{Rounds}

-- A round that goes back puts the rescue files of these numbers away.
abbrev pub clears_rescues : Bool → (top : List ℕ) → (numbers : List ℕ) → List FileChange
clears_rescues true top numbers = puts_rescues_away top numbers
clears_rescues false top numbers = []

-- One that follows a finished round puts the journal of that away; that of an unfinished round stays.
abbrev pub clears_journal : Journaled → (top : List ℕ) → List FileChange
clears_journal Nothing top = []
clears_journal Finished top = puts_journal_away top
clears_journal Unfinished top = []

-- One that begins makes its journal.
abbrev pub makes_journal : Journaled → (top : List ℕ) → List FileChange
makes_journal Nothing top = (journal_name_of top, Made) ∷ []
makes_journal Finished top = (journal_name_of top, Made) ∷ []
makes_journal Unfinished top = []

-- What a round is not to find is put away: the later rescue files first, and then the journal.
abbrev pub clears : (top : List ℕ) → Round → (numbers : List ℕ) → List FileChange
clears top round numbers = clears_rescues round.goes_back top numbers ++ clears_journal round.journal top

-- its journal is readied
abbrev pub readies : (top : List ℕ) → Round → (numbers : List ℕ) → List FileChange
readies top round numbers = clears top round numbers ++ makes_journal round.journal top

-- the processes that an earlier manager left, and that `top.children` names, are dealt with
abbrev pub settles : (top : List ℕ) → List FileChange
settles top = (top ++ codes ".children", Settled) ∷ []

-- Of one that begins it is kept with what it begins: the sums of its files, and the files.
abbrev pub keeps : Journaled → (is_kept : Bool) → (top digest : List ℕ) → (files : List (List ℕ × List ℕ)) → ℕ → Option (List ℕ) → List FileChange
keeps Nothing is_kept top digest files used rescue = keeps_sums top digest files used rescue ++ keeps_files is_kept top digest files used rescue
keeps Finished is_kept top digest files used rescue = keeps_sums top digest files used rescue ++ keeps_files is_kept top digest files used rescue
keeps Unfinished is_kept top digest files used rescue = []

-- the round is led
abbrev pub leads : List FileChange
leads = ([], Led) ∷ []

-- The steps of a round that is led with these files and the bytes of this rescue file, where the folder and the system decide: which rescue files are put away; that what an earlier
-- manager left is dealt with, if it is; and how much is kept of that with which the round begins.
pub record RoundSteps (top digest : List ℕ) (files : List (List ℕ × List ℕ)) (rescue : Option (List ℕ)) (round : Round) : Type 0 where
  pub numbers : List ℕ
  pub higher : AreHigher round.used numbers
  pub settled : List FileChange
  pub are_settled : AreSome (settles top) settled
  pub is_kept : Bool
  pub kept : List FileChange
  pub are_kept : AreSome (keeps round.journal is_kept top digest files round.used rescue) kept

-- All that it changes, in this order: its journal is readied; what an earlier manager left is dealt with; what it begins with is kept; and only then it is led.
abbrev pub all_steps : {top digest : List ℕ} {files : List (List ℕ × List ℕ)} {rescue : Option (List ℕ)} {round : Round} → RoundSteps top digest files rescue round → List FileChange
all_steps {top = top} {round = round} steps = readies top round steps.numbers ++ (steps.settled ++ (steps.kept ++ leads))

-- What was made of these steps where the round is not led to its end, by the cause that is returned: nothing, for what is found before; the first of what readies the journal, where
-- that is refused; that, where what an earlier manager left stays; all, where the round itself is stopped; and the first of all, where memory ran out.
pub data IsStoppedAfter {top digest : List ℕ} {files : List (List ℕ × List ℕ)} {rescue : Option (List ℕ)} {round : Round} (steps : RoundSteps top digest files rescue round)
    (Stopped : RunFault → Type 0) : RunFault → (made : List FileChange) → Type 0 where
  before_all : (fault : RunFault) → IsStoppedAfter steps Stopped fault []
  while_readied : (fault : RunFault) (made : List FileChange) → IsReadyFault top round fault → AreBegun (readies top round steps.numbers) [] made → IsStoppedAfter steps Stopped fault made
  while_settled : (fault : RunFault) → IsOrphanFault top fault → IsStoppedAfter steps Stopped fault (readies top round steps.numbers ++ steps.settled)
  while_led : (fault : RunFault) → Stopped fault → IsStoppedAfter steps Stopped fault (all_steps steps)
  without_memory : (made : List FileChange) → AreBegun (all_steps steps) [] made → IsStoppedAfter steps Stopped Memory made

-- what a call makes of these steps: all of them; or, where it is refused, what was made by then
abbrev pub MakesSteps : {A : Type 0} {top digest : List ℕ} {files : List (List ℕ × List ℕ)} {rescue : Option (List ℕ)} {round : Round} → Result A RunFault
    → RoundSteps top digest files rescue round → (Stopped : RunFault → Type 0) → (made : List FileChange) → Type 0
MakesSteps (Ok answer) steps Stopped made = made ≡ all_steps steps
MakesSteps (Err fault) steps Stopped made = IsStoppedAfter steps Stopped fault made

-- a call makes so much of the steps of a round
abbrev pub ChangesAsRound : {A : Type 0} → Result A RunFault → (Stopped : RunFault → Type 0) → (top digest : List ℕ) → (files : List (List ℕ × List ℕ)) → Option (List ℕ) → Round
    → (before now : List FileChange) → Type 0
ChangesAsRound result Stopped top digest files rescue round before now =
    (steps : RoundSteps top digest files rescue round) × (made : List FileChange) × MakesSteps result steps Stopped made × (now ≡ before ++ made)

-- The lock was taken and given back without more, if the journal could not be read at first; or it was not taken.
pub data IsLook (top : List ℕ) : List FileChange → Type 0 where
  not_locked : IsLook top []
  looked_locked : IsLook top (locks top ++ unlocks)

-- Such looks, one for each time that the round is planned: a file that was missing may have come meanwhile, and then it is planned once more.
pub data AreLooks (top : List ℕ) : List FileChange → Type 0 where
  no_looks : AreLooks top []
  one_more_look : (looks look : List FileChange) → AreLooks top looks → IsLook top look → AreLooks top (looks ++ look)

-- What is known of the files that were read and of the round that is found, where a folder is honest in which these files are held and these paths are there: these files are those of the
-- DAG file; and the round is the one that is found there, with its rescue file.
abbrev pub found_where : (Honest : Type 0) → Files → (List ℕ → Bool) → (top : List ℕ) → RunOptions → FileSet → Round → Option (List ℕ) → Type 0
found_where Honest holds has top options files round rescue =
    Honest → IsReadFrom holds top files × IsRoundFrom holds has top options.autorescue options.dorescuefrom options.always_post round × (rescue ≡ rescue_in holds top round.used)

-- A round that is planned by these files: it is one that the options ask for, and that is found with its rescue file; and this is its plan.
pub record IsPlannedRound (Found : FileSet → Round → Option (List ℕ) → Type 0) (top : List ℕ) (options : RunOptions) (files : FileSet)
    (round : Round) (rescue : Option (List ℕ)) (plan : Plan) : Type 0 where
  pub graph : Network
  pub is_graph : IsGraphOf (bytes_of files) top graph
  pub by_options : IsRoundBy options.autorescue options.dorescuefrom options.always_post round
  pub rescue_is : IsRescueOf round rescue
  pub found : Found files round rescue
  pub planned : IsPlanBy round.always_post (bytes_of files) (entries_of files) rescue graph plan

-- What is changed by a run once its round is planned: nothing, and it is refused; or the round is led by the launcher that the options ask for, to its end or as far as that went, under the lock.
pub data ChangesOnceLocked {A : Type 0} (result : Result A RunFault) (Found : FileSet → Round → Option (List ℕ) → Type 0) (rounds : Rounds) (top : List ℕ) (options : RunOptions)
    (before now : List FileChange) : Type 0 where
  left_unlocked : IsErr result → now ≡ before → ChangesOnceLocked result Found rounds top options before now
  made_locked : (files : FileSet) (round : Round) (rescue : Option (List ℕ)) (plan : Plan) (launcher : Launcher) (made : List FileChange) →
      IsPlannedRound Found top options files round rescue plan → IsLauncherBy options (count_of plan) launcher →
      ChangesAsRound result (rounds.stopped top options.limits launcher plan round) top plan.digest (entries_of files) rescue round [] made →
      now ≡ before ++ under_lock top made → ChangesOnceLocked result Found rounds top options before now

-- What `run` changes beside its DAG file: while its round is planned, looks under the lock at most; and then what is changed once that is planned.
abbrev pub ChangesAsRun : {A : Type 0} → Result A RunFault → (Found : FileSet → Round → Option (List ℕ) → Type 0) → Rounds → (top : List ℕ) → RunOptions
    → (before now : List FileChange) → Type 0
ChangesAsRun result Found rounds top options before now =
    (looks : List FileChange) × AreLooks top looks × ChangesOnceLocked result Found rounds top options (before ++ looks) now
