-- What is said of the files of a path, as a folder may hold them, and why nothing is.
use Rattle.std.specs.Prelude.{◌≡◌, ℕ, Bool, List, Option, Some, None}
use Rattle.splices_flat.specs.Opening.{Files}
use Rattle.splices_flat.specs.FileSet.{entries_of}
use Rattle.splices_flat.specs.declared.file_set.FileSet.{FileSet}
use Rattle.dag_main_check.specs.Missing.{missing_in}
use Rattle.dag_main_check.specs.Planned.{IsGraphFault, IsPlanOf, IsPlanWith, IsPlanWithFault}
use Rattle.dag_main_check.specs.declared.fault.RunFault.{RunFault}
use Rattle.dag_main_check.specs.declared.fault.RunFault.TheVariants.{Memory}
use Rattle.run_plan.specs.Plan.{Plan}
use Rattle.dag_main_files.specs.Beside.{IsInputFault, IsRefusalHeld}
use Rattle.dag_main_files.specs.Folder.{IsReadFrom}

-- A fault stays where these files are held: the file of which it tells that it is missing is not held; or memory ran out as it was asked for.
pub data IsStill (holds : Files) (fault : RunFault) : RunFault → Type 0 where
  still_missing : ((path : List ℕ) → missing_in fault ≡ Some path → holds path ≡ None) → IsStill holds fault fault
  asking_had_no_memory : IsStill holds fault Memory

-- Which files a folder may hold as one of them is read.
abbrev pub Holding : Type 1
Holding = Files → Type 0

-- Any: others may change them between two readings.
abbrev pub changing : Holding
changing files = Unit {0}

-- Those alone that it holds, which nobody changes.
abbrev pub fixed : Files → Holding
fixed holds files = files ≡ holds

-- The file of this path, as it was read: its bytes, or that it is missing.
pub record IsReadAs (may_hold : Holding) (path : List ℕ) (bytes : Option (List ℕ)) : Type 0 where
  pub holds : Files
  pub held : may_hold holds
  pub bytes_are : bytes ≡ holds path

-- Why it can't be read: a file that is refused is not held; or memory ran out.
pub record IsUnreadable (may_hold : Holding) (path : List ℕ) (fault : RunFault) : Type 0 where
  pub holds : Files
  pub held : may_hold holds
  pub refused : IsRefusalHeld holds path fault

-- This is so of files that the folder may hold, with those among them that were read from this path on: these count for the digest of a plan.
pub record IsOfFiles (may_hold : Holding) (path : List ℕ) (Says : Files → List (List ℕ × List ℕ) → Type 0) : Type 0 where
  pub holds : Files
  pub held : may_hold holds
  pub files : FileSet
  pub read : IsReadFrom holds path files
  pub says : Says holds (entries_of files)

-- Why nothing is said of them: standard input is asked for and can't be read; or it is refused for what is held.
pub data IsRefusedFor (may_hold : Holding) (path : List ℕ) (Refused : Files → List (List ℕ × List ℕ) → RunFault → Type 0) : RunFault → Type 0 where
  top_not_read : (fault : RunFault) → IsInputFault path fault → IsRefusedFor may_hold path Refused fault
  for_files : (fault : RunFault) → IsOfFiles may_hold path (λ files entries. Refused files entries fault) → IsRefusedFor may_hold path Refused fault

-- the plan of a path with no submit file read, whose POST scripts run after failed PRE scripts or not; no digest counts
abbrev pub HasBarePlan : (always_post : Bool) → (path : List ℕ) → Plan → Files → List (List ℕ × List ℕ) → Type 0
HasBarePlan always_post path plan files entries = IsPlanOf always_post files path plan

-- why there is none: the files make no graph
abbrev pub HasNoGraph : (path : List ℕ) → Files → List (List ℕ × List ℕ) → RunFault → Type 0
HasNoGraph path files entries fault = IsGraphFault files path fault

-- the plan of a path with its submit files, and with a rescue file or none
abbrev pub HasPlan : (always_post : Bool) → (path : List ℕ) → (rescue : Option (List ℕ)) → Plan → Files → List (List ℕ × List ℕ) → Type 0
HasPlan always_post path rescue plan files entries = IsPlanWith always_post files entries path rescue plan

-- why there is none
abbrev pub HasNoPlan : (path : List ℕ) → (rescue : Option (List ℕ)) → Files → List (List ℕ × List ℕ) → RunFault → Type 0
HasNoPlan path rescue files entries fault = IsPlanWithFault files entries path rescue fault
