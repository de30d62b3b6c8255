-- What is changed beside a DAG file, and in which order.
use Rattle.std.specs.Prelude.{◌≡◌, ◌<◌, ℕ, List, [], ◌∷◌, ◌++◌, map, All, AllPairs, codes, Result, Ok, Err}
use Rattle.rescue_file.specs.Numbered.{IsFileNumber, rescue_name_of}
use Rattle.dag_main_files.specs.declared.changes.Change.{Change}
use Rattle.dag_main_files.specs.declared.changes.Change.TheVariants.{Locked, Unlocked, Renamed, Synced, Written}
use Rattle.dag_main_files.specs.Beside.{journal_name_of, lock_name_of, folder_name_of}

-- a change, with the path of its file; one that is of no single file has an empty path
abbrev pub FileChange : Type 0
FileChange = List ℕ × Change

-- The first of these changes are made, in their order, and no more.
pub record AreBegun (whole before now : List FileChange) : Type 0 where
  pub done : List FileChange
  pub rest : List FileChange
  pub whole_is : whole ≡ done ++ rest
  pub made : now ≡ before ++ done

-- a call makes all of these changes, in their order; where it is refused, the first of them
abbrev pub Makes : {A E : Type 0} → Result A E → (whole before now : List FileChange) → Type 0
Makes (Ok value) whole before now = now ≡ before ++ whole
Makes (Err fault) whole before now = AreBegun whole before now

-- some of these changes, in their order: the system refused the others, and they are passed over
pub data AreSome : (whole made : List FileChange) → Type 0 where
  no_more : AreSome [] []
  one_made : (entry : FileChange) (whole made : List FileChange) → AreSome whole made → AreSome (entry ∷ whole) (entry ∷ made)
  one_passed_over : (entry : FileChange) (whole made : List FileChange) → AreSome whole made → AreSome (entry ∷ whole) made

-- the lock is taken
abbrev pub locks : List ℕ → List FileChange
locks top = (lock_name_of top, Locked) ∷ []

-- and given back
abbrev pub unlocks : List FileChange
unlocks = ([], Unlocked) ∷ []

-- the names in the folder of the DAG file are brought to the disk
abbrev pub syncs_names : List ℕ → List FileChange
syncs_names top = (folder_name_of top, Synced) ∷ []

-- `top.journal.old`
abbrev pub journal_old_name_of : List ℕ → List ℕ
journal_old_name_of top = top ++ codes ".journal.old"

-- The journal of a round is put away: it has another name, and then that is on the disk.
abbrev pub puts_journal_away : List ℕ → List FileChange
puts_journal_away top = (journal_name_of top, Renamed (journal_old_name_of top)) ∷ syncs_names top

-- a rescue file has `.old` after its name
abbrev pub rescue_away : List ℕ → ℕ → FileChange
rescue_away top number = (rescue_name_of top number, Renamed (rescue_name_of top number ++ codes ".old"))

-- The rescue files of these numbers are put away, one after another, and then their names are on the disk.
abbrev pub puts_rescues_away : List ℕ → List ℕ → List FileChange
puts_rescues_away top numbers = map (rescue_away top) numbers ++ syncs_names top

-- numbers of rescue files, all above this one, each once, the highest first
pub record AreHigher (from : ℕ) (numbers : List ℕ) : Type 0 where
  pub falling : AllPairs (λ number later. later < number) numbers
  pub above : All (λ number. from < number) numbers
  pub named : All IsFileNumber numbers

-- the rescue file of this number is written, whole
abbrev pub writes_rescue : List ℕ → ℕ → (text : List ℕ) → List FileChange
writes_rescue top number text = (rescue_name_of top number, Written text) ∷ []

-- Changes that are made under the lock: it is taken before them, and given back after them.
abbrev pub under_lock : List ℕ → List FileChange → List FileChange
under_lock top made = locks top ++ (made ++ unlocks)
