-- What `salvage` changes beside a DAG file.
use Rattle.std.specs.Prelude.{◌≡◌, ℕ, Bool, List, [], ◌++◌}
use Rattle.splices_flat.specs.Opening.{Files}
use Rattle.dag_main_check.specs.declared.fault.RunFault.{RunFault}
use Rattle.dag_main_files.specs.Beside.{journal_name_of, IsRefusalOf}
use Rattle.dag_main_files.specs.Changes.{FileChange, AreBegun, writes_rescue, puts_journal_away, under_lock}
use Rattle.round_inputs.specs.declared.inputs.Listed.{Listed}
use Rattle.salvage.specs.Answered.{IsMadeOf, IsHeldMade}
use Rattle.salvage.specs.declared.fault.SalvageFault.{SalvageFault}
use Rattle.salvage.specs.declared.fault.SalvageFault.TheVariants.{Refused}

-- The rescue file is written, and only then the journal is put away.
abbrev pub writes_salvage : List ℕ → ℕ → (text : List ℕ) → List FileChange
writes_salvage top number text = writes_rescue top number text ++ puts_journal_away top

-- A rescue file of this number and this text is the one that is made of the round of a DAG file, where rounds that have ended are taken too or not.
pub record IsRescueMade (too : Bool) (top : List ℕ) (next : ℕ) (text : List ℕ) : Type 0 where
  pub listed : List Listed
  pub done : ℕ
  pub total : ℕ
  pub warnings : List ℕ
  pub made : IsMadeOf too top next listed text done total warnings

-- the same; and where a premise holds, that a folder is honest, it is made of the files that are held
abbrev pub IsRescueMadeIf : (Honest : Type 0) → (too : Bool) → (holds : Files) → (top : List ℕ) → (next : ℕ) → (text : List ℕ) → Type 0
IsRescueMadeIf Honest too holds top next text = (is : IsRescueMade too top next text)
    × (Honest → IsHeldMade too holds top next is.listed text is.done is.total is.warnings is.made)

-- What a salvage that is refused makes once it holds the lock, where this holds of the number and the text of a rescue file that it writes.
pub data SalvagesInPart (IsMade : ℕ → List ℕ → Type 0) (top : List ℕ) : SalvageFault → (before now : List FileChange) → Type 0 where
  -- nothing, whatever the cause is
  nothing_written : (fault : SalvageFault) (before now : List FileChange) → now ≡ before → SalvagesInPart IsMade top fault before now
  -- the rescue file, since the system refuses to put the journal away, or memory runs out: of that the first is made
  rescue_alone_written : (fault : RunFault) (next : ℕ) (text : List ℕ) (before now : List FileChange) → IsRefusalOf (journal_name_of top) fault → IsMade next text →
      AreBegun (puts_journal_away top) (before ++ writes_rescue top next text) now → SalvagesInPart IsMade top (Refused fault) before now

-- The same of the whole command.
pub data LeavesSalvage (IsMade : ℕ → List ℕ → Type 0) (top : List ℕ) (fault : SalvageFault) (before now : List FileChange) : Type 0 where
  -- it is refused before it takes the lock, and nothing is changed
  salvage_not_begun : now ≡ before → LeavesSalvage IsMade top fault before now
  -- it is refused while it holds the lock, which is given back
  salvage_broken_off : (made : List FileChange) → SalvagesInPart IsMade top fault [] made → now ≡ before ++ under_lock top made → LeavesSalvage IsMade top fault before now

-- Nothing is written.
pub data WritesNothing (top : List ℕ) (before now : List FileChange) : Type 0 where
  -- no lock is taken
  without_lock : now ≡ before → WritesNothing top before now
  -- the lock is taken and given back, with nothing in between
  under_lock_nothing : now ≡ before ++ under_lock top [] → WritesNothing top before now
