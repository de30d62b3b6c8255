-- Slots of phases: phases that follow each other share one.
use Rattle.std.specs.Prelude.{◌≡◌, ◌+◌, ◌-◌, ◌^◌, ◌<◌, ◌≤◌, min, ℕ, nat_lt, List, [], ◌∷◌, ◌++◌, set, length, Some, slice_get, slice_index, if◌then◌else◌}
use Rattle.run_times.specs.declared.runs.PhaseRun.{PhaseRun}

-- when a phase ended, in milliseconds since the log began
abbrev pub run_end : PhaseRun → ℕ
run_end run = min (run.begun + run.took) (2 ^ 64 - 1)

-- one of two phases began before the other, and ended before that began, or just then
pub record EndsBefore (one other : PhaseRun) : Type 0 where
  pub began : one.begun ≤ other.begun
  pub ended : run_end one ≤ other.begun

-- of the first phases, as many, those of one slot follow each other
abbrev pub NeverOverlap : List PhaseRun → List ℕ → ℕ → Type 0
NeverOverlap runs slots count =
    (i j : ℕ) → i < j → j < count → (one other : PhaseRun) → slice_get runs i ≡ Some one → slice_get runs j ≡ Some other
    → slice_index slots i ≡ slice_index slots j → EndsBefore one other

-- each phase has a slot, one of so many
pub record AreSlots (runs : List PhaseRun) (slots : List ℕ) (count : ℕ) : Type 0 where
  pub each : length slots ≡ length runs
  pub below : (i : ℕ) → i < length runs → slice_index slots i < count
  pub apart : NeverOverlap runs slots (length runs)

-- a slot that is free from a time on, by when each comes free; or a new one
pub record IsFreeSlot (free : List ℕ) (from slot : ℕ) : Type 0 where
  pub there : slot ≤ length free
  pub since : slot < length free → slice_index free slot ≤ from

-- when each comes free, once one of them, or a new one, is occupied until then
abbrev pub occupied : List ℕ → ℕ → ℕ → List ℕ
occupied free slot until = if nat_lt slot (length free) then set free slot until else free ++ (until ∷ [])

-- a phase has ended by a time
pub record IsOver (run : PhaseRun) (time : ℕ) : Type 0 where
  pub began : run.begun ≤ time
  pub ended : run_end run ≤ time

-- What holds of the slots of the first phases, as many, and of when each slot comes free.
pub record AreSlotsSoFar (runs : List PhaseRun) (slots free : List ℕ) (count : ℕ) : Type 0 where
  pub each : length slots ≡ count
  pub below : (i : ℕ) → i < count → slice_index slots i < length free
  pub over : (i : ℕ) → i < count → (run : PhaseRun) → slice_get runs i ≡ Some run → IsOver run (slice_index free (slice_index slots i))
  pub apart : NeverOverlap runs slots count
