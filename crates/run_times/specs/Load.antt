-- How many phases ran at each moment.
use Rattle.std.specs.Prelude.{◌≡◌, ◌-◌, ℕ, zero, suc, max, nat_le, List, map, count_by, Some, slice_get, IsPermutation}
use Rattle.std.specs.List.Sorted.{IsNonDecreasingBy}
use Rattle.run_times.specs.declared.runs.PhaseRun.{PhaseRun}
use Rattle.run_times.specs.declared.load.Level.{Level}
use Rattle.run_times.specs.Slots.{run_end}
use Rattle.run_times.specs.Parts.{begun_at}

-- how many of these times are no later than a time
abbrev pub count_until : List ℕ → ℕ → ℕ
count_until times time = count_by (λ one. nat_le one time) times

-- how many phases ran at a moment: those that had begun, without those that had ended
abbrev pub running_at : List PhaseRun → ℕ → ℕ
running_at runs time = count_until (map (λ run. run.begun) runs) time - count_until (map run_end runs) time

-- these times in order
pub record AreInOrder (times sorted : List ℕ) : Type 0 where
  pub same : IsPermutation times sorted
  pub in_order : IsNonDecreasingBy (λ one. one) sorted

-- each level is how many phases ran at its moment
abbrev pub AreLevels : List PhaseRun → List Level → Type 0
AreLevels runs levels = (i : ℕ) (level : Level) → slice_get levels i ≡ Some level → level.running ≡ running_at runs level.moment

-- how many phases ran at once, at most, when the first phases began, as many
abbrev pub most_running : List PhaseRun → ℕ → ℕ
most_running runs zero = 0
most_running runs (suc n) = max (most_running runs n) (running_at runs (begun_at runs n))
