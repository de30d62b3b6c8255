-- The parts of the critical path: how long each of its phases waited, and how long it took. A path has the last phase first.
use Rattle.std.specs.Prelude.{◌≡◌, ℕ, ◌+◌, ◌-◌, Bool, ◌&&◌, nat_lt, nat_le, List, [], ◌∷◌, length, Option, Some, None, slice_get}
use Rattle.std.specs.List.{list_any}
use Rattle.run_times.specs.declared.runs.PhaseRun.{PhaseRun}
use Rattle.run_times.specs.declared.parts.TheConstants.{PROMPT}
use Rattle.run_times.specs.Slots.{run_end}
use Rattle.run_times.specs.Canvas.{latest_end}
use Rattle.run_times.specs.Critical.{run_end_at}

-- when the phase at a place began
abbrev pub begun_in : Option PhaseRun → ℕ
begun_in (Some run) = run.begun
begun_in None = 0

abbrev pub begun_at : List PhaseRun → ℕ → ℕ
begun_at runs place = begun_in (slice_get runs place)

-- when the first phase of the rest of a path ended, for which the one before it waited; the beginning of the log, where there is none
abbrev pub end_of_rest : List PhaseRun → List ℕ → ℕ
end_of_rest runs [] = 0
end_of_rest runs (place ∷ rest) = run_end_at runs place

-- how long the phases of a path waited, all together
abbrev pub waited_in : List PhaseRun → List ℕ → ℕ
waited_in runs [] = 0
waited_in runs (place ∷ rest) = (begun_at runs place - end_of_rest runs rest) + waited_in runs rest

-- how long they took
abbrev pub lasted_in : List PhaseRun → List ℕ → ℕ
lasted_in runs [] = 0
lasted_in runs (place ∷ rest) = (run_end_at runs place - begun_at runs place) + lasted_in runs rest

-- how much they began before that ended for which they waited, as a phase may that is not a child in a DAG file that was changed
abbrev pub early_in : List PhaseRun → List ℕ → ℕ
early_in runs [] = 0
early_in runs (place ∷ rest) = (end_of_rest runs rest - begun_at runs place) + early_in runs rest

-- the parts of a path sum to the time from the beginning of the log to the end of the last phase
abbrev pub PartsAreWhole : List PhaseRun → List ℕ → Type 0
PartsAreWhole runs path = waited_in runs path + lasted_in runs path ≡ latest_end runs (length runs) + early_in runs path

-- a phase ended at a moment or promptly before it, so that another one could begin then
abbrev pub made_way : ℕ → PhaseRun → Bool
made_way until run = nat_le (run_end run) until && nat_le (until - run_end run) PROMPT

-- a phase that could begin at one moment and began at another waited for its turn: it didn't begin promptly, and began when another one had made way
abbrev pub waited_for_turn : List PhaseRun → ℕ → ℕ → Bool
waited_for_turn runs from until = nat_lt PROMPT (until - from) && list_any (made_way until) runs
