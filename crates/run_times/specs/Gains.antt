-- What more slots could gain: how long a round would have taken with no limit on something, by a replay of how long its phases took and how they ended.
use Rattle.std.specs.Prelude.{◌≡◌, ℕ, zero, suc, ◌-◌, ◌^◌, ◌&&◌, min, Bool, false, nat_le, List, [], map, filter, length, position, slice_get, Option, Some, None, All, if◌then◌else◌}
use Rattle.std.specs.Str.{bytes_eq}
use Rattle.node_machine.specs.declared.Key.{Key}
use Rattle.node_machine.specs.declared.Outcome.{Outcome}
use Rattle.node_machine.specs.declared.Outcome.TheVariants as outcomes
use Rattle.throttles.specs.declared.Limits.{Limits}
use Rattle.dag_graph.specs.Graph.{Network, names_of}
use Rattle.run_plan.specs.Plan.{Plan}
use Rattle.run_plan.specs.Submitted.{bare_plan}
use Rattle.dag_main_rehearse.specs.declared.timetable.Timing.{Timing}
use Rattle.dag_main_rehearse.specs.Timed.{Timings, no_timing, with_timing}
use Rattle.dag_main_rehearse.specs.Replay.{IsReplay}
use Rattle.run_times.specs.declared.runs.Ending.{Ending}
use Rattle.run_times.specs.declared.runs.Ending.TheVariants.{Exit, Signal, Untold, NotStarted, Killed, Lost, Runs}
use Rattle.run_times.specs.declared.runs.PhaseRun.{PhaseRun}
use Rattle.run_times.specs.declared.limits.Counted.{Counted}
use Rattle.run_times.specs.declared.limits.Counted.TheVariants.{Jobs, PreScripts, PostScripts, JobsOf, Children}
use Rattle.run_times.specs.declared.limits.Limit.{Limit}
use Rattle.run_times.specs.declared.gains.Gain.{Gain}
use Rattle.run_times.specs.Limits.{most_counted}
use Rattle.run_times.specs.Unlimited.{IsPlanWithoutLimit}

-- the outcome of a phase that ended so; one that is not known is told as such
abbrev pub signal_outcome : ℕ → Outcome
signal_outcome number = if nat_le 1 number && nat_le number 127 then outcomes.Signal number else outcomes.Untold

abbrev pub outcome_of_ending : Ending → Outcome
outcome_of_ending (Exit code) = outcomes.Exit code
outcome_of_ending (Signal number) = signal_outcome number
outcome_of_ending Untold = outcomes.Untold
outcome_of_ending NotStarted = outcomes.NoStart
outcome_of_ending Killed = outcomes.Untold
outcome_of_ending Lost = outcomes.Untold
outcome_of_ending Runs = outcomes.Untold

abbrev pub timing_of_run : PhaseRun → Timing
timing_of_run run = record { took = run.took; outcome = outcome_of_ending run.ending }

-- the timings once a phase of a node of this number was run
abbrev pub timings_at : PhaseRun → Option ℕ → Timings → Timings
timings_at run (Some number) timings = with_timing (record { node = number; attempt = run.attempt; phase = run.phase }) (timing_of_run run) timings
timings_at run None timings = timings

abbrev pub timings_with : Network → PhaseRun → Timings → Timings
timings_with graph run timings = timings_at run (position (bytes_eq run.node.now) (names_of graph.dag)) timings

-- how long each phase took and how it ended, by the first phases that were run, as many: of those of one key the last counts; what was not run takes no time
abbrev pub timings_next : Network → Option PhaseRun → Timings → Timings
timings_next graph (Some run) timings = timings_with graph run timings
timings_next graph None timings = timings

abbrev pub timings_after : Network → List PhaseRun → ℕ → Timings
timings_after graph runs zero = λ key. no_timing
timings_after graph runs (suc n) = timings_next graph (slice_get runs n) (timings_after graph runs n)

abbrev pub timings_in : Network → List PhaseRun → Timings
timings_in graph runs = timings_after graph runs (length runs)

-- a limit of a round among those of the core, which has 32 bits for it; that on a category is the plan's
abbrev pub core_number : ℕ → ℕ
core_number most = min most (2 ^ 32 - 1)

abbrev pub with_number : Counted → ℕ → Limits → Limits
with_number Jobs number limits = record limits { jobs = number }
with_number PreScripts number limits = record limits { pre = number }
with_number PostScripts number limits = record limits { post = number }
with_number (JobsOf category) number limits = limits
with_number Children number limits = record limits { children = number }

abbrev pub limits_next : Option Limit → Limits → Limits
limits_next (Some limit) limits = with_number limit.counted (core_number limit.most) limits
limits_next None limits = limits

-- the limits of the core by the first limits of a round, as many; 0 is none
abbrev pub core_limits_after : List Limit → ℕ → Limits
core_limits_after limits zero = record { jobs = 0; pre = 0; post = 0; children = 0 }
core_limits_after limits (suc n) = limits_next (slice_get limits n) (core_limits_after limits n)

abbrev pub core_limits : List Limit → Limits
core_limits limits = core_limits_after limits (length limits)

-- a limit was full at some time
abbrev pub was_full : Network → List PhaseRun → Limit → Bool
was_full graph runs limit = nat_le limit.most (most_counted graph limit.counted runs)

-- it takes so long under these limits, and is not aborted
abbrev pub TakesUnder : Limits → Plan → Timings → ℕ → Type 0
TakesUnder limits plan timings time = IsReplay limits plan timings (record { time = time; aborted = false })

-- so long with no limit on what is counted, be it one of the core, or of a category, whose MAXJOBS is left out
pub record TakesWithoutCategory (graph : Network) (limits : Limits) (timings : Timings) (category : List ℕ) (time : ℕ) : Type 0 where
  pub plan : Plan
  pub is_plan : IsPlanWithoutLimit graph category plan
  pub takes : TakesUnder limits plan timings time

abbrev pub TakesWithout : Network → Limits → Timings → Counted → ℕ → Type 0
TakesWithout graph limits timings (JobsOf category) time = TakesWithoutCategory graph limits timings category.now time
TakesWithout graph limits timings counted time = TakesUnder (with_number counted 0 limits) (bare_plan false graph) timings time

-- What a round would have taken with no limit on this, and under all limits: by replays of its phases under its limits.
pub record IsGain (graph : Network) (runs : List PhaseRun) (limits : List Limit) (gain : Gain) : Type 0 where
  pub without : TakesWithout graph (core_limits limits) (timings_in graph runs) gain.counted gain.without
  pub under_all : TakesUnder (core_limits limits) (bare_plan false graph) (timings_in graph runs) gain.under_all

-- There is such a gain of each limit that was full at some time, in the order of the limits; or none at all, as where the round has not ended or a replay is aborted.
pub data AreGains (graph : Network) (runs : List PhaseRun) (limits : List Limit) : List Gain → Type 0 where
  no_gains : AreGains graph runs limits []
  are_gains : {gains : List Gain} → map (λ gain. gain.counted) gains ≡ map (λ limit. limit.counted) (filter (was_full graph runs) limits)
      → All (IsGain graph runs limits) gains → AreGains graph runs limits gains
