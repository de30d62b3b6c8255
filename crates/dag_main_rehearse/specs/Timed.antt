-- Children that take as long as a timetable says: the time after some calls, and which child ends next.
use Rattle.std.specs.Prelude.{◌≡◌, ◌+◌, ◌-◌, ◌^◌, min, ℕ, Bool, not, nat_le, List, [], ◌∷◌, map, filter, reverse, slice_get, Option, Some, None, IsTrue, if◌then◌else◌}
use Rattle.std.specs.Option.{option_map}
use Rattle.node_machine.specs.declared.Key.{Key}
use Rattle.node_machine.specs.declared.Outcome.{Outcome}
use Rattle.node_machine.specs.declared.Outcome.TheVariants.{Exit}
use Rattle.node_machine.specs.Story.{is_possible}
use Rattle.sched_core.specs.Run.{is_same, is_among}
use Rattle.job_starter_drive.specs.declared.Call.{Call}
use Rattle.job_starter_drive.specs.declared.Call.TheVariants as calls
use Rattle.job_starter_drive.specs.declared.Started.{Started}
use Rattle.job_starter_drive.specs.declared.Started.TheVariants.{Running, NotStarted}
use Rattle.job_starter_drive.specs.Calls.{running, Telling}
use Rattle.dag_main_rehearse.specs.declared.timetable.Timing.{Timing}
use Rattle.dag_main_rehearse.specs.declared.timetable.Timed.{Timed}
use Rattle.dag_main_rehearse.specs.declared.timetable.NodeTimings.{NodeTimings}
use Rattle.dag_main_rehearse.specs.declared.timetable.Timetable.{Timetable}
use Rattle.dag_main_rehearse.specs.declared.timeline.Child.{Child}
use Rattle.dag_main_rehearse.specs.declared.timeline.Timeline.{Timeline}

-- how long the child of each key takes, and how it ends
abbrev pub Timings : Type 0
Timings = Key → Timing

-- each outcome is one that there is
abbrev pub HasPossibleEnds : Timings → Type 0
HasPossibleEnds timings = (key : Key) → IsTrue (is_possible (timings key).outcome)

-- a child of which nothing is said takes no time and exits with 0
abbrev pub no_timing : Timing
no_timing = record { took = 0; outcome = Exit 0 }

-- what entries say of a key, the newest first: the newest that is of this key counts
abbrev pub timing_among : List Timed → Timings
timing_among [] key = no_timing
timing_among (timed ∷ older) key = if is_same key timed.key then timed.timing else timing_among older key

-- what a timetable says of a key: what the entries of its node say
abbrev pub timing_of_node : Option NodeTimings → Timings
timing_of_node (Some node) key = timing_among (reverse node.entries.items) key
timing_of_node None key = no_timing

abbrev pub timings_of : Timetable → Timings
timings_of timetable key = timing_of_node (slice_get timetable.nodes.items key.node) key

-- the same but for one key
abbrev pub with_timing : Key → Timing → Timings → Timings
with_timing key timing timings other = if is_same other key then timing else timings other

-- the time, and the children that run, each with the time of its end, the newest first
pub record Moment : Type 0 where
  pub clock : ℕ
  pub children : List Child

-- a timeline as contracts see it
abbrev pub moment_of : Timeline → Moment
moment_of timeline = record { clock = timeline.clock; children = reverse timeline.children.items }

-- a time, as far as 64 bits hold it
abbrev pub time_within : ℕ → ℕ
time_within time = min time (2 ^ 64 - 1)

-- a child was to be started; if it runs, it ends as long after now as it takes
abbrev pub with_start : Key → ℕ → Started → Moment → Moment
with_start key took Running moment = record moment { children = record { key = key; ends_at = time_within (moment.clock + took) } ∷ moment.children }
with_start key took NotStarted moment = moment

-- children without that of a key
abbrev pub children_without : Key → List Child → List Child
children_without key children = filter (λ child. not (is_same key child.key)) children

-- when the child of a key ends; now, where no such child runs
abbrev pub end_among : Key → ℕ → List Child → ℕ
end_among key now [] = now
end_among key now (child ∷ children) = if is_same key child.key then child.ends_at else end_among key now children

-- the child of a key ended: the clock goes on to its end
abbrev pub with_end : Key → Moment → Moment
with_end key moment = record { clock = end_among key moment.clock moment.children; children = children_without key moment.children }

-- it was killed
abbrev pub with_kill : Key → Moment → Moment
with_kill key moment = record moment { children = children_without key moment.children }

-- what a call makes of the moment
abbrev pub moment_with : Timings → Call → Moment → Moment
moment_with timings (calls.Started key command answer) moment = with_start key (timings key).took answer moment
moment_with timings (calls.Ended key outcome) moment = with_end key moment
moment_with timings (calls.Killed key) moment = with_kill key moment
moment_with timings calls.HaltSeen moment = moment

-- The moment after these calls, of which the newest comes first: it begins at 0, a child begins at the time of its start, and only an ending takes time.
abbrev pub moment_after : Timings → List Call → Moment
moment_after timings [] = record { clock = 0; children = [] }
moment_after timings (call ∷ call_log) = moment_with timings call (moment_after timings call_log)

-- of a child and an older one, which may be none, the one that ends first; of two that end at one time the older one
abbrev pub sooner_of : Child → Option Child → Child
sooner_of child (Some older) = if nat_le older.ends_at child.ends_at then older else child
sooner_of child None = child

-- of children, the newest first, the one that ends first; of those that end at one time the one that was started first
abbrev pub next_to_end : List Child → Option Child
next_to_end [] = None
next_to_end (child ∷ older) = Some (sooner_of child (next_to_end older))

-- How a child may end after these calls: as its timing says, and of the children that run it is the one that ends first.
pub record IsInTime (timings : Timings) (call_log : List Call) (key : Key) (outcome : Outcome) : Type 0 where
  pub by_timing : outcome ≡ (timings key).outcome
  pub next : IsTrue (is_among key (running call_log)) → option_map (λ child. child.key) (next_to_end (moment_after timings call_log).children) ≡ Some key

-- It reports one ending at a time, each recorded before the next, and it halts no run.
abbrev pub IsTimed : Timings → Telling
IsTimed timings = record { may_be = IsInTime timings; gathers = ⊥; may_halt = ⊥ }
