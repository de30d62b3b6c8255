-- What the limits let in, by what is outstanding: so a new life and an abort begin with nothing that counts.
use Rattle.std.specs.Prelude.{◌≡◌, ◌<◌, ◌≤◌, ℕ, Bool, List, [], ◌∷◌, map, if◌then◌else◌}
use Rattle.node_machine.specs.declared.Key.{Key}
use Rattle.throttles.specs.declared.Limits.{Limits}
use Rattle.throttles.specs.Throttled.{Throttled, Running, none_running, with_one, without_one, such_in, may_start}
use Rattle.splices_flat.specs.declared.flat.CategoryLimit.{CategoryLimit}
use Rattle.ready_queue.specs.declared.Member.{Member}
use Rattle.ready_queue.specs.Queue.{ComesBefore}
use Rattle.run_plan.specs.Plan.{Plan, node_at, count_of}
use Rattle.node_machine.specs.declared.Record.{Record}
use Rattle.node_machine.specs.declared.Record.TheVariants.{Life, Launch, End, Finish}
use Rattle.sched_core.specs.Run.{outstanding}

-- the limits of the categories that have one, by their places
abbrev pub limits_of_categories : Plan → List ℕ
limits_of_categories plan = map (λ (category : CategoryLimit). category.limit) plan.graph.dag.categories

-- what runs where these phases are outstanding; the job of a NOOP is one of them
abbrev pub running_in : Plan → List Key → Running
running_in plan [] = none_running (limits_of_categories plan)
running_in plan (key ∷ keys) = with_one (running_in plan keys) key.phase (node_at plan key.node).category

abbrev pub throttled_in : Limits → Plan → List Key → Throttled
throttled_in limits plan keys = record { limits = limits; categories = limits_of_categories plan; running = running_in plan keys }

-- where these phases are outstanding, no limit that counts this one is reached
abbrev pub lets_in : Limits → Plan → List Key → Key → Bool
lets_in limits plan keys key = may_start (throttled_in limits plan keys) key.phase (node_at plan key.node).category

abbrev pub member_of : Plan → ℕ → Member
member_of plan node = record { node = node; priority = (node_at plan node).priority }

-- a node is better than another: its priority is greater, or the same and it comes first in plan order
abbrev pub IsBetter : Plan → ℕ → ℕ → Type 0
IsBetter plan node other = ComesBefore (member_of plan node) (member_of plan other)

-- throttles count what is outstanding
abbrev pub IsThrottled : Plan → List Record → Throttled → Type 0
IsThrottled plan past throttled = throttled ≡ throttled_in throttled.limits plan (outstanding plan past)

-- what a record makes of the throttles, where it is given whether the record aborts the run
abbrev pub throttled_after : Plan → Throttled → Record → Bool → Throttled
throttled_after plan throttled Life stops = record throttled { running = none_running throttled.categories }
throttled_after plan throttled (Launch key number) stops =
    record throttled { running = with_one throttled.running key.phase (node_at plan key.node).category }
throttled_after plan throttled (End key outcome) stops =
    record throttled {
      running =
          if stops then none_running throttled.categories
          else without_one throttled.running key.phase (node_at plan key.node).category;
    }
throttled_after plan throttled (Finish status) stops = throttled

-- a record that launches or ends a phase is of a node of the plan
abbrev pub IsOfNode : Plan → Record → Type 0
IsOfNode plan Life = Unit {0}
IsOfNode plan (Launch key number) = key.node ≤ count_of plan
IsOfNode plan (End key outcome) = key.node ≤ count_of plan
IsOfNode plan (Finish status) = Unit {0}

-- what ends runs
abbrev pub IsCounted : Plan → Throttled → Record → Type 0
IsCounted plan throttled (End key outcome) = 0 < such_in throttled.running key.phase (node_at plan key.node).category
IsCounted plan throttled _ = Unit {0}
