-- The nodes in error.
use Rattle.std.specs.Prelude.{◌≡◌, ℕ, suc, ◌+◌, ◌-◌, ◌*◌, ◌<◌, ◌==◌, List, [], ◌∷◌, Option, Some, None, map, filter, length, slice_index_or, if◌then◌else◌}
use Rattle.std.specs.List.{All, range_with_len}
use Rattle.std.specs.List.Sorted.{IsPermutation, IsNonDecreasingBy}
use Rattle.node_machine.specs.declared.Ended.{Ended}
use Rattle.node_machine.specs.declared.Record.{Record}
use Rattle.node_machine.specs.declared.Record.TheVariants.{End}
use Rattle.run_plan.specs.Plan.{Plan, count_of}
use Rattle.sched_core.specs.Run.{history, is_in_error}
use Rattle.failure_report.specs.declared.failed.Failure.{Failure}
use Rattle.failure_report.specs.Waiting.{IsWaitingCount}

-- the last of some phases
abbrev pub last_phase : List Ended → Option Ended
last_phase [] = None
last_phase (e ∷ []) = Some e
last_phase (e ∷ f ∷ es) = last_phase (f ∷ es)

-- the last phase of a node that ended
abbrev pub last_end : List Record → ℕ → Option Ended
last_end past node = last_phase (history past node)

-- what a record makes of it
abbrev pub noted_end : Option Ended → Record → ℕ → Option Ended
noted_end before (End key outcome) node =
    if key.node == node then Some (record { attempt = key.attempt; phase = key.phase; outcome = outcome }) else before
noted_end before _ node = before

-- of each node, FINAL's place after the others, its last phase that ended
pub record AreLastEnds (plan : Plan) (past : List Record) (ends : List (Option Ended)) : Type 0 where
  pub many : length ends ≡ suc (count_of plan)
  pub each : (node : ℕ) → node < suc (count_of plan) → slice_index_or ends node None ≡ last_end past node

-- A node in error, how its last phase ended, and how many nodes wait for it.
pub record IsFailure (plan : Plan) (past : List Record) (failure : Failure) : Type 0 where
  pub ended : failure.end ≡ last_end past failure.node
  pub waits : IsWaitingCount plan past failure.node failure.waiting

-- the nodes in error below n
abbrev pub in_error_below : Plan → List Record → ℕ → List ℕ
in_error_below plan past n = filter (is_in_error plan past) (range_with_len 0 n)

-- these are the nodes in error below n, in plan order
pub record AreInPlanOrder (plan : Plan) (past : List Record) (n : ℕ) (found : List Failure) : Type 0 where
  pub nodes : map (λ failure. failure.node) found ≡ in_error_below plan past n
  pub each : All (IsFailure plan past) found

-- the more nodes wait the lower, and of as many by the plan
abbrev pub rank_of : Failure → ℕ
rank_of failure = (4294967295 - failure.waiting) * 4294967296 + failure.node

-- All nodes in error, FINAL among them, each once: those first for which most nodes wait, and of as many in plan order.
pub record AreFailures (plan : Plan) (past : List Record) (found : List Failure) : Type 0 where
  pub nodes : IsPermutation (in_error_below plan past (suc (count_of plan))) (map (λ failure. failure.node) found)
  pub each : All (IsFailure plan past) found
  pub ordered : IsNonDecreasingBy rank_of found
