-- What is to be done next in a run: docs/MANUAL.md, "Priorities", "Limits and categories".
use Rattle.std.specs.Prelude.{◌≡◌, ℕ, suc, Option, Some, None, List, Bool, not, IsTrue, IsFalse, if◌then◌else◌}
use Rattle.node_machine.specs.declared.Key.{Key}
use Rattle.node_machine.specs.declared.Record.{Record}
use Rattle.throttles.specs.declared.Limits.{Limits}
use Rattle.run_plan.specs.Plan.{Plan, count_of, all_below}
use Rattle.sched_core.specs.declared.Choice.{Choice}
use Rattle.sched_core.specs.declared.Choice.TheVariants as choices
use Rattle.sched_core.specs.Run.{next, outstanding, is_nothing, may_launch, exit_status}
use Rattle.sched_core.specs.Limits.{lets_in, IsBetter}

-- a node's phase that may be launched
abbrev pub launchable : Plan → List Record → ℕ → Option Key
launchable plan past node = if may_launch plan past node then next plan past node else None

-- no phase of a node below n may be launched
abbrev pub nothing_launchable : Plan → List Record → ℕ → Bool
nothing_launchable plan past n = all_below (λ node. not (may_launch plan past node)) n

abbrev pub if_let_in : Limits → Plan → List Record → Option Key → Option Key
if_let_in limits plan past None = None
if_let_in limits plan past (Some key) = if lets_in limits plan (outstanding plan past) key then Some key else None

-- a node's phase that may be launched and is let in
abbrev pub startable : Limits → Plan → List Record → ℕ → Option Key
startable limits plan past node = if_let_in limits plan past (launchable plan past node)

-- What is to be done next: of the phases that may be launched and are let in the one than whose node no other is better; else,
-- where something is outstanding, to wait; else, where nothing may be launched, to finish with the verdict.
abbrev pub IsChoice : Limits → Plan → List Record → Choice → Type 0
IsChoice limits plan past (choices.Start key) =
    (startable limits plan past key.node ≡ Some key)
    × ((node : ℕ) (other : Key) → startable limits plan past node ≡ Some other → IsBetter plan node key.node → ⊥)
IsChoice limits plan past choices.Wait =
    IsFalse (is_nothing (outstanding plan past)) × ((node : ℕ) → startable limits plan past node ≡ None)
IsChoice limits plan past (choices.Finish status) =
    IsTrue (nothing_launchable plan past (suc (count_of plan))) × IsTrue (is_nothing (outstanding plan past))
    × (status ≡ exit_status plan past)
