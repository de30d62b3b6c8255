-- Two runs over journals agree, as runs over any lives do.
use Rattle.std.proofs.Common.{◌≡◌, ℕ, ℤ, true, false, List, ◌∷◌}
use Rattle.std.specs.List.{Contains}
use Rattle.node_machine.specs.declared.Key.{Key}
use Rattle.run_plan.specs.Plan.{node_at}
use Rattle.run_plan_node.specs.Commands.{CommandOrFault, is_expandable, uses_whole_run}
use Rattle.sched_core.specs.Run.{is_done}
use Rattle.sched_core.specs.Fate.{shown}
use Rattle.sched_core.specs.Agree.{AgreeOnFates}
use Rattle.sched_core.specs.Commands.{command_of_launch, plain_command}
use Rattle.sched_core.specs.EveryRun.{AnyRun, IsRunOver, ArePlain, with_plain, HaveSamePlain}
use Rattle.sched_core.proofs.EveryRuns.{IsHandedOver, plan-plain, runs-agree}
use Rattle.sched_core.proofs.Finished.{lawful_part}
use Rattle.recovery_manager.specs.Chain.{ManagerLife}
use Rattle.recovery_manager.proofs.Chains.{any-run, journal_run, handed-by}
use Rattle.recovery.specs.Runs.{JournalRun, IsJournalRun, IsComparable}

abbrev pub any_run : JournalRun → AnyRun (List ℕ) CommandOrFault
any_run run = journal_run run.plan run.table run.last run.before

pub over : (run : JournalRun) → IsJournalRun run → IsRunOver (any_run run)
over run is = any-run run.plan run.table run.last run.before is.lives is.ended

pub compared : (run run' : JournalRun) (node node' : ℕ) → IsComparable run node → IsComparable run' node' → AgreeOnFates run.plan run.table run'.plan run'.table node node'
    → (shown run.plan run.last.held node ≡ shown run'.plan run'.last.held node')
    × (is_done run.plan run.last.held node ≡ is_done run'.plan run'.last.held node')
    × ((plain plain' : Key → ℤ × ℤ → CommandOrFault) → HaveSamePlain run.plan plain plain' node node'
    → with_plain run.plan run.table plain node (shown run.plan run.last.held node).history
    ≡ with_plain run'.plan run'.table plain' node' (shown run'.plan run'.last.held node').history)
compared run run' node node' is is' agree =
    runs-agree (any_run run) (any_run run') (over run is.over) (over run' is'.over) is.rank is'.rank is.ranked is'.ranked node node' is.ordinary is'.ordinary agree

-- the commands of a node are plain in the records of a run
pub plain-in : (run : JournalRun) → IsJournalRun run → (node : ℕ) → is_expandable (node_at run.plan node) ≡ true → uses_whole_run (node_at run.plan node) ≡ false
    → ArePlain run.plan run.last.held (command_of_launch run.plan) (plain_command run.plan) node
plain-in run is node sound plain = plan-plain run.plan run.last.held (lawful_part run.plan run.last.held is.ended.finished) node sound plain

-- what a life of a run handed over
pub handed-in : (run : JournalRun) → IsJournalRun run → (life : ManagerLife) → Contains (run.last ∷ run.before) life → (key : Key) (command : CommandOrFault) → Contains life.handed (key, command)
    → IsHandedOver run.plan run.table run.last.held (command_of_launch run.plan) key command
handed-in run is life is_there key command has = handed-by run.plan run.table run.last run.before is.lives is.ended life is_there key command has
