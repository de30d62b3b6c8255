-- Runs of a plan at the outcomes of a table.
use Rattle.std.specs.Prelude.{List, [], ◌∷◌, IsTrue, IsFalse}
use Rattle.node_machine.specs.OutcomeTable.{Entry}
use Rattle.throttles.specs.declared.Limits.{Limits}
use Rattle.run_plan.specs.Plan.{Plan}
use Rattle.node_machine.specs.declared.Record.{Record}
use Rattle.node_machine.specs.declared.Record.TheVariants.{Life}
use Rattle.sched_core.specs.Run.{is_finished, is_aborted}
use Rattle.sched_core.specs.Fate.{AreFates, shown}
use Rattle.sched_core.specs.Lives.{HasOutcomesOf}
use Rattle.job_starter_drive.specs.declared.Call.{Call}
use Rattle.job_starter_drive.specs.Scripts.{IsScripted}
use Rattle.run_round.specs.RunToEnd.{DrivesToEnd}
use Rattle.fate_audit.specs.Fates.{table_by}

-- A whole run of one life under these limits, one step after another, as with children, of which each ends as the table says,
-- the one that was started first before the others. So it is finished, its endings are the table's, and without abort it shows
-- the fates.
pub record IsRehearsed (limits : Limits) (plan : Plan) (entries : List Entry) (past : List Record) : Type 0 where
  pub calls : List Call
  pub steps : DrivesToEnd limits plan (IsScripted plan entries []) (Life ∷ []) [] past calls
  pub finished : IsTrue (is_finished plan past)
  pub outcomes : HasOutcomesOf plan (table_by plan entries) past
  pub fates : IsFalse (is_aborted plan past) → AreFates plan (table_by plan entries) (shown plan past)
