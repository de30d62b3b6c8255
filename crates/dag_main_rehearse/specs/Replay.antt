-- Runs of a plan whose children take as long as is said.
use Rattle.std.specs.Prelude.{◌≡◌, List, [], ◌∷◌}
use Rattle.throttles.specs.declared.Limits.{Limits}
use Rattle.run_plan.specs.Plan.{Plan}
use Rattle.node_machine.specs.declared.Record.{Record}
use Rattle.node_machine.specs.declared.Record.TheVariants.{Life}
use Rattle.sched_core.specs.Run.{is_aborted}
use Rattle.job_starter_drive.specs.declared.Call.{Call}
use Rattle.dag_main_rehearse.specs.Timed.{Timings, IsTimed, moment_after}
use Rattle.run_round.specs.RunToEnd.{DrivesToEnd}
use Rattle.dag_main_check.specs.declared.fault.RunFault.{RunFault}
use Rattle.dag_main_check.specs.declared.fault.RunFault.TheVariants.{InManager, Memory}
use Rattle.dag_main_rehearse.specs.declared.replays.Replay.{Replay}
use Rattle.dag_main_rehearse.specs.TooLong.{no_slot, HasTooManyRecords}

-- A whole run of one life under these limits, one step after another, as with children, of which each takes as long and ends as is said, the one
-- that ends first before the others. Its time is that of its last ending; no time goes by but while children run.
pub record IsReplay (limits : Limits) (plan : Plan) (timings : Timings) (replay : Replay) : Type 0 where
  pub past : List Record
  pub calls : List Call
  pub steps : DrivesToEnd limits plan (IsTimed timings) (Life ∷ []) [] past calls
  pub time_is : replay.time ≡ (moment_after timings calls).clock
  pub aborted_is : replay.aborted ≡ is_aborted plan past

-- why such a run is stopped
pub data IsNoReplay (limits : Limits) (plan : Plan) (timings : Timings) : RunFault → Type 0 where
  replay_has_too_many_records : HasTooManyRecords limits plan (IsTimed timings) → IsNoReplay limits plan timings (InManager no_slot)
  replaying_had_no_memory : IsNoReplay limits plan timings Memory
