use Rattle.std.proofs.Common.{refl, sym, ap, Some, None, string_bytes}
use Rattle.recovery_manager.specs.Managed.{past_of}
use Rattle.job_starter_drive.specs.Calls.{running}
use Rattle.run_round.specs.Causes.{not_opened, not_led}
use Rattle.run_round.proofs.Openings.{on-disk, round-of}
use Rattle.run_round.proofs.Stops.{round-stops}
use Rattle.run_round.proofs.rounds.run_round.Goals as goal

pub returns-in-Ok-run_to_end-clause-round : goal.returns-in-Ok-run_to_end-clause-round
returns-in-Ok-run_to_end-clause-round g c =
    round-of g.D.Disk g.R.Disk c.args.plan.now c.args.start c.args.limits (g.S.Starter.may_return c.args.starter.now)
    (g.S.Starter.call_log c.args.starter.now) (g.S.Starter.call_log c.run_to_end.new.starter) c.args.disk c.into_disk.result c.args.rescue c.in-Ok.manager (past_of c.run_to_end.new.manager)
    (string_bytes c.in-Ok-run_to_end.led.text) c.in-Ok-run_to_end.led.status c.in-Ok-run_to_end.led.rescue
    c.in-Ok.ensures.limits c.in-Ok.ensures.plan c.in-Ok.ensures.anew c.in-Ok.ensures.begun c.in-Ok-run_to_end.ensures.led c.in-Ok-run_to_end.ensures.steps c.in-Ok-run_to_end.ensures.rescued c.in-Ok-run_to_end.ensures.keeps
    (λ h. on-disk g.D.Disk g.R.Disk c.in-Ok-run_to_end.led.rescue c.args.start c.args.limits c.args.plan.now (g.S.Starter.may_return c.args.starter.now)
    (g.S.Starter.call_log c.args.starter.now) None (past_of c.run_to_end.new.manager) (g.S.Starter.call_log c.run_to_end.new.starter) c.args.disk c.into_disk.result c.in-Ok.manager c.run_to_end.new.manager
    c.in-Ok.ensures.limits c.in-Ok.ensures.plan c.into_disk.ensures (c.in-Ok.ensures.journaled h) (c.in-Ok.ensures.any_moment h)
    (λ header was. c.in-Ok-run_to_end.ensures.any_moment (c.in-Ok.ensures.keeps h) header was) (λ header was. c.in-Ok-run_to_end.ensures.left (c.in-Ok.ensures.keeps h) header was))

pub returns-in-Err-run_to_end-clause-refused : goal.returns-in-Err-run_to_end-clause-refused
returns-in-Err-run_to_end-clause-refused g c =
    not_led c.in-Ok.manager c.run_to_end.new.manager
    (record {
      plan_is = c.in-Ok.ensures.plan;
      limits_are = c.in-Ok.ensures.limits;
      anew = c.in-Ok.ensures.anew;
      begun = c.in-Ok.ensures.begun;
      whole = c.in-Ok.ensures.whole;
      slots_are = c.in-Ok.ensures.slots;
      room = c.in-Ok.ensures.room;
      later = c.in-Ok.ensures.later;
      count = λ h. c.counts_slots.ensures.count (c.in-Ok.ensures.keeps h);
    })
    (sym c.into_disk-in-Err-run_to_end.ensures) c.in-Err-run_to_end.ensures.refused
    (λ h. on-disk g.D.Disk g.R.Disk c.in-Err-run_to_end.refused.0 c.args.start c.args.limits c.args.plan.now (g.S.Starter.may_return c.args.starter.now)
    (g.S.Starter.call_log c.args.starter.now) (Some c.in-Err-run_to_end.refused.1) (past_of c.run_to_end.new.manager) (g.S.Starter.call_log c.run_to_end.new.starter) c.args.disk c.into_disk-in-Err-run_to_end.result c.in-Ok.manager c.run_to_end.new.manager
    c.in-Ok.ensures.limits c.in-Ok.ensures.plan c.into_disk-in-Err-run_to_end.ensures (c.in-Ok.ensures.journaled h) (c.in-Ok.ensures.any_moment h)
    (λ header was. c.in-Err-run_to_end.ensures.any_moment (c.in-Ok.ensures.keeps h) header was) (λ header was. c.in-Err-run_to_end.ensures.left (c.in-Ok.ensures.keeps h) header was))

pub returns-in-Err-clause-refused : goal.returns-in-Err-clause-refused
returns-in-Err-clause-refused g c = not_opened refl refl c.in-Err.ensures.refused c.in-Err.ensures.untouched c.in-Err.ensures.any_moment_err

pub returns-in-Err-clause-stops : goal.returns-in-Err-clause-stops
returns-in-Err-clause-stops g c =
    round-stops g.D.Disk g.R.Disk (g.S.Starter.faults c.args.starter.now) (g.S.Starter.faults c.args.starter.now)
    c.args.plan.now 16777216 c.args.limits (g.S.Starter.may_return c.args.starter.now) (g.S.Starter.call_log c.args.starter.now) (g.S.Starter.call_log c.args.starter.now) c.args.disk _ c.args.rescue _ c.args.start _
    (not_opened refl refl c.in-Err.ensures.refused c.in-Err.ensures.untouched c.in-Err.ensures.any_moment_err)

pub returns-in-Err-run_to_end-clause-stops : goal.returns-in-Err-run_to_end-clause-stops
returns-in-Err-run_to_end-clause-stops g c =
    round-stops g.D.Disk g.R.Disk (g.S.Starter.faults c.args.starter.now) (g.S.Starter.faults c.run_to_end.new.starter)
    c.args.plan.now 16777216 c.args.limits (g.S.Starter.may_return c.args.starter.now) (g.S.Starter.call_log c.args.starter.now) (g.S.Starter.call_log c.run_to_end.new.starter) c.args.disk _ c.args.rescue _ c.args.start c.in-Err-run_to_end.refused.1
    (not_led c.in-Ok.manager c.run_to_end.new.manager
    (record {
      plan_is = c.in-Ok.ensures.plan;
      limits_are = c.in-Ok.ensures.limits;
      anew = c.in-Ok.ensures.anew;
      begun = c.in-Ok.ensures.begun;
      whole = c.in-Ok.ensures.whole;
      slots_are = c.in-Ok.ensures.slots;
      room = c.in-Ok.ensures.room;
      later = c.in-Ok.ensures.later;
      count = λ h. c.counts_slots.ensures.count (c.in-Ok.ensures.keeps h);
    })
    (sym c.into_disk-in-Err-run_to_end.ensures) c.in-Err-run_to_end.ensures.refused
    (λ h. on-disk g.D.Disk g.R.Disk c.in-Err-run_to_end.refused.0 c.args.start c.args.limits c.args.plan.now (g.S.Starter.may_return c.args.starter.now)
    (g.S.Starter.call_log c.args.starter.now) (Some c.in-Err-run_to_end.refused.1) (past_of c.run_to_end.new.manager) (g.S.Starter.call_log c.run_to_end.new.starter) c.args.disk c.into_disk-in-Err-run_to_end.result c.in-Ok.manager c.run_to_end.new.manager
    c.in-Ok.ensures.limits c.in-Ok.ensures.plan c.into_disk-in-Err-run_to_end.ensures (c.in-Ok.ensures.journaled h) (c.in-Ok.ensures.any_moment h)
    (λ header was. c.in-Err-run_to_end.ensures.any_moment (c.in-Ok.ensures.keeps h) header was) (λ header was. c.in-Err-run_to_end.ensures.left (c.in-Ok.ensures.keeps h) header was)))

pub returns-in-Err-clause-none_left : goal.returns-in-Err-clause-none_left
returns-in-Err-clause-none_left g c = ap running c.requires.idle
