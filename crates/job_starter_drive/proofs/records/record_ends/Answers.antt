use Rattle.std.proofs.Common.{arith, [], refl, sym, subst}
use Rattle.sched_core.specs.Run.{outstanding}
use Rattle.sched_core.specs.Ahead.{added, up_to_abort, ends_of, ended_in}
use Rattle.sched_core.proofs.Added.{up-few}
use Rattle.recovery_manager.specs.Managed.{plan_of, past_of}
use Rattle.job_starter_drive.specs.Drives.{At, at_rest, limits_of, without_all}
use Rattle.job_starter_drive.specs.Stretches.{IsStretch}
use Rattle.job_starter_drive.proofs.Disks.{counts_group}
use Rattle.job_starter_drive.proofs.Stretches.{stretch-recorded, cut-recorded, unwritten, settle-step, settle-stop}
use Rattle.job_starter_drive.proofs.Steps.{open-going}
use Rattle.job_starter_drive.proofs.Turns.{end-all, ends-fit, nearer-ended}
use Rattle.job_starter_drive.proofs.records.record_ends.Goals as goal

pub returns-in-Ok-clause-nearer : goal.returns-in-Ok-clause-nearer
returns-in-Ok-clause-nearer g c =
    nearer-ended (plan_of c.args.manager.now) (past_of c.args.manager.now) (past_of c.record_batch.new.self) c.args.ends.now c.keeps_the_law.ensures c.requires.going c.requires.some c.requires.ends c.in-Ok.ensures.past

pub returns-in-Ok-clause-went : goal.returns-in-Ok-clause-went
returns-in-Ok-clause-went g c =
    let may = g.S.Starter.may_return c.args.starter.now in
    let call_log = g.S.Starter.call_log c.args.starter.now in
    let count = g.S.Starter.faults c.args.starter.now in
    let plan = plan_of c.args.manager.now in
    let past = past_of c.args.manager.now in
    let ends = c.args.ends.now in
    let entries = up_to_abort plan past (ends_of ends) in
    let e = c.record_batch.ensures in
    let all = end-all plan past (without_all (ended_in ends) (outstanding plan past)) ends c.keeps_the_law.ensures c.requires.going refl c.requires.ends in
    subst (λ l. IsStretch g.D.Disk (limits_of c.args.manager.now) plan may may count count c.args.manager.now c.record_batch.new.self (At past call_log [] ends) (at_rest l call_log)) (sym c.in-Ok.ensures.past)
    (stretch-recorded g.D.Disk g.met.D.Disk.only_now
    (limits_of c.args.manager.now) plan may count c.args.manager.now c.record_batch.new.self call_log [] ends (at_rest (added past entries) call_log)
    e.plan e.limits refl c.keeps_the_law.ensures all.lawful
    (settle-step (limits_of c.args.manager.now) plan may past call_log ends c.requires.some)
    e.any_moment e.broken e.keeps
    c.in-Ok.ensures.past (λ honest header was. c.in-Ok.ensures.acknowledged honest header was.reads)
    (counts_group c.args.manager.now c.record_batch.new.self entries c.in-Ok.ensures.past c.in-Ok.ensures.used c.in-Ok.ensures.whole))

pub returns-in-Err-clause-cut : goal.returns-in-Err-clause-cut
returns-in-Err-clause-cut g c =
    let may = g.S.Starter.may_return c.args.starter.now in
    let call_log = g.S.Starter.call_log c.args.starter.now in
    let count = g.S.Starter.faults c.args.starter.now in
    let plan = plan_of c.args.manager.now in
    let past = past_of c.args.manager.now in
    let ends = c.args.ends.now in
    let entries = up_to_abort plan past (ends_of ends) in
    let e = c.record_batch.ensures in
    let all = end-all plan past (without_all (ended_in ends) (outstanding plan past)) ends c.keeps_the_law.ensures c.requires.going refl c.requires.ends in
    cut-recorded g.D.Disk g.met.D.Disk.only_now
    (limits_of c.args.manager.now) plan may count c.args.manager.now c.record_batch.new.self call_log [] ends (at_rest (added past entries) call_log)
    e.plan e.limits refl c.keeps_the_law.ensures all.lawful
    (settle-step (limits_of c.args.manager.now) plan may past call_log ends c.requires.some)
    e.any_moment e.broken e.keeps
    g.met.D.Disk.counts_now entries c.in-Err.fault (settle-stop (limits_of c.args.manager.now) plan c.in-Err.fault past call_log ends c.requires.some) c.in-Err.ensures.past_err
    (let few = c.requires.few in let size = up-few plan past ends in omega (arith, few, size)) refl all.may_all
    (unwritten g.D.Disk past _ entries c.args.manager.now.journal c.record_batch.new.self.journal c.in-Err.fault
    (open-going past c.requires.going) (ends-fit plan past ends all.may_all) c.in-Err.ensures.refused)
