use Rattle.std.proofs.Common.{arith, ◌∙◌, [], refl, sym}
use Rattle.sched_core.specs.Ahead.{launched, launches as launches_of}
use Rattle.sched_core.proofs.Added.{launched-added, launches-follow, length-launches}
use Rattle.recovery_manager.specs.Managed.{plan_of, past_of}
use Rattle.job_starter_drive.specs.Drives.{At, limits_of, launch_round, launch_refused}
use Rattle.job_starter_drive.proofs.Disks.{counts_group}
use Rattle.job_starter_drive.proofs.Stretches.{stretch-recorded, cut-recorded, unwritten}
use Rattle.job_starter_drive.proofs.Steps.{open-going}
use Rattle.job_starter_drive.proofs.Turns.{launch-all, nearer-launched}
use Rattle.job_starter_drive.proofs.records.record_launches.Goals as goal

pub returns-clause-nearer : goal.returns-clause-nearer
returns-clause-nearer g c =
    nearer-launched (limits_of c.args.manager.now) (plan_of c.args.manager.now) (past_of c.args.manager.now) (past_of c.launch_batch.new.self) c.args.keys.now c.keeps_the_law.ensures c.requires.going c.requires.round c.in-Ok.ensures.past

pub returns-clause-went : goal.returns-clause-went
returns-clause-went g c =
    let may = g.S.Starter.may_return c.args.starter.now in
    let call_log = g.S.Starter.call_log c.args.starter.now in
    let count = g.S.Starter.faults c.args.starter.now in
    let step = c.requires.in_step in
    let plan = plan_of c.args.manager.now in
    let past = past_of c.args.manager.now in
    let keys = c.args.keys.now in
    let e = c.launch_batch.ensures in
    stretch-recorded g.D.Disk g.met.D.Disk.only_now
    (limits_of c.args.manager.now) plan may count c.args.manager.now c.launch_batch.new.self call_log [] [] (At (launched past keys) call_log keys [])
    e.plan e.limits refl c.keeps_the_law.ensures (launch-all (limits_of c.args.manager.now) plan past keys c.keeps_the_law.ensures c.requires.going c.requires.round.chosen).lawful
    (launch_round c.keeps_the_law.ensures c.requires.going c.requires.unhalted step c.requires.round)
    e.any_moment e.broken e.keeps
    c.in-Ok.ensures.past (λ honest header was. c.in-Ok.ensures.acknowledged honest header was.reads)
    (counts_group c.args.manager.now c.launch_batch.new.self (launches_of past keys) (c.in-Ok.ensures.past ∙ launched-added past keys) c.in-Ok.ensures.used c.in-Ok.ensures.whole)

pub returns-in-Err-clause-cut : goal.returns-in-Err-clause-cut
returns-in-Err-clause-cut g c =
    let may = g.S.Starter.may_return c.args.starter.now in
    let call_log = g.S.Starter.call_log c.args.starter.now in
    let count = g.S.Starter.faults c.args.starter.now in
    let step = c.requires.in_step in
    let plan = plan_of c.args.manager.now in
    let past = past_of c.args.manager.now in
    let keys = c.args.keys.now in
    let e = c.launch_batch.ensures in
    let all = launch-all (limits_of c.args.manager.now) plan past keys c.keeps_the_law.ensures c.requires.going c.requires.round.chosen in
    cut-recorded g.D.Disk g.met.D.Disk.only_now
    (limits_of c.args.manager.now) plan may count c.args.manager.now c.launch_batch.new.self call_log [] [] (At (launched past keys) call_log keys [])
    e.plan e.limits refl c.keeps_the_law.ensures all.lawful
    (launch_round c.keeps_the_law.ensures c.requires.going c.requires.unhalted step c.requires.round)
    e.any_moment e.broken e.keeps
    g.met.D.Disk.counts_now (launches_of past keys) c.in-Err.fault (launch_refused c.requires.round) c.in-Err.ensures.past_err
    (let few = c.requires.round.few in let size = length-launches past keys in omega (arith, few, size)) (launched-added past keys)
    (sym (launches-follow plan past keys) ∙ all.may_all)
    (unwritten g.D.Disk past _ (launches_of past keys) c.args.manager.now.journal c.launch_batch.new.self.journal c.in-Err.fault
    (open-going past c.requires.going) all.may_all c.in-Err.ensures.refused)
