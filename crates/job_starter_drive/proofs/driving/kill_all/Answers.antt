use Rattle.std.proofs.Common.{rules, ◌∙◌, ap, refl, sym, subst}
use Rattle.job_starter_drive.specs.Calls.{oldest}
use Rattle.job_starter_drive.specs.Drives.{Kills, nobody, one_killed}
use Rattle.job_starter_drive.proofs.Walks.{allows-self, allows-then}
use Rattle.job_starter_drive.proofs.driving.kill_all.Goals as goal

pub loop-starter-init : goal.loop-starter-init
loop-starter-init g c = (nobody, refl, (allows-self (g.S.Starter.may_return c.args.starter.now)))

pub loop-starter-preserved : goal.loop-starter-preserved
loop-starter-preserved g c =
    let i = c.loop-starter.invariant in
    let e = c.kill.ensures in
    (subst (λ l. Kills (g.S.Starter.call_log c.args.starter.now) l) (sym e.call_log) (one_killed i.0 (search rules) (ap oldest (sym c.running-in-loop-starter.ensures) ∙ c.key_at-oldest.ensures.first refl)), e.counts ∙ i.1, allows-then (g.S.Starter.may_return c.args.starter.now) (g.S.Starter.may_return c.loop-starter.starter) (g.S.Starter.may_return c.kill.new.self) i.2 e.may)
