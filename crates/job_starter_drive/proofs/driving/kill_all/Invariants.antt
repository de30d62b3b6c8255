use Rattle.std.proofs.Common.{◌≡◌, length}
use Rattle.job_starter_drive.specs.Calls.{running, AllowsNoMore}
use Rattle.job_starter_drive.specs.Drives.{Kills}
use Rattle.job_starter_drive.proofs.driving.kill_all.Given as goal

abbrev pub invariant-loop-starter : goal.invariant-loop-starter
invariant-loop-starter g l = Kills (g.S.Starter.call_log l.initial.starter) (g.S.Starter.call_log l.starter)
    × (g.S.Starter.faults l.starter ≡ g.S.Starter.faults l.initial.starter)
    × AllowsNoMore (g.S.Starter.may_return l.initial.starter) (g.S.Starter.may_return l.starter)

abbrev pub decreases-loop-starter : goal.decreases-loop-starter
decreases-loop-starter g l = length (running (g.S.Starter.call_log l.starter))
