use Rattle.std.proofs.Common.{◌≡◌}
use Rattle.job_starter_drive.specs.Calls.{AllowsNoMore}
use Rattle.job_starter_drive.proofs.polling.ProcessStarter.pause_after.Given as goal

abbrev pub invariant-loop : goal.invariant-loop
invariant-loop g l = (g.S.System.call_log l.self.system ≡ g.S.System.call_log l.initial.self.system)
    × (g.S.System.faults l.self.system ≡ g.S.System.faults l.initial.self.system)
    × AllowsNoMore (g.S.System.may_return l.initial.self.system) (g.S.System.may_return l.self.system)
