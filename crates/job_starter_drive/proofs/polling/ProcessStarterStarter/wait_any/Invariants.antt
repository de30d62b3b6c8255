use Rattle.std.proofs.Common.{◌≡◌, ◌<◌, length}
use Rattle.job_starter_drive.specs.Calls.{running, AllowsNoMore}
use Rattle.job_starter_drive.proofs.polling.ProcessStarterStarter.wait_any.Given as goal

abbrev pub invariant-loop-round : goal.invariant-loop-round
invariant-loop-round g l = (g.S.System.call_log l.self.system ≡ g.S.System.call_log l.initial.self.system)
    × (g.S.System.faults l.self.system ≡ g.S.System.faults l.initial.self.system)
    × AllowsNoMore (g.S.System.may_return l.initial.self.system) (g.S.System.may_return l.self.system)
    × (0 < length (running (g.S.System.call_log l.initial.self.system)))
