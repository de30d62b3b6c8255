use Rattle.std.proofs.Common.{◌≡◌, None, take}
use Rattle.std.specs.Prelude.{find}
use Rattle.run_times.specs.Limits.{holds_run}
use Rattle.run_times.proofs.limits.holder_among.Given as goal

abbrev pub invariant-loop-limit : goal.invariant-loop-limit
invariant-loop-limit l = find (holds_run l.graph l.runs l.run) (take l.limit-index l.limits) ≡ None
