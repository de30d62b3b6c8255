use Rattle.std.proofs.Common.{◌≡◌, length}
use Rattle.fate_audit.proofs.predictions.waiting.Given as goal

abbrev pub invariant-loop : goal.invariant-loop
invariant-loop l = length l.fates.items ≡ l.counter
