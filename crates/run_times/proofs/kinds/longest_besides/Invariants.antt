use Rattle.run_times.specs.Kinds.{IsLongestBesides}
use Rattle.run_times.proofs.kinds.longest_besides.Given as goal

abbrev pub invariant-loop-run : goal.invariant-loop-run
invariant-loop-run l = IsLongestBesides l.graph l.runs l.run-index l.kinds l.longest
