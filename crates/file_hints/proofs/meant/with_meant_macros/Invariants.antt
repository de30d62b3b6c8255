use Rattle.file_hints.specs.Meant.{AreBetterMacros}
use Rattle.file_hints.proofs.meant.with_meant_macros.Given as goal

abbrev pub invariant-loop-finding : goal.invariant-loop-finding
invariant-loop-finding l = AreBetterMacros l.names l.placed l.vars l.yielded l.better.items
