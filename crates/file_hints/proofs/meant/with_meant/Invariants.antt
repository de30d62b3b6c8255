use Rattle.file_hints.specs.Meant.{known_names, AreBetter}
use Rattle.file_hints.proofs.meant.with_meant.Given as goal

abbrev pub invariant-loop-finding : goal.invariant-loop-finding
invariant-loop-finding l = AreBetter (known_names l.names) l.yielded l.better.items
