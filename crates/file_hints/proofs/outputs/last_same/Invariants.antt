use Rattle.std.proofs.Common.{◌≡◌, drop, None, option_copied}
use Rattle.file_hints.specs.Outputs.{last_writer}
use Rattle.file_hints.proofs.outputs.last_same.Given as goal

abbrev pub invariant-loop-one : goal.invariant-loop-one
invariant-loop-one l = last_writer (option_copied l.found) (drop l.one-index l.writers) l.path ≡ last_writer None l.writers l.path
