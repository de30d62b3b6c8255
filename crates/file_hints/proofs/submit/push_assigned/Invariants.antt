use Rattle.std.proofs.Common.{◌≡◌, ◌++◌, drop}
use Rattle.file_hints.specs.Submitted.{assigned_references}
use Rattle.file_hints.proofs.submit.push_assigned.Given as goal

abbrev pub invariant-loop-one : goal.invariant-loop-one
invariant-loop-one l = l.found.items ++ assigned_references (drop l.one-index l.vars) ≡ l.initial.found.items ++ assigned_references l.vars
