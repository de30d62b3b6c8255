use Rattle.std.proofs.Common.{◌≡◌, ◌++◌, drop}
use Rattle.file_hints.specs.Submitted.{findings_from, submit_findings}
use Rattle.file_hints.proofs.submit.submit_hints.Given as goal

abbrev pub invariant-loop-one : goal.invariant-loop-one
invariant-loop-one l = l.found.items ++ findings_from l.names l.referred.items l.placed l.vars (drop l.one-index l.placed) ≡ submit_findings l.names l.placed l.vars
