use Rattle.std.proofs.Common.{◌≡◌, ◌++◌, drop}
use Rattle.file_hints.specs.Submitted.{macro_findings}
use Rattle.file_hints.proofs.submit.push_macro_hints.Given as goal

abbrev pub invariant-loop-reference : goal.invariant-loop-reference
invariant-loop-reference l =
    l.found.items ++ macro_findings l.names l.placed l.vars l.one.line (drop l.reference-index l.reference-items)
    ≡ l.initial.found.items ++ macro_findings l.names l.placed l.vars l.one.line l.reference-items
