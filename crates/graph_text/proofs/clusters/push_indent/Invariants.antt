use Rattle.std.proofs.Common.{◌≡◌, ◌++◌, string_bytes}
use Rattle.graph_text.specs.Clusters.{indent}
use Rattle.graph_text.proofs.clusters.push_indent.Given as goal

abbrev pub invariant-loop : goal.invariant-loop
invariant-loop l = string_bytes l.text ≡ string_bytes l.fn.text ++ indent l.counter
