use Rattle.std.proofs.Common.{◌≡◌, ◌++◌, take, string_bytes}
use Rattle.run_times.specs.Summary.{kinds_text}
use Rattle.run_times.proofs.summary.push_kinds.Given as goal

abbrev pub invariant-loop-kind : goal.invariant-loop-kind
invariant-loop-kind l = string_bytes l.text ≡ string_bytes l.initial.text ++ kinds_text (take l.kind-index l.kinds)
