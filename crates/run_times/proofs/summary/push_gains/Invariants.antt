use Rattle.std.proofs.Common.{◌≡◌, ◌++◌, take, string_bytes}
use Rattle.run_times.specs.Summary.{gains_text}
use Rattle.run_times.proofs.summary.push_gains.Given as goal

abbrev pub invariant-loop-gain : goal.invariant-loop-gain
invariant-loop-gain l = string_bytes l.text ≡ string_bytes l.initial.text ++ gains_text (take l.gain-index l.gains)
