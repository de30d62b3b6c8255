use Rattle.std.proofs.Common.{◌≡◌, ◌++◌, string_bytes}
use Rattle.run_times.specs.Picture.{axis_text}
use Rattle.run_times.proofs.picture.push_axis.Given as goal

abbrev pub invariant-loop-mark : goal.invariant-loop-mark
invariant-loop-mark l = string_bytes l.text ≡ string_bytes l.fn.text ++ axis_text l.canvas l.head l.step l.mark
