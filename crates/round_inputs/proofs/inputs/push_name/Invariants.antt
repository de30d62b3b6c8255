use Rattle.std.proofs.Common.{◌≡◌, ◌++◌, take}
use Rattle.round_inputs.specs.Inputs.{escaped_path}
use Rattle.round_inputs.proofs.inputs.push_name.Given as goal

abbrev pub invariant-loop-byte : goal.invariant-loop-byte
invariant-loop-byte l = l.text.items ≡ l.initial.text.items ++ escaped_path (take l.byte-index l.name)
