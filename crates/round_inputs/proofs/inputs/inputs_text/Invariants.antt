use Rattle.std.proofs.Common.{◌≡◌, take}
use Rattle.round_inputs.specs.Inputs.{inputs_text_of}
use Rattle.round_inputs.proofs.inputs.inputs_text.Given as goal

abbrev pub invariant-loop-file : goal.invariant-loop-file
invariant-loop-file l = l.text.items ≡ inputs_text_of l.inputs.digest (take l.file-index l.inputs.files.items)
