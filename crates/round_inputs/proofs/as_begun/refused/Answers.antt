use Rattle.std.proofs.Common.{◌∙◌}
use Rattle.round_inputs.specs.AsBegun.{file_of}
use Rattle.round_inputs.proofs.as_begun.refused.Goals as goal

pub returns : goal.returns
returns c = file_of c.in_ok-from_str.field-0 (c.in_ok-from_str.ensures.ok ∙ c.as_str.ensures)
