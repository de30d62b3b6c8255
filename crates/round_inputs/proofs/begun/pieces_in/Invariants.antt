use Rattle.std.proofs.Common.{length}
use Rattle.round_inputs.proofs.begun.pieces_in.Given as goal

abbrev pub decreases-loop-rest : goal.decreases-loop-rest
decreases-loop-rest l = length l.rest
