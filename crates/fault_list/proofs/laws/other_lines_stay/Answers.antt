use Rattle.fault_list.proofs.Cuts.{others-stay}
use Rattle.fault_list.proofs.laws.other_lines_stay.Goals as goal

pub returns : goal.returns
returns c = others-stay
