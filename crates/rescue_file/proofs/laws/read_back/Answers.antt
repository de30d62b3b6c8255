use Rattle.rescue_file.proofs.ReadBack.{read_again}
use Rattle.rescue_file.proofs.laws.read_back.Goals as goal

pub returns : goal.returns
returns c = read_again
