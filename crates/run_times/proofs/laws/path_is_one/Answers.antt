use Rattle.run_times.proofs.OnePath.{path-one}
use Rattle.run_times.proofs.laws.path_is_one.Goals as goal

pub returns : goal.returns
returns c = path-one
