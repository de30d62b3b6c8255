use Rattle.rescue_file.proofs.OpenedNames.{dag_fit}
use Rattle.rescue_file.proofs.laws.opened_is_fit.Goals as goal

pub returns : goal.returns
returns c = dag_fit
