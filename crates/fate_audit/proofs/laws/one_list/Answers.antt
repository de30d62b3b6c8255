use Rattle.fate_audit.proofs.Lists.{one-list, only-list}
use Rattle.fate_audit.proofs.laws.one_list.Goals as goal

pub returns-clause-only : goal.returns-clause-only
returns-clause-only c = only-list

pub returns-clause-says : goal.returns-clause-says
returns-clause-says c = one-list
