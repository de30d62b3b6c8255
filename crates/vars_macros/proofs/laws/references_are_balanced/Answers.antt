use Rattle.vars_macros.proofs.Balanced.{is_balanced, is_cut, none_closes}
use Rattle.vars_macros.proofs.laws.references_are_balanced.Goals as goal

pub returns-clause-inside : goal.returns-clause-inside
returns-clause-inside c = is_balanced

pub returns-clause-found : goal.returns-clause-found
returns-clause-found c = is_cut

pub returns-clause-unclosed : goal.returns-clause-unclosed
returns-clause-unclosed c = none_closes
