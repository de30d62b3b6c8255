use Rattle.vars_macros.proofs.Splits.{one_list}
use Rattle.vars_macros.proofs.laws.one_list_of_words.Goals as goal

pub returns : goal.returns
returns c = one_list
