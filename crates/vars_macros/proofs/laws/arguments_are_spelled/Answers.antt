use Rattle.vars_macros.proofs.SpelledArguments.{only, found}
use Rattle.vars_macros.proofs.Splits.{refused_for_quotes}
use Rattle.vars_macros.proofs.laws.arguments_are_spelled.Goals as goal

pub returns-clause-only : goal.returns-clause-only
returns-clause-only c = only

pub returns-clause-found : goal.returns-clause-found
returns-clause-found c = found

pub returns-clause-refused : goal.returns-clause-refused
returns-clause-refused c = refused_for_quotes
