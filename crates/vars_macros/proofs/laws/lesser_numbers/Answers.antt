use Rattle.vars_macros.proofs.Lesser.{lesser_scope, lesser_expansion}
use Rattle.vars_macros.proofs.SpelledArguments.{only, found}
use Rattle.vars_macros.proofs.WordsAlike.{words_alike}
use Rattle.vars_macros.proofs.laws.lesser_numbers.Goals as goal

pub returns-clause-scopes : goal.returns-clause-scopes
returns-clause-scopes c = lesser_scope

pub returns-clause-expansions : goal.returns-clause-expansions
returns-clause-expansions c = lesser_expansion

pub returns-clause-words : goal.returns-clause-words
returns-clause-words c = λ x y alike words spells. let p = words_alike x y alike words (only x words spells) in (p.0, found y p.0 p.1, p.2)
