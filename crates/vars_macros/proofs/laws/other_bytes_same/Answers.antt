use Rattle.vars_macros.proofs.DigitRuns.{same_text, empty_alike, begins_alike, any_alike, as_many}
use Rattle.vars_macros.proofs.laws.other_bytes_same.Goals as goal

pub returns-clause-itself : goal.returns-clause-itself
returns-clause-itself c = same_text

pub returns-clause-empty : goal.returns-clause-empty
returns-clause-empty c x y h = empty_alike h

pub returns-clause-first : goal.returns-clause-first
returns-clause-first c x y h b other = begins_alike b other h

pub returns-clause-any : goal.returns-clause-any
returns-clause-any c x y h b other = any_alike b other h

pub returns-clause-count : goal.returns-clause-count
returns-clause-count c = as_many
