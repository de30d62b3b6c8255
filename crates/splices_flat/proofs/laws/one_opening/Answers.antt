use Rattle.splices_flat.proofs.OpeningFiles.{is-opened, one-opening}
use Rattle.splices_flat.proofs.laws.one_opening.Goals as goal

pub returns-clause-opened : goal.returns-clause-opened
returns-clause-opened c files top tree is = is-opened files top tree is

pub returns-clause-one : goal.returns-clause-one
returns-clause-one c files top tree other x y = one-opening files top tree other x y
