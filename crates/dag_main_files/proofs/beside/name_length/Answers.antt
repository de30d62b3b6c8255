use Rattle.std.proofs.Common.{arith}
use Rattle.std.proofs.lemmas.Bool.{eq-eqb, eqb-true}
use Rattle.dag_main_files.specs.Beside.{no_slash, behind_slash}
use Rattle.dag_main_files.proofs.beside.name_length.Goals as goal

pub returns-in-Some : goal.returns-in-Some
returns-in-Some c =
    let found = c.in-Some.ensures in
    behind_slash c.in-Some.slash found.0.high (eqb-true _ _ found.1)
    (λ place behind within is. found.0.after place (omega arith) within (eq-eqb _ _ is))

pub returns-in-None : goal.returns-in-None
returns-in-None c = no_slash (λ place within is. c.in-None.ensures place (omega arith) within (eq-eqb _ _ is))
