use Rattle.vars_macros.specs.NameTable.{number_of_name}
use Rattle.vars_macros.proofs.NameTables.{place_given}
use Rattle.vars_macros.proofs.numbering.Names.assign.Goals as goal

pub returns-clause-places : goal.returns-clause-places
returns-clause-places c =
    let old = c.args.self.now in
    λ key at name. place_given (number_of_name old) old.last.items key c.args.number c.args.place old.apart at name
