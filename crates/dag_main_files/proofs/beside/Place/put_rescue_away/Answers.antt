use Rattle.std.proofs.Common.{sym, subst}
use Rattle.rescue_file.specs.Numbered.{rescue_name_of}
use Rattle.dag_main_files.specs.Beside.{IsRefusalOf, refusing_had_no_memory}
use Rattle.dag_main_check.specs.declared.fault.RunFault.TheVariants.{Memory}
use Rattle.dag_main_files.proofs.RunFaults.{by-fault}
use Rattle.dag_main_files.proofs.beside.Place.put_rescue_away.Goals as goal

pub returns-in_err-path-clause-refused : goal.returns-in_err-path-clause-refused
returns-in_err-path-clause-refused g c =
    by-fault (IsRefusalOf (rescue_name_of c.args.self.now.top.now c.args.number)) c.in_err-path.field-0.0 (subst (IsRefusalOf (rescue_name_of c.args.self.now.top.now c.args.number)) (sym c.in_err-path.ensures.err) refusing_had_no_memory)
    c.from_residual.result c.from_residual.ensures.1

pub returns-in_err-old-clause-refused : goal.returns-in_err-old-clause-refused
returns-in_err-old-clause-refused g c = by-fault (IsRefusalOf (rescue_name_of c.args.self.now.top.now c.args.number)) Memory refusing_had_no_memory c.from_residual-in_err-old.result c.from_residual-in_err-old.ensures.1
