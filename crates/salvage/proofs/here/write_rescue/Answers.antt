use Rattle.std.proofs.Common.{◌∙◌, sym, subst}
use Rattle.rescue_file.specs.Numbered.{rescue_name_of}
use Rattle.dag_main_check.specs.declared.fault.RunFault.TheVariants.{Memory}
use Rattle.dag_main_files.specs.Beside.{IsRefusalOf, path_refused, refusing_had_no_memory}
use Rattle.dag_main_files.proofs.RunFaults.{by-fault}
use Rattle.salvage.proofs.here.write_rescue.Goals as goal

pub returns-in_err-path-clause-refused : goal.returns-in_err-path-clause-refused
returns-in_err-path-clause-refused g c =
    let name = rescue_name_of c.args.place.now.top.now c.args.number in
    by-fault (IsRefusalOf name) c.in_err-path.field-0.0 (subst (IsRefusalOf name) (sym c.in_err-path.ensures.err) refusing_had_no_memory)
    c.from_residual.result c.from_residual.ensures.1

pub returns-in_err-disk-clause-refused : goal.returns-in_err-disk-clause-refused
returns-in_err-disk-clause-refused g c =
    let name = rescue_name_of c.args.place.now.top.now c.args.number in
    by-fault (IsRefusalOf name) c.in_err-disk.field-0.0 (subst (IsRefusalOf name) (sym c.in_err-disk.ensures.refused) refusing_had_no_memory)
    c.from_residual-in_err-disk.result c.from_residual-in_err-disk.ensures.1

pub returns-in_err-from_str-in-Err-clause-refused : goal.returns-in_err-from_str-in-Err-clause-refused
returns-in_err-from_str-in-Err-clause-refused g c =
    by-fault (IsRefusalOf (rescue_name_of c.args.place.now.top.now c.args.number)) Memory refusing_had_no_memory
    c.from_residual-in_err-from_str-in-Err.result c.from_residual-in_err-from_str-in-Err.ensures.1

pub returns-clause-refused : goal.returns-clause-refused
returns-clause-refused g c = path_refused c.in_ok-from_str-in-Err.field-0 (c.in_ok-from_str-in-Err.ensures.ok ∙ c.as_str.ensures ∙ c.in_ok-path.ensures.name)
