use Rattle.std.proofs.Common.{◌∙◌}
use Rattle.dag_main_check.specs.declared.fault.RunFault.TheVariants.{Memory}
use Rattle.dag_main_files.specs.Beside.{IsRefusalOf, path_refused, refusing_had_no_memory}
use Rattle.dag_main_files.proofs.RunFaults.{by-fault}
use Rattle.round_inputs.proofs.listing.write_drafted.Goals as goal

pub returns-in_err-disk-clause-refused : goal.returns-in_err-disk-clause-refused
returns-in_err-disk-clause-refused g c = by-fault (IsRefusalOf c.args.path.now) Memory refusing_had_no_memory c.from_residual.result c.from_residual.ensures.1

pub returns-in_err-from_str-in-Err-clause-refused : goal.returns-in_err-from_str-in-Err-clause-refused
returns-in_err-from_str-in-Err-clause-refused g c =
    by-fault (IsRefusalOf c.args.path.now) Memory refusing_had_no_memory c.from_residual-in_err-from_str-in-Err.result c.from_residual-in_err-from_str-in-Err.ensures.1

pub returns-clause-refused : goal.returns-clause-refused
returns-clause-refused g c = path_refused c.in_ok-from_str-in-Err.field-0 (c.in_ok-from_str-in-Err.ensures.ok ∙ c.as_str-in-Err.ensures)
