use Rattle.std.proofs.Common.{ℕ, List, sym, subst}
use Rattle.dag_main_check.specs.declared.fault.RunFault.TheVariants.{Memory}
use Rattle.dag_main_files.specs.Beside.{IsRefusalOf, refusing_had_no_memory}
use Rattle.dag_main_files.proofs.RunFaults.{by-fault}
use Rattle.round_inputs.specs.Begun.{begun_name_of}
use Rattle.round_inputs.proofs.listing.write_begun.Goals as goal

pub returns-in_err-path-clause-refused : goal.returns-in_err-path-clause-refused
returns-in_err-path-clause-refused g c = by-fault (IsRefusalOf (begun_name_of c.args.place.now.top.now)) Memory refusing_had_no_memory c.from_residual.result c.from_residual.ensures.1

pub returns-in_err-text-clause-refused : goal.returns-in_err-text-clause-refused
returns-in_err-text-clause-refused g c = by-fault (IsRefusalOf (begun_name_of c.args.place.now.top.now)) c.in_err-text.field-0.0 (subst (IsRefusalOf (begun_name_of c.args.place.now.top.now)) (sym c.in_err-text.ensures.err) refusing_had_no_memory)
    c.from_residual-in_err-text.result c.from_residual-in_err-text.ensures.1

pub returns-in_err-file-clause-refused : goal.returns-in_err-file-clause-refused
returns-in_err-file-clause-refused g c = by-fault (IsRefusalOf (begun_name_of c.args.place.now.top.now)) Memory refusing_had_no_memory c.from_residual-in_err-file.result c.from_residual-in_err-file.ensures.1

pub returns-in_err-make_private-clause-refused : goal.returns-in_err-make_private-clause-refused
returns-in_err-make_private-clause-refused g c = by-fault (IsRefusalOf (begun_name_of c.args.place.now.top.now)) Memory refusing_had_no_memory c.from_residual-in_err-make_private.result c.from_residual-in_err-make_private.ensures.1

pub returns-in_err-write_drafted-clause-refused : goal.returns-in_err-write_drafted-clause-refused
returns-in_err-write_drafted-clause-refused g c = by-fault (IsRefusalOf (begun_name_of c.args.place.now.top.now)) c.in_err-write_drafted.field-0.0
    (subst (λ (path : List ℕ). IsRefusalOf path c.in_err-write_drafted.field-0.0) c.in_ok-path.ensures c.in_err-write_drafted.ensures.refused)
    c.from_residual-in_err-write_drafted.result c.from_residual-in_err-write_drafted.ensures.1
