use Rattle.std.proofs.Common.{ℕ, List, IfErr, sym, subst}
use Rattle.dag_main_check.specs.declared.fault.RunFault.TheVariants.{Memory}
use Rattle.dag_main_files.specs.Beside.{IsRefusalOf, refusing_had_no_memory}
use Rattle.dag_main_files.proofs.RunFaults.{by-fault}
use Rattle.round_inputs.specs.Inputs.{inputs_name_of}
use Rattle.round_inputs.proofs.listing.write_inputs.Goals as goal

pub returns-in_err-inputs-clause-refused : goal.returns-in_err-inputs-clause-refused
returns-in_err-inputs-clause-refused g c = by-fault (IsRefusalOf (inputs_name_of c.args.place.now.top.now)) c.in_err-inputs.field-0.0 (subst (IsRefusalOf (inputs_name_of c.args.place.now.top.now)) (sym c.in_err-inputs.ensures.err) refusing_had_no_memory)
    c.from_residual.result c.from_residual.ensures.1

pub returns-in_err-text-clause-refused : goal.returns-in_err-text-clause-refused
returns-in_err-text-clause-refused g c = by-fault (IsRefusalOf (inputs_name_of c.args.place.now.top.now)) Memory refusing_had_no_memory c.from_residual-in_err-text.result c.from_residual-in_err-text.ensures.1

pub returns-in_err-path-clause-refused : goal.returns-in_err-path-clause-refused
returns-in_err-path-clause-refused g c = by-fault (IsRefusalOf (inputs_name_of c.args.place.now.top.now)) Memory refusing_had_no_memory c.from_residual-in_err-path.result c.from_residual-in_err-path.ensures.1

pub returns-clause-refused : goal.returns-clause-refused
returns-clause-refused g c = subst (λ (path : List ℕ). IfErr c.write_drafted.result (IsRefusalOf path)) c.in_ok-path.ensures c.write_drafted.ensures.refused
