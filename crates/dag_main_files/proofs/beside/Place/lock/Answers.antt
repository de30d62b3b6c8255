use Rattle.std.proofs.Common.{◌∙◌, ℕ, List, subst}
use Rattle.dag_main_files.specs.Beside.{lock_name_of, IsRefusalOf, refusing_had_no_memory}
use Rattle.dag_main_check.specs.declared.fault.RunFault.TheVariants.{Memory}
use Rattle.dag_main_files.proofs.RunFaults.{by-fault}
use Rattle.dag_main_files.proofs.beside.Place.lock.Goals as goal

pub returns-in_err-path-clause-refused : goal.returns-in_err-path-clause-refused
returns-in_err-path-clause-refused g c = by-fault (IsRefusalOf (lock_name_of c.args.self.now.top.now)) Memory refusing_had_no_memory c.from_residual.result c.from_residual.ensures.1

pub returns-in_err-place-clause-refused : goal.returns-in_err-place-clause-refused
returns-in_err-place-clause-refused g c = by-fault (IsRefusalOf (lock_name_of c.args.self.now.top.now)) Memory refusing_had_no_memory c.from_residual-in_err-place.result c.from_residual-in_err-place.ensures.1

pub returns-in-Err-clause-refused : goal.returns-in-Err-clause-refused
returns-in-Err-clause-refused g c = subst (λ (name : List ℕ). IsRefusalOf name c.refused.result) (c.as_str-in-Err.ensures ∙ c.in_ok-path.ensures) c.refused.ensures.path
