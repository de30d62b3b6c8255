use Rattle.std.specs.Prelude.{◌≡◌}
use Rattle.dag_main_check.specs.declared.fault.RunFault.TheVariants.{Memory}
use Rattle.dag_main_files.proofs.RunFaults.{by-fault}
use Rattle.salvage.proofs.here.change_of.Goals as goal

pub returns-in_err-bytes-clause-refused : goal.returns-in_err-bytes-clause-refused
returns-in_err-bytes-clause-refused g c =
    by-fault (λ fault. fault ≡ Memory) c.in_err-bytes.field-0.0 c.in_err-bytes.ensures.refused c.from_residual.result c.from_residual.ensures.1

pub returns-in_err-is_there-clause-refused : goal.returns-in_err-is_there-clause-refused
returns-in_err-is_there-clause-refused g c =
    by-fault (λ fault. fault ≡ Memory) c.in_err-is_there.field-0.0 c.in_err-is_there.ensures.refused
    c.from_residual-in_err-is_there.result c.from_residual-in_err-is_there.ensures.1
