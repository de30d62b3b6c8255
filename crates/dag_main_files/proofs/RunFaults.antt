-- Why a run is refused.
use Rattle.std.proofs.Common.{◌≡◌, Result, Ok, Err, IfErr, sym, subst}
use Rattle.std.specs.Prelude.{IsErrAnd}
use Rattle.dag_main_check.specs.declared.fault.RunFault.{RunFault}
use Rattle.dag_main_check.specs.declared.fault.RunFault.TheVariants.{Memory}
use Rattle.dag_main_check.proofs.Refusals.{handed-on}

-- a cause that is handed on
pub by-fault : {A : Type 0} (P : RunFault → Type 0) (given : RunFault) → P given → (r : Result A RunFault) → IsErrAnd r (λ fault. fault ≡ given) → IfErr r P
by-fault P given is r same = handed-on P r same (λ fault e. subst P (sym e) is)

-- what is refused for memory alone
pub memory-alone : {A : Type 0} (P : RunFault → Type 0) → P Memory → (r : Result A RunFault) → IfErr r (λ fault. fault ≡ Memory) → IfErr r P
memory-alone P is (Ok x) h = tt
memory-alone P is (Err fault) h = subst P (sym h) is
