use Rattle.std.proofs.Common.{◌∙◌, List, ℕ, sym, subst}
use Rattle.dag_main_check.specs.declared.fault.RunFault.TheVariants.{Memory}
use Rattle.salvage.specs.declared.fault.SalvageFault.TheVariants.{Refused, NotListed, Changed}
use Rattle.salvage.specs.Others.{IsOtherFile, not_listed, changed, comparing_had_no_memory}
use Rattle.salvage.proofs.Refusals.{told-as, differ}
use Rattle.salvage.proofs.rounds.check_file.Goals as goal

pub returns-in_err-new-in-None-clause-refused : goal.returns-in_err-new-in-None-clause-refused
returns-in_err-new-in-None-clause-refused c =
    told-as (IsOtherFile c.args.inputs.now.files.items (c.args.path.now, c.args.bytes.now)) (Refused Memory) comparing_had_no_memory c.from_residual.result c.from_residual.ensures.1

pub returns-in_err-new-in-Some-clause-refused : goal.returns-in_err-new-in-Some-clause-refused
returns-in_err-new-in-Some-clause-refused c =
    told-as (IsOtherFile c.args.inputs.now.files.items (c.args.path.now, c.args.bytes.now)) (Refused Memory) comparing_had_no_memory c.from_residual-in_err-new-in-Some.result c.from_residual-in_err-new-in-Some.ensures.1

pub returns-in_ok-new-in-None-clause-refused : goal.returns-in_ok-new-in-None-clause-refused
returns-in_ok-new-in-None-clause-refused c =
    subst (λ (p : List ℕ). IsOtherFile c.args.inputs.now.files.items (c.args.path.now, c.args.bytes.now) (NotListed p)) (sym c.in_ok-new-in-None.ensures)
    (not_listed (sym c.sum_of.ensures ∙ c.in-None.is))

pub returns-in_ok-new-in-Some-clause-refused : goal.returns-in_ok-new-in-Some-clause-refused
returns-in_ok-new-in-Some-clause-refused c =
    subst (λ (p : List ℕ). IsOtherFile c.args.inputs.now.files.items (c.args.path.now, c.args.bytes.now) (Changed p)) (sym c.in_ok-new-in-Some.ensures)
    (changed c.in-Some.sum (sym c.sum_of.ensures ∙ c.in-Some.is) (λ same. differ c.in-Some.sum c.digest.result _ c.ne.result c.ne.ensures c.if-ne.true c.digest.ensures same))
