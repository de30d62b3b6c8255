use Rattle.std.proofs.Common.{◌∙◌, ℕ, List, subst}
use Rattle.dag_main_files.specs.Beside.{IsRefusalOf, refusing_had_no_memory}
use Rattle.dag_main_check.specs.declared.fault.RunFault.TheVariants.{Memory}
use Rattle.dag_main_check.proofs.Refusals.{weaker}
use Rattle.dag_main_files.proofs.RunFaults.{by-fault}
use Rattle.salvage.specs.Refused.{IsNotOwn, journal_not_own, lock_not_own, old_name_taken}
use Rattle.salvage.proofs.here.has_own_files.Goals as goal

pub returns-in_err-journal : goal.returns-in_err-journal
returns-in_err-journal g c =
    by-fault (IsNotOwn c.args.place.now.top.now) Memory (journal_not_own _ refusing_had_no_memory) c.from_residual.result c.from_residual.ensures.1

pub returns-in_err-trusts : goal.returns-in_err-trusts
returns-in_err-trusts g c =
    by-fault (IsNotOwn c.args.place.now.top.now) c.in_err-trusts.field-0.0
    (journal_not_own _ (subst (λ (name : List ℕ). IsRefusalOf name c.in_err-trusts.field-0.0) (c.as_str.ensures ∙ c.in_ok-journal.ensures) c.in_err-trusts.ensures.named))
    c.from_residual-in_err-trusts.result c.from_residual-in_err-trusts.ensures.1

pub returns-in_err-lock : goal.returns-in_err-lock
returns-in_err-lock g c =
    by-fault (IsNotOwn c.args.place.now.top.now) Memory (lock_not_own _ refusing_had_no_memory) c.from_residual-in_err-lock.result c.from_residual-in_err-lock.ensures.1

pub returns-in_err-trusts-2 : goal.returns-in_err-trusts-2
returns-in_err-trusts-2 g c =
    by-fault (IsNotOwn c.args.place.now.top.now) c.in_err-trusts-2.field-0.0
    (lock_not_own _ (subst (λ (name : List ℕ). IsRefusalOf name c.in_err-trusts-2.field-0.0) (c.as_str-2.ensures ∙ c.in_ok-lock.ensures) c.in_err-trusts-2.ensures.named))
    c.from_residual-in_err-trusts-2.result c.from_residual-in_err-trusts-2.ensures.1

pub returns : goal.returns
returns g c = weaker (IsNotOwn c.args.place.now.top.now) c.has_no_folder.result c.has_no_folder.ensures (λ fault why. old_name_taken fault why)
