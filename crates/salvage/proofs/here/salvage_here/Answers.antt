use Rattle.std.proofs.Common.{◌∙◌, inr, List, ℕ, ap, refl, sym, subst}
use Rattle.std.proofs.lemmas.Result.{IfOk-weaker}
use Rattle.dag_main_check.specs.declared.fault.RunFault.TheVariants.{Memory}
use Rattle.dag_main_check.specs.declared.fault.RunFault.{RunFault}
use Rattle.salvage.specs.declared.fault.SalvageFault.TheVariants.{Refused, NoJournal}
use Rattle.salvage.specs.Refused.{IsSalvageFault, no_round, has_no_journal, file_in_the_way, another_is_at_work, making_had_no_memory}
use Rattle.salvage.specs.Sight.{held_files_if}
use Rattle.salvage.specs.Changes.{writes_salvage, IsRescueMadeIf, LeavesSalvage, salvage_not_begun}
use Rattle.salvage.proofs.SalvageChanges.{under-its-lock, salvage-not-begun, broken-off-under-lock}
use Rattle.salvage.proofs.Refusals.{told-as, weaker-as}
use Rattle.salvage.proofs.here.salvage_here.Goals as goal

pub returns-in_err-journal-clause-refused : goal.returns-in_err-journal-clause-refused
returns-in_err-journal-clause-refused g c =
    told-as (IsSalvageFault c.args.too (held_files_if (g.F.Folder.honest c.args.folder.now) (g.F.Folder.holds c.args.folder.now) (g.F.Folder.has c.args.folder.now) c.args.place.now.top.now) c.args.place.now.top.now) (Refused Memory) making_had_no_memory c.from_residual.result c.from_residual.ensures.1

pub returns-in_err-is_there-clause-refused : goal.returns-in_err-is_there-clause-refused
returns-in_err-is_there-clause-refused g c =
    told-as (IsSalvageFault c.args.too (held_files_if (g.F.Folder.honest c.args.folder.now) (g.F.Folder.holds c.args.folder.now) (g.F.Folder.has c.args.folder.now) c.args.place.now.top.now) c.args.place.now.top.now) (Refused c.in_err-is_there.field-0.0)
    (subst (λ (f : RunFault). IsSalvageFault c.args.too (held_files_if (g.F.Folder.honest c.args.folder.now) (g.F.Folder.holds c.args.folder.now) (g.F.Folder.has c.args.folder.now) c.args.place.now.top.now) c.args.place.now.top.now (Refused f)) (sym c.in_err-is_there.ensures.refused) making_had_no_memory)
    c.from_residual-in_err-is_there.result c.from_residual-in_err-is_there.ensures.1

pub returns-then-not-branch-clause-refused : goal.returns-then-not-branch-clause-refused
returns-then-not-branch-clause-refused g c =
    subst (λ (n : List ℕ). IsSalvageFault c.args.too (held_files_if (g.F.Folder.honest c.args.folder.now) (g.F.Folder.holds c.args.folder.now) (g.F.Folder.has c.args.folder.now) c.args.place.now.top.now) c.args.place.now.top.now (NoJournal n)) (sym c.in_ok-journal.ensures)
    (no_round _ (has_no_journal (λ honest. inr (ap (g.F.Folder.has c.args.folder.now) (sym (c.as_str.ensures ∙ c.in_ok-journal.ensures)) ∙ sym (c.in_ok-is_there.ensures.there honest)
    ∙ c.if-not-branch.true))))

pub returns-in_err-has_own_files-clause-refused : goal.returns-in_err-has_own_files-clause-refused
returns-in_err-has_own_files-clause-refused g c =
    told-as (IsSalvageFault c.args.too (held_files_if (g.F.Folder.honest c.args.folder.now) (g.F.Folder.holds c.args.folder.now) (g.F.Folder.has c.args.folder.now) c.args.place.now.top.now) c.args.place.now.top.now) (Refused c.in_err-has_own_files.field-0.0) (file_in_the_way _ c.in_err-has_own_files.ensures)
    c.from_residual-in_err-has_own_files.result c.from_residual-in_err-has_own_files.ensures.1

pub returns-in_err-lock-clause-refused : goal.returns-in_err-lock-clause-refused
returns-in_err-lock-clause-refused g c =
    told-as (IsSalvageFault c.args.too (held_files_if (g.F.Folder.honest c.args.folder.now) (g.F.Folder.holds c.args.folder.now) (g.F.Folder.has c.args.folder.now) c.args.place.now.top.now) c.args.place.now.top.now) (Refused c.in_err-lock.field-0.0) (another_is_at_work _ c.in_err-lock.ensures.refused) c.from_residual-in_err-lock.result c.from_residual-in_err-lock.ensures.1

pub returns-in_err-journal-clause-begun : goal.returns-in_err-journal-clause-begun
returns-in_err-journal-clause-begun g c =
    salvage-not-begun (IsRescueMadeIf (g.F.Folder.honest c.args.folder.now) c.args.too (g.F.Folder.holds c.args.folder.now) c.args.place.now.top.now) c.args.place.now.top.now _ c.from_residual.result
    c.from_residual.ensures.1 c.args.changes.now c.args.changes.now refl

pub returns-in_err-is_there-clause-begun : goal.returns-in_err-is_there-clause-begun
returns-in_err-is_there-clause-begun g c =
    salvage-not-begun (IsRescueMadeIf (g.F.Folder.honest c.args.folder.now) c.args.too (g.F.Folder.holds c.args.folder.now) c.args.place.now.top.now) c.args.place.now.top.now _ c.from_residual-in_err-is_there.result
    c.from_residual-in_err-is_there.ensures.1 c.args.changes.now c.args.changes.now refl

pub returns-in_err-has_own_files-clause-begun : goal.returns-in_err-has_own_files-clause-begun
returns-in_err-has_own_files-clause-begun g c =
    salvage-not-begun (IsRescueMadeIf (g.F.Folder.honest c.args.folder.now) c.args.too (g.F.Folder.holds c.args.folder.now) c.args.place.now.top.now) c.args.place.now.top.now _ c.from_residual-in_err-has_own_files.result
    c.from_residual-in_err-has_own_files.ensures.1 c.args.changes.now c.args.changes.now refl

pub returns-in_err-lock-clause-begun : goal.returns-in_err-lock-clause-begun
returns-in_err-lock-clause-begun g c =
    salvage-not-begun (IsRescueMadeIf (g.F.Folder.honest c.args.folder.now) c.args.too (g.F.Folder.holds c.args.folder.now) c.args.place.now.top.now) c.args.place.now.top.now _ c.from_residual-in_err-lock.result
    c.from_residual-in_err-lock.ensures.1 c.args.changes.now c.lock.new.changes c.in_err-lock.ensures.no_change

pub returns-then-not-branch-clause-begun : goal.returns-then-not-branch-clause-begun
returns-then-not-branch-clause-begun g c = salvage_not_begun refl

pub returns-clause-changes : goal.returns-clause-changes
returns-clause-changes g c =
    let top = c.args.place.now.top.now in
    IfOk-weaker c.salvage_locked-answer.result _ _
    (λ answer h. (
      h.0,
      h.1,
      under-its-lock top (writes_salvage top h.0.next h.0.rescue_text) c.args.changes.now c.lock.new.changes c.salvage_locked-answer.new.changes c.unlock.new.changes
          c.in_ok-lock.ensures.changes h.2 c.unlock.ensures,
    ))
    c.salvage_locked-answer.ensures.changes

pub returns-clause-begun : goal.returns-clause-begun
returns-clause-begun g c =
    let top = c.args.place.now.top.now in
    let IsMade = IsRescueMadeIf (g.F.Folder.honest c.args.folder.now) c.args.too (g.F.Folder.holds c.args.folder.now) top in
    weaker-as (λ fault. LeavesSalvage IsMade top fault c.args.changes.now c.unlock.new.changes) c.salvage_locked-answer.result c.salvage_locked-answer.ensures.begun
    (λ fault part. broken-off-under-lock IsMade top fault c.args.changes.now c.lock.new.changes c.salvage_locked-answer.new.changes c.unlock.new.changes
    c.in_ok-lock.ensures.changes part c.unlock.ensures)
