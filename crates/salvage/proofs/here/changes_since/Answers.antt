use Rattle.std.proofs.Common.{◌≡◌, ◌<◌, [], length, arith, refl, subst, sym, string_bytes}
use Rattle.dag_main_check.specs.declared.fault.RunFault.TheVariants.{Memory}
use Rattle.dag_main_files.proofs.RunFaults.{by-fault}
use Rattle.salvage.specs.Salvaged.{AreChanges, no_files, any_change, IsChangeFrom}
use Rattle.salvage.proofs.Changes.{more-changes}
use Rattle.salvage.proofs.here.changes_since.Goals as goal

pub loop-file-init : goal.loop-file-init
loop-file-init g c = (
  subst (AreChanges any_change []) (sym c.new-text.ensures.bytes) no_files,
  λ honest. subst (AreChanges (IsChangeFrom (g.F.Folder.holds c.args.folder.now) (g.F.Folder.has c.args.folder.now)) []) (sym c.new-text.ensures.bytes) no_files,
)

pub loop-file-preserved : goal.loop-file-preserved
loop-file-preserved g c =
    let less : c.loop-file.file-index < length c.deref-file-items.result.now = omega arith in (
      more-changes any_change c.args.inputs.now.files.items c.deref-file-items.result.now c.deref-file-items.ensures.value c.loop-file.file-index
          (string_bytes c.loop-file.text) (string_bytes c.push_change.new.text) c.as_str.result.now c.file-item.result c.in_ok-change.change
          less c.file-item.is c.loop-file.invariant.0 tt c.as_str.ensures c.in_ok-push_change.ensures,
      λ honest.
          more-changes (IsChangeFrom (g.F.Folder.holds c.args.folder.now) (g.F.Folder.has c.args.folder.now)) c.args.inputs.now.files.items c.deref-file-items.result.now c.deref-file-items.ensures.value
          c.loop-file.file-index (string_bytes c.loop-file.text) (string_bytes c.push_change.new.text) c.as_str.result.now c.file-item.result c.in_ok-change.change
          less c.file-item.is (c.loop-file.invariant.1 honest) (c.in_ok-change.ensures.held honest) c.as_str.ensures c.in_ok-push_change.ensures,
    )

pub returns-in_err-change-clause-refused : goal.returns-in_err-change-clause-refused
returns-in_err-change-clause-refused g c =
    by-fault (λ fault. fault ≡ Memory) c.in_err-change.field-0.0 c.in_err-change.ensures.refused c.from_residual.result c.from_residual.ensures.1

pub returns-in_err-push_change-clause-refused : goal.returns-in_err-push_change-clause-refused
returns-in_err-push_change-clause-refused g c =
    by-fault (λ fault. fault ≡ Memory) Memory refl c.from_residual-in_err-push_change.result c.from_residual-in_err-push_change.ensures.1
