use Rattle.std.proofs.Common.{◌∙◌, ◌++◌, ℕ, List, refl, ap, sym, subst, string_bytes}
use Rattle.dag_main_check.specs.declared.fault.RunFault.{RunFault}
use Rattle.rescue_file.specs.Numbered.{rescue_name_of}
use Rattle.salvage.specs.Salvaged.{report_line}
use Rattle.salvage.specs.declared.fault.SalvageFault.TheVariants.{Refused}
use Rattle.salvage.specs.Refused.{IsSalvageFault, rescue_not_written, journal_not_put_away, making_had_no_memory}
use Rattle.salvage.specs.Sight.{held_files_if}
use Rattle.dag_main_files.specs.Changes.{FileChange, AreBegun, writes_rescue, puts_journal_away}
use Rattle.dag_main_files.proofs.Makes.{made-after}
use Rattle.salvage.specs.Changes.{IsRescueMadeIf, SalvagesInPart, rescue_alone_written}
use Rattle.salvage.proofs.SalvageChanges.{salvage-unwritten}
use Rattle.salvage.proofs.Refusals.{told-as}
use Rattle.salvage.proofs.here.salvage_locked.Goals as goal

pub returns-clause-salvaged : goal.returns-clause-salvaged
returns-clause-salvaged g c =
    let found = c.in_ok-found.found in
    record {
      next = found.round.next;
      listed = found.inputs.files.items;
      rescue_text = string_bytes found.made.text;
      done = found.made.done;
      total = found.made.total;
      made = c.in_ok-found.ensures.read.0;
      changes = string_bytes c.in_ok-changed.changed;
      are_changes = c.in_ok-changed.ensures.changes;
      text_is = c.in_ok-text.ensures.text
          ∙ ap (λ (t : List ℕ). report_line found.made.done found.made.total (rescue_name_of c.args.place.now.top.now found.round.next) ++ t) c.as_str.ensures.value;
      status_is = refl;
    }

pub returns-clause-held : goal.returns-clause-held
returns-clause-held g c = λ honest.
    let found = c.in_ok-found.found in
    record {
      of_round = record {
        next = found.round.next;
        listed = found.inputs.files.items;
        rescue_text = string_bytes found.made.text;
        done = found.made.done;
        total = found.made.total;
        made = c.in_ok-found.ensures.read.0;
        changes = string_bytes c.in_ok-changed.changed;
        are_changes = c.in_ok-changed.ensures.changes;
        text_is = c.in_ok-text.ensures.text
            ∙ ap (λ (t : List ℕ). report_line found.made.done found.made.total (rescue_name_of c.args.place.now.top.now found.round.next) ++ t) c.as_str.ensures.value;
        status_is = refl;
      };
      held = c.in_ok-found.ensures.read.1 honest;
      changes_held = c.in_ok-changed.ensures.held honest;
    }

pub returns-in_err-found-clause-refused : goal.returns-in_err-found-clause-refused
returns-in_err-found-clause-refused g c =
    told-as (IsSalvageFault c.args.too (held_files_if (g.F.Folder.honest c.args.folder.now) (g.F.Folder.holds c.args.folder.now) (g.F.Folder.has c.args.folder.now) c.args.place.now.top.now) c.args.place.now.top.now) c.in_err-found.field-0.0 c.in_err-found.ensures.refused c.from_residual.result c.from_residual.ensures.1

pub returns-in_err-changed-clause-refused : goal.returns-in_err-changed-clause-refused
returns-in_err-changed-clause-refused g c =
    let sight = held_files_if (g.F.Folder.honest c.args.folder.now) (g.F.Folder.holds c.args.folder.now) (g.F.Folder.has c.args.folder.now) c.args.place.now.top.now in
    told-as (IsSalvageFault c.args.too sight c.args.place.now.top.now) (Refused c.in_err-changed.field-0.0)
    (subst (λ (f : RunFault). IsSalvageFault c.args.too sight c.args.place.now.top.now (Refused f)) (sym c.in_err-changed.ensures.refused) making_had_no_memory)
    c.from_residual-in_err-changed.result c.from_residual-in_err-changed.ensures.1

pub returns-in_err-text-clause-refused : goal.returns-in_err-text-clause-refused
returns-in_err-text-clause-refused g c =
    let sight = held_files_if (g.F.Folder.honest c.args.folder.now) (g.F.Folder.holds c.args.folder.now) (g.F.Folder.has c.args.folder.now) c.args.place.now.top.now in
    told-as (IsSalvageFault c.args.too sight c.args.place.now.top.now) (Refused c.in_err-text.field-0.0)
    (subst (λ (f : RunFault). IsSalvageFault c.args.too sight c.args.place.now.top.now (Refused f)) (sym c.in_err-text.ensures.err) making_had_no_memory)
    c.from_residual-in_err-text.result c.from_residual-in_err-text.ensures.1

pub returns-in_err-write_rescue-clause-refused : goal.returns-in_err-write_rescue-clause-refused
returns-in_err-write_rescue-clause-refused g c =
    let sight = held_files_if (g.F.Folder.honest c.args.folder.now) (g.F.Folder.holds c.args.folder.now) (g.F.Folder.has c.args.folder.now) c.args.place.now.top.now in
    told-as (IsSalvageFault c.args.too sight c.args.place.now.top.now) (Refused c.in_err-write_rescue.field-0.0)
    (rescue_not_written _ _ _ _ _ _ _ c.in_ok-found.ensures.journal c.in_ok-found.ensures.left c.in_err-write_rescue.ensures.refused)
    c.from_residual-in_err-write_rescue.result c.from_residual-in_err-write_rescue.ensures.1

pub returns-in_err-put_journal_away-clause-refused : goal.returns-in_err-put_journal_away-clause-refused
returns-in_err-put_journal_away-clause-refused g c =
    let sight = held_files_if (g.F.Folder.honest c.args.folder.now) (g.F.Folder.holds c.args.folder.now) (g.F.Folder.has c.args.folder.now) c.args.place.now.top.now in
    told-as (IsSalvageFault c.args.too sight c.args.place.now.top.now) (Refused c.in_err-put_journal_away.field-0.0)
    (journal_not_put_away _ _ _ _ _ _ _ c.in_ok-found.ensures.journal c.in_ok-found.ensures.left c.in_err-put_journal_away.ensures.refused)
    c.from_residual-in_err-put_journal_away.result c.from_residual-in_err-put_journal_away.ensures.1

pub returns-in_err-found-clause-begun : goal.returns-in_err-found-clause-begun
returns-in_err-found-clause-begun g c =
    salvage-unwritten (IsRescueMadeIf (g.F.Folder.honest c.args.folder.now) c.args.too (g.F.Folder.holds c.args.folder.now) c.args.place.now.top.now) c.args.place.now.top.now _ c.from_residual.result
    c.from_residual.ensures.1 c.args.changes.now c.args.changes.now refl

pub returns-in_err-changed-clause-begun : goal.returns-in_err-changed-clause-begun
returns-in_err-changed-clause-begun g c =
    salvage-unwritten (IsRescueMadeIf (g.F.Folder.honest c.args.folder.now) c.args.too (g.F.Folder.holds c.args.folder.now) c.args.place.now.top.now) c.args.place.now.top.now _ c.from_residual-in_err-changed.result
    c.from_residual-in_err-changed.ensures.1 c.args.changes.now c.args.changes.now refl

pub returns-in_err-text-clause-begun : goal.returns-in_err-text-clause-begun
returns-in_err-text-clause-begun g c =
    salvage-unwritten (IsRescueMadeIf (g.F.Folder.honest c.args.folder.now) c.args.too (g.F.Folder.holds c.args.folder.now) c.args.place.now.top.now) c.args.place.now.top.now _ c.from_residual-in_err-text.result
    c.from_residual-in_err-text.ensures.1 c.args.changes.now c.args.changes.now refl

pub returns-in_err-write_rescue-clause-begun : goal.returns-in_err-write_rescue-clause-begun
returns-in_err-write_rescue-clause-begun g c =
    salvage-unwritten (IsRescueMadeIf (g.F.Folder.honest c.args.folder.now) c.args.too (g.F.Folder.holds c.args.folder.now) c.args.place.now.top.now) c.args.place.now.top.now _ c.from_residual-in_err-write_rescue.result
    c.from_residual-in_err-write_rescue.ensures.1 c.args.changes.now c.write_rescue.new.changes c.in_err-write_rescue.ensures.no_change

pub returns-in_err-put_journal_away-clause-begun : goal.returns-in_err-put_journal_away-clause-begun
returns-in_err-put_journal_away-clause-begun g c =
    let top = c.args.place.now.top.now in
    let found = c.in_ok-found.found in
    let IsMade = IsRescueMadeIf (g.F.Folder.honest c.args.folder.now) c.args.too (g.F.Folder.holds c.args.folder.now) top in
    let fault = c.in_err-put_journal_away.field-0.0 in
    told-as (λ told. SalvagesInPart IsMade top told c.args.changes.now c.put_journal_away.new.changes) (Refused fault)
    (rescue_alone_written fault found.round.next (string_bytes found.made.text) c.args.changes.now c.put_journal_away.new.changes c.in_err-put_journal_away.ensures.refused (
      record { listed = found.inputs.files.items; done = found.made.done; total = found.made.total; warnings = string_bytes found.made.warnings; made = c.in_ok-found.ensures.read.0 },
      c.in_ok-found.ensures.read.1,
    )
    (subst (λ (before : List FileChange). AreBegun (puts_journal_away top) before c.put_journal_away.new.changes) c.in_ok-write_rescue.ensures.changes
    c.in_err-put_journal_away.ensures.changes))
    c.from_residual-in_err-put_journal_away.result c.from_residual-in_err-put_journal_away.ensures.1

pub returns-clause-changes : goal.returns-clause-changes
returns-clause-changes g c =
    let top = c.args.place.now.top.now in
    let found = c.in_ok-found.found in (
      record {
        next = found.round.next;
        listed = found.inputs.files.items;
        rescue_text = string_bytes found.made.text;
        done = found.made.done;
        total = found.made.total;
        made = c.in_ok-found.ensures.read.0;
        changes = string_bytes c.in_ok-changed.changed;
        are_changes = c.in_ok-changed.ensures.changes;
        text_is = c.in_ok-text.ensures.text
            ∙ ap (λ (t : List ℕ). report_line found.made.done found.made.total (rescue_name_of c.args.place.now.top.now found.round.next) ++ t) c.as_str.ensures.value;
        status_is = refl;
      },
      c.in_ok-found.ensures.read.1,
      made-after (writes_rescue top found.round.next (string_bytes found.made.text)) (puts_journal_away top) c.args.changes.now c.write_rescue.new.changes
          c.put_journal_away.new.changes c.in_ok-write_rescue.ensures.changes c.in_ok-put_journal_away.ensures.changes,
    )
