use Rattle.std.proofs.Common.{◌≡◌, ◌∙◌, ℕ, Bool, ◌++◌, refl, sym, subst, string_bytes}
use Rattle.dag_main_files.specs.Changes.{writes_rescue}
use Rattle.dag_main_files.specs.Folder.{any_paths, these_paths}
use Rattle.dag_main_files.proofs.Makes.{made-after}
use Rattle.redo.specs.Numbers.{IsNextNumber}
use Rattle.redo.specs.Changes.{clears_cut_short, writes_redone, marks_written}
use Rattle.redo.proofs.Changes.{marks-unwritten, marks-alone}
use Rattle.dag_main_files.proofs.RunFaults.{by-fault}
use Rattle.redo.specs.Answered.{IsNotWritten, unnumbered, numbered_refused, journal_stays, writing_had_no_memory}
use Rattle.redo.proofs.here.write_marked.Goals as goal

pub returns-in_err-next-clause-refused : goal.returns-in_err-next-clause-refused
returns-in_err-next-clause-refused g c =
    by-fault (IsNotWritten c.args.place.now.top.now c.args.journal.now) c.in_err-next.field-0.0 (unnumbered _ c.in_err-next.ensures.refused)
    c.from_residual.result c.from_residual.ensures.1

pub returns-in_err-text-clause-refused : goal.returns-in_err-text-clause-refused
returns-in_err-text-clause-refused g c =
    by-fault (IsNotWritten c.args.place.now.top.now c.args.journal.now) c.in_err-text.field-0.0
    (subst (IsNotWritten c.args.place.now.top.now c.args.journal.now) (sym c.in_err-text.ensures.err) writing_had_no_memory)
    c.from_residual-in_err-text.result c.from_residual-in_err-text.ensures.1

pub returns-in_err-write_rescue-clause-refused : goal.returns-in_err-write_rescue-clause-refused
returns-in_err-write_rescue-clause-refused g c =
    by-fault (IsNotWritten c.args.place.now.top.now c.args.journal.now) c.in_err-write_rescue.field-0.0
    (numbered_refused c.in_ok-next.next.number _ c.in_ok-next.ensures.next c.in_err-write_rescue.ensures.refused)
    c.from_residual-in_err-write_rescue.result c.from_residual-in_err-write_rescue.ensures.1

pub returns-in_err-clear_cut_short-clause-refused : goal.returns-in_err-clear_cut_short-clause-refused
returns-in_err-clear_cut_short-clause-refused g c =
    by-fault (IsNotWritten c.args.place.now.top.now c.args.journal.now) c.in_err-clear_cut_short.field-0.0 (journal_stays _ (sym c.in_ok-next.ensures.cut_short ∙ c.in_err-clear_cut_short.ensures.was_cut_short) c.in_err-clear_cut_short.ensures.refused)
    c.from_residual-in_err-clear_cut_short.result c.from_residual-in_err-clear_cut_short.ensures.1

pub returns-clause-held : goal.returns-clause-held
returns-clause-held g c = λ honest. record {
  number = c.in_ok-next.next.number;
  next = c.in_ok-next.ensures.held honest;
  text_is = c.in_ok-text.ensures.text;
  warnings_are = refl;
  status_is = refl;
}

pub returns-in_err-next-clause-changes : goal.returns-in_err-next-clause-changes
returns-in_err-next-clause-changes g c =
    let IsNumber = λ (number : ℕ). IsNextNumber any_paths c.args.place.now.top.now c.args.journal.now number
    × (g.F.Folder.honest c.args.folder.now → IsNextNumber (these_paths (g.F.Folder.has c.args.folder.now)) c.args.place.now.top.now c.args.journal.now number) in
    marks-unwritten IsNumber c.args.place.now.top.now c.args.journal.now (string_bytes c.args.marked.redone.text) c.args.marked.redone.done c.args.marked.total _
    c.from_residual.result c.from_residual.ensures.1 c.args.changes.now c.args.changes.now refl

pub returns-in_err-text-clause-changes : goal.returns-in_err-text-clause-changes
returns-in_err-text-clause-changes g c =
    let IsNumber = λ (number : ℕ). IsNextNumber any_paths c.args.place.now.top.now c.args.journal.now number
    × (g.F.Folder.honest c.args.folder.now → IsNextNumber (these_paths (g.F.Folder.has c.args.folder.now)) c.args.place.now.top.now c.args.journal.now number) in
    marks-unwritten IsNumber c.args.place.now.top.now c.args.journal.now (string_bytes c.args.marked.redone.text) c.args.marked.redone.done c.args.marked.total _
    c.from_residual-in_err-text.result c.from_residual-in_err-text.ensures.1 c.args.changes.now c.args.changes.now refl

pub returns-in_err-write_rescue-clause-changes : goal.returns-in_err-write_rescue-clause-changes
returns-in_err-write_rescue-clause-changes g c =
    let IsNumber = λ (number : ℕ). IsNextNumber any_paths c.args.place.now.top.now c.args.journal.now number
    × (g.F.Folder.honest c.args.folder.now → IsNextNumber (these_paths (g.F.Folder.has c.args.folder.now)) c.args.place.now.top.now c.args.journal.now number) in
    marks-unwritten IsNumber c.args.place.now.top.now c.args.journal.now (string_bytes c.args.marked.redone.text) c.args.marked.redone.done c.args.marked.total _
    c.from_residual-in_err-write_rescue.result c.from_residual-in_err-write_rescue.ensures.1 c.args.changes.now c.write_rescue.new.changes c.in_err-write_rescue.ensures.no_change

pub returns-in_err-clear_cut_short-clause-changes : goal.returns-in_err-clear_cut_short-clause-changes
returns-in_err-clear_cut_short-clause-changes g c =
    let next = c.in_ok-next.next in
    let IsNumber = λ (number : ℕ). IsNextNumber any_paths c.args.place.now.top.now c.args.journal.now number
    × (g.F.Folder.honest c.args.folder.now → IsNextNumber (these_paths (g.F.Folder.has c.args.folder.now)) c.args.place.now.top.now c.args.journal.now number) in
    marks-alone IsNumber c.args.place.now.top.now c.args.journal.now (string_bytes c.args.marked.redone.text) c.args.marked.redone.done c.args.marked.total
    c.in_err-clear_cut_short.field-0.0 c.from_residual-in_err-clear_cut_short.result c.from_residual-in_err-clear_cut_short.ensures.1
    c.in_err-clear_cut_short.ensures.refused next.number (c.in_ok-next.ensures.next, c.in_ok-next.ensures.held) next.cut_short c.in_ok-next.ensures.cut_short
    c.in_err-clear_cut_short.ensures.was_cut_short c.args.changes.now c.write_rescue.new.changes c.clear_cut_short.new.changes c.in_ok-write_rescue.ensures.changes
    c.in_err-clear_cut_short.ensures.changes

pub returns-clause-changes : goal.returns-clause-changes
returns-clause-changes g c =
    let top = c.args.place.now.top.now in
    let next = c.in_ok-next.next in
    let text = string_bytes c.args.marked.redone.text in
    let made = made-after (writes_rescue top next.number text) (clears_cut_short next.cut_short top) c.args.changes.now c.write_rescue.new.changes
    c.clear_cut_short.new.changes c.in_ok-write_rescue.ensures.changes c.in_ok-clear_cut_short.ensures.changes in
    marks_written _ next.number c.args.changes.now c.clear_cut_short.new.changes (c.in_ok-next.ensures.next, c.in_ok-next.ensures.held) refl c.in_ok-text.ensures.text
    (subst (λ (b : Bool). c.clear_cut_short.new.changes ≡ c.args.changes.now ++ writes_redone top next.number text b) c.in_ok-next.ensures.cut_short made)

pub returns-clause-report : goal.returns-clause-report
returns-clause-report g c = record {
  number = c.in_ok-next.next.number;
  next = c.in_ok-next.ensures.next;
  text_is = c.in_ok-text.ensures.text;
  warnings_are = refl;
  status_is = refl;
}
