use Rattle.std.proofs.Common.{◌≤◌, ◌∙◌, sym}
use Rattle.std.proofs.lemmas.Result.{IfOk-weaker}
use Rattle.dag_main_check.proofs.Refusals.{weaker}
use Rattle.dag_main_files.specs.Folder.{IsHighestThere}
use Rattle.redo.specs.Numbers.{folder_not_seen}
use Rattle.redo.proofs.Numbered.{in-header, over-is, cut-short-is, in-folder, none-in-header}
use Rattle.redo.proofs.numbers.next_by.Goals as goal

pub returns-then-peek-clause-cut_short : goal.returns-then-peek-clause-cut_short
returns-then-peek-clause-cut_short g c =
    IfOk-weaker c.next_in_folder.result _ _ (λ next is. λ journal reads. is ∙ sym (over-is journal c.args.peek.now reads c.if-peek.true)) c.next_in_folder.ensures.cut_short

pub returns-then-peek-clause-next : goal.returns-then-peek-clause-next
returns-then-peek-clause-next g c =
    IfOk-weaker c.next_in_folder.result _ _ (λ next h. λ journal reads. in-folder (λ highest. highest ≤ 999) journal next.number (over-is journal c.args.peek.now reads c.if-peek.true) h) c.next_in_folder.ensures.after

pub returns-then-peek-clause-held : goal.returns-then-peek-clause-held
returns-then-peek-clause-held g c = λ honest.
    IfOk-weaker c.next_in_folder.result _ _
    (λ next h. λ journal reads. in-folder (IsHighestThere (g.F.Folder.has c.args.folder.now) c.args.top.now) journal next.number (over-is journal c.args.peek.now reads c.if-peek.true) h)
    (c.next_in_folder.ensures.held honest)

pub returns-then-peek-clause-refused : goal.returns-then-peek-clause-refused
returns-then-peek-clause-refused g c = weaker _ c.next_in_folder.result c.next_in_folder.ensures.refused (λ fault why. λ journal reads. folder_not_seen fault why)

pub returns-clause-cut_short : goal.returns-clause-cut_short
returns-clause-cut_short g c =
    IfOk-weaker c.next_in_header.result _ _ (λ next is. λ journal reads. is ∙ sym (cut-short-is journal c.args.peek.now reads c.if-peek.false)) c.next_in_header.ensures.cut_short

pub returns-clause-next : goal.returns-clause-next
returns-clause-next g c =
    IfOk-weaker c.next_in_header.result _ _ (λ next h. λ journal reads. in-header (λ highest. highest ≤ 999) journal c.args.peek.now next.number reads c.if-peek.false h) c.next_in_header.ensures.same

pub returns-clause-held : goal.returns-clause-held
returns-clause-held g c = λ honest.
    IfOk-weaker c.next_in_header.result _ _
    (λ next h. λ journal reads. in-header (IsHighestThere (g.F.Folder.has c.args.folder.now) c.args.top.now) journal c.args.peek.now next.number reads c.if-peek.false h) c.next_in_header.ensures.same

pub returns-clause-refused : goal.returns-clause-refused
returns-clause-refused g c =
    weaker _ c.next_in_header.result c.next_in_header.ensures.refused (λ fault why. λ journal reads. none-in-header c.args.top.now journal c.args.peek.now fault reads c.if-peek.false why)
