use Rattle.dag_main_run.specs.Sites.{rounds_at}
use Rattle.dagrun.specs.Answered.{as_text, as_json, run_refused, not_stated, printed_run, changing_files, held_in, run_contract}
use Rattle.dag_main_run.specs.RunChanges.{found_where}
use Rattle.dagrun.proofs.Changes.{run-handed-on, run-untold, run-answered}
use Rattle.dagrun.proofs.Worlds.{refused-to}
use Rattle.dagrun.proofs.answers.run_in.Goals as goal

pub returns-in_err-answer-clause-some : goal.returns-in_err-answer-clause-some
returns-in_err-answer-clause-some g c = λ unstreamed.
    let run = run_contract changing_files (rounds_at g.F.Journal.Disk g.F.Rescue.Disk (g.F.Site.own c.args.folder.now) (g.F.Folder.honest c.args.folder.now) (g.F.Folder.holds c.args.folder.now)) c.args.dag.now c.args.options.now in
    refused-to (printed_run c.args.dag.now c.args.options.now run) c.in_err-answer.field-0.0 (run_refused _ (c.in_err-answer.ensures.some unstreamed)) c.from_residual.result
    c.from_residual.ensures.1

pub returns-in_err-answer-clause-held : goal.returns-in_err-answer-clause-held
returns-in_err-answer-clause-held g c = λ honest unstreamed.
    let run = run_contract (held_in (g.F.Folder.holds c.args.folder.now) (g.F.Folder.has c.args.folder.now)) (rounds_at g.F.Journal.Disk g.F.Rescue.Disk (g.F.Site.own c.args.folder.now) (g.F.Folder.honest c.args.folder.now) (g.F.Folder.holds c.args.folder.now)) c.args.dag.now c.args.options.now in
    refused-to (printed_run c.args.dag.now c.args.options.now run) c.in_err-answer.field-0.0 (run_refused _ (c.in_err-answer.ensures.held honest unstreamed)) c.from_residual.result
    c.from_residual.ensures.1

pub returns-then-not-options-clause-some : goal.returns-then-not-options-clause-some
returns-then-not-options-clause-some g c = λ unstreamed. as_text c.if-not-options.true (c.in_ok-answer.ensures.some unstreamed)

pub returns-then-not-options-clause-held : goal.returns-then-not-options-clause-held
returns-then-not-options-clause-held g c = λ honest unstreamed. as_text c.if-not-options.true (c.in_ok-answer.ensures.held honest unstreamed)

pub returns-in_err-states-clause-some : goal.returns-in_err-states-clause-some
returns-in_err-states-clause-some g c = λ unstreamed.
    let run = run_contract changing_files (rounds_at g.F.Journal.Disk g.F.Rescue.Disk (g.F.Site.own c.args.folder.now) (g.F.Folder.honest c.args.folder.now) (g.F.Folder.holds c.args.folder.now)) c.args.dag.now c.args.options.now in
    refused-to (printed_run c.args.dag.now c.args.options.now run) c.in_err-states.field-0.0 (not_stated _ c.if-not-options.false c.in_err-states.ensures.refused)
    c.from_residual-in_err-states.result c.from_residual-in_err-states.ensures.1

pub returns-in_err-states-clause-held : goal.returns-in_err-states-clause-held
returns-in_err-states-clause-held g c = λ honest unstreamed.
    let run = run_contract (held_in (g.F.Folder.holds c.args.folder.now) (g.F.Folder.has c.args.folder.now)) (rounds_at g.F.Journal.Disk g.F.Rescue.Disk (g.F.Site.own c.args.folder.now) (g.F.Folder.honest c.args.folder.now) (g.F.Folder.holds c.args.folder.now)) c.args.dag.now c.args.options.now in
    refused-to (printed_run c.args.dag.now c.args.options.now run) c.in_err-states.field-0.0 (not_stated _ c.if-not-options.false c.in_err-states.ensures.refused)
    c.from_residual-in_err-states.result c.from_residual-in_err-states.ensures.1

pub returns-clause-some : goal.returns-clause-some
returns-clause-some g c = λ unstreamed. as_json _ _ _ c.if-not-options.false (c.in_ok-answer.ensures.some unstreamed) c.in_ok-states.ensures.answered

pub returns-clause-held : goal.returns-clause-held
returns-clause-held g c = λ honest unstreamed. as_json _ _ _ c.if-not-options.false (c.in_ok-answer.ensures.held honest unstreamed) c.in_ok-states.ensures.answered

pub returns-in_err-answer-clause-changes : goal.returns-in_err-answer-clause-changes
returns-in_err-answer-clause-changes g c =
    run-handed-on c.in_err-answer.field-0.0 c.from_residual.result c.from_residual.ensures.1 (found_where (g.F.Folder.honest c.args.folder.now) (g.F.Folder.holds c.args.folder.now) (g.F.Folder.has c.args.folder.now))
    (rounds_at g.F.Journal.Disk g.F.Rescue.Disk (g.F.Site.own c.args.folder.now) (g.F.Folder.honest c.args.folder.now) (g.F.Folder.holds c.args.folder.now))
    c.args.dag.now c.args.options.now _ _ c.in_err-answer.ensures.changes

pub returns-then-not-options-clause-changes : goal.returns-then-not-options-clause-changes
returns-then-not-options-clause-changes g c = c.in_ok-answer.ensures.changes

pub returns-in_err-states-clause-changes : goal.returns-in_err-states-clause-changes
returns-in_err-states-clause-changes g c =
    run-untold _ c.from_residual-in_err-states.result c.from_residual-in_err-states.ensures.1 (found_where (g.F.Folder.honest c.args.folder.now) (g.F.Folder.holds c.args.folder.now) (g.F.Folder.has c.args.folder.now))
    (rounds_at g.F.Journal.Disk g.F.Rescue.Disk (g.F.Site.own c.args.folder.now) (g.F.Folder.honest c.args.folder.now) (g.F.Folder.holds c.args.folder.now))
    c.args.dag.now c.args.options.now c.if-not-options.false c.in_ok-answer.answer _ _ c.in_ok-answer.ensures.changes

pub returns-clause-changes : goal.returns-clause-changes
returns-clause-changes g c =
    run-answered (found_where (g.F.Folder.honest c.args.folder.now) (g.F.Folder.holds c.args.folder.now) (g.F.Folder.has c.args.folder.now))
    (rounds_at g.F.Journal.Disk g.F.Rescue.Disk (g.F.Site.own c.args.folder.now) (g.F.Folder.honest c.args.folder.now) (g.F.Folder.holds c.args.folder.now))
    c.args.dag.now c.args.options.now _ _ _ _ c.in_ok-answer.ensures.changes
