use Rattle.std.proofs.Common.{◌∙◌, ℕ, List, Option, Ok, Err, ap, refl, sym, subst}
use Rattle.std.specs.Option.{option_map}
use Rattle.splices_flat.specs.FileSet.{entries_of}
use Rattle.dag_main_check.specs.declared.warnings.Answer.{Answer}
use Rattle.dag_main_run.specs.declared.runs.Report.{Report}
use Rattle.dag_main_run.specs.RunChanges.{ChangesAsRound}
use Rattle.dag_main_run.specs.Sites.{IsRoundStoppedAt}
use Rattle.dag_main_run.proofs.RunChanges.{round-unchanged, round-handed-on}
use Rattle.splices_flat.specs.Dag.{Dag}
use Rattle.dag_graph.specs.Graph.{Network}
use Rattle.dag_main_check.specs.Warnings.{warning_lines}
use Rattle.dag_main_check.specs.declared.fault.RunFault.TheVariants.{Memory}
use Rattle.dag_main_files.specs.declared.rounds.Round.{Round}
use Rattle.dag_main_files.specs.Beside.{HasJournal}
use Rattle.dag_main_files.specs.Folder.{journal_in}
use Rattle.dag_main_run.specs.Runs.{IsFindingFault, IsFindingFaultHeld, IsHeldFault, not_found_again, another_was_at_work, not_led, leading_had_no_memory}
use Rattle.dag_main_files.proofs.RunFaults.{by-fault}
use Rattle.dag_main_run.proofs.runs.run_locked.Goals as goal

pub run_planned-requires-clause-by_journal : goal.run_planned-requires-clause-by_journal
run_planned-requires-clause-by_journal g c = λ honest.
    subst (λ (r : Round). HasJournal (journal_in (g.H.Folder.holds c.args.site.now) c.args.place.now.top.now) r) (sym (c.is_same.ensures.round c.if-not-is_same.false))
    (c.in_ok-again.ensures.found.held honest).0.by_journal

pub returns-in_err-again-clause-refused : goal.returns-in_err-again-clause-refused
returns-in_err-again-clause-refused g c =
    by-fault (IsHeldFault c.args.place.now.top.now c.args.options.now c.args.found.now.0 (IsFindingFault c.args.place.now.top.now c.args.options.now) _ _) c.in_err-again.field-0.0 (not_found_again _ c.in_err-again.ensures.refused)
    c.from_residual.result c.from_residual.ensures.1

pub returns-then-not-is_same-clause-refused : goal.returns-then-not-is_same-clause-refused
returns-then-not-is_same-clause-refused g c = another_was_at_work c.taken.result c.taken.ensures

pub returns-in_err-warnings-clause-refused : goal.returns-in_err-warnings-clause-refused
returns-in_err-warnings-clause-refused g c =
    by-fault (IsHeldFault c.args.place.now.top.now c.args.options.now c.args.found.now.0 (IsFindingFault c.args.place.now.top.now c.args.options.now) _ _) Memory (not_led _ leading_had_no_memory) c.from_residual-in_err-warnings.result c.from_residual-in_err-warnings.ensures.1

pub returns-in_err-report-clause-refused : goal.returns-in_err-report-clause-refused
returns-in_err-report-clause-refused g c =
    by-fault (IsHeldFault c.args.place.now.top.now c.args.options.now c.args.found.now.0 (IsFindingFault c.args.place.now.top.now c.args.options.now) _ _) c.in_err-report.field-0.0 (not_led _ c.in_err-report.ensures.refused)
    c.from_residual-in_err-report.result c.from_residual-in_err-report.ensures.1

pub returns-clause-warnings : goal.returns-clause-warnings
returns-clause-warnings g c =
    c.in_ok-warnings.ensures ∙ ap warning_lines (c.warnings.ensures ∙ ap (λ (d : Dag). d.warnings) (c.flat.ensures ∙ ap (λ (g : Network). g.dag) c.graph.ensures.is))

pub returns-in_err-again-clause-refused_held : goal.returns-in_err-again-clause-refused_held
returns-in_err-again-clause-refused_held g c = λ honest.
    by-fault (IsHeldFault c.args.place.now.top.now c.args.options.now c.args.found.now.0 (IsFindingFaultHeld (g.H.Folder.holds c.args.site.now) (g.H.Folder.has c.args.site.now) c.args.place.now.top.now c.args.options.now) _ _) c.in_err-again.field-0.0
    (not_found_again _ (c.in_err-again.ensures.refused_held honest)) c.from_residual.result c.from_residual.ensures.1

pub returns-then-not-is_same-clause-refused_held : goal.returns-then-not-is_same-clause-refused_held
returns-then-not-is_same-clause-refused_held g c = λ honest. another_was_at_work c.taken.result c.taken.ensures

pub returns-in_err-warnings-clause-refused_held : goal.returns-in_err-warnings-clause-refused_held
returns-in_err-warnings-clause-refused_held g c = λ honest.
    by-fault (IsHeldFault c.args.place.now.top.now c.args.options.now c.args.found.now.0 (IsFindingFaultHeld (g.H.Folder.holds c.args.site.now) (g.H.Folder.has c.args.site.now) c.args.place.now.top.now c.args.options.now) _ _) Memory (not_led _ leading_had_no_memory)
    c.from_residual-in_err-warnings.result c.from_residual-in_err-warnings.ensures.1

pub returns-in_err-report-clause-refused_held : goal.returns-in_err-report-clause-refused_held
returns-in_err-report-clause-refused_held g c = λ honest.
    by-fault (IsHeldFault c.args.place.now.top.now c.args.options.now c.args.found.now.0 (IsFindingFaultHeld (g.H.Folder.holds c.args.site.now) (g.H.Folder.has c.args.site.now) c.args.place.now.top.now c.args.options.now) _ _) c.in_err-report.field-0.0
    (not_led _ c.in_err-report.ensures.refused) c.from_residual-in_err-report.result c.from_residual-in_err-report.ensures.1

pub returns-in_err-again-clause-changes : goal.returns-in_err-again-clause-changes
returns-in_err-again-clause-changes g c =
    round-unchanged c.args.place.now.top.now c.args.plan.now.digest (entries_of c.args.files.now) (option_map (λ b. b.items) c.args.found.now.1) c.args.found.now.0 _
    c.in_err-again.field-0.0 c.from_residual.result c.from_residual.ensures.1 c.args.changes.now c.args.changes.now refl

pub returns-in_err-warnings-clause-changes : goal.returns-in_err-warnings-clause-changes
returns-in_err-warnings-clause-changes g c =
    round-unchanged c.args.place.now.top.now c.args.plan.now.digest (entries_of c.args.files.now) (option_map (λ b. b.items) c.args.found.now.1) c.args.found.now.0 _
    Memory c.from_residual-in_err-warnings.result c.from_residual-in_err-warnings.ensures.1 c.args.changes.now c.args.changes.now refl

pub returns-then-not-is_same-clause-changes : goal.returns-then-not-is_same-clause-changes
returns-then-not-is_same-clause-changes g c =
    round-unchanged c.args.place.now.top.now c.args.plan.now.digest (entries_of c.args.files.now) (option_map (λ b. b.items) c.args.found.now.1) c.args.found.now.0 _
    {A = Answer} c.taken.result (Err c.taken.result) refl c.args.changes.now c.args.changes.now refl

pub returns-in_err-report-clause-changes : goal.returns-in_err-report-clause-changes
returns-in_err-report-clause-changes g c =
    let Stopped = IsRoundStoppedAt g.H.Journal.Disk g.H.Rescue.Disk (g.H.Site.own c.args.site.now) (g.H.Folder.honest c.args.site.now) (g.H.Folder.holds c.args.site.now)
    c.args.place.now.top.now c.args.options.now.limits c.args.launcher.now c.args.plan.now c.args.found.now.0 in
    round-handed-on c.args.place.now.top.now c.args.plan.now.digest (entries_of c.args.files.now) (option_map (λ b. b.items) c.args.found.now.1) c.args.found.now.0 _
    Report c.in_err-report.field-0.0 c.from_residual-in_err-report.result c.from_residual-in_err-report.ensures.1 c.args.changes.now c.run_planned.new.changes
    (subst (λ (rescue : Option (List ℕ)). ChangesAsRound {A = Report} (Err c.in_err-report.field-0.0) Stopped c.args.place.now.top.now c.args.plan.now.digest (entries_of c.args.files.now) rescue
    c.args.found.now.0 c.args.changes.now c.run_planned.new.changes) c.as_deref.ensures.value c.in_err-report.ensures.changes)

pub returns-clause-changes : goal.returns-clause-changes
returns-clause-changes g c =
    let Stopped = IsRoundStoppedAt g.H.Journal.Disk g.H.Rescue.Disk (g.H.Site.own c.args.site.now) (g.H.Folder.honest c.args.site.now) (g.H.Folder.holds c.args.site.now)
    c.args.place.now.top.now c.args.options.now.limits c.args.launcher.now c.args.plan.now c.args.found.now.0 in
    let changes = subst (λ (rescue : Option (List ℕ)). ChangesAsRound {A = Report} (Ok c.in_ok-report.report) Stopped c.args.place.now.top.now c.args.plan.now.digest
    (entries_of c.args.files.now) rescue c.args.found.now.0 c.args.changes.now c.run_planned.new.changes) c.as_deref.ensures.value c.in_ok-report.ensures.changes in
    (changes.0, changes.1, changes.2, changes.3)
