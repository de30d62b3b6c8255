use Rattle.std.proofs.Common.{ℕ, List, Result, Ok, Err, refl, subst, sym}
use Rattle.std.specs.Prelude.{IfErr}
use Rattle.std.specs.Option.{option_map}
use Rattle.splices_flat.specs.FileSet.{entries_of}
use Rattle.dag_main_run.specs.declared.runs.Report.{Report}
use Rattle.dag_main_run.proofs.RunChanges.{steps-of, readied-of, round-unchanged, round-unready, round-unsettled, round-without-memory, readied-begun, kept-begun, round-led}
use Rattle.dag_main_run.specs.Runs.{IsStopFault, no_endings, orphans_in_the_way, no_status_file, not_readied, round_stopped, leading_had_no_memory}
use Rattle.dag_main_args.specs.declared.request.RunOptions.{RunOptions}
use Rattle.dag_main_files.specs.declared.rounds.Round.{Round}
use Rattle.dag_main_check.specs.declared.fault.RunFault.{RunFault}
use Rattle.dag_main_check.specs.declared.fault.RunFault.TheVariants.{Memory, WaitFault}
use Rattle.dag_main_check.proofs.Refusals.{handed-on}
use Rattle.dag_main_files.proofs.RunFaults.{by-fault}
use Rattle.dag_main_run.proofs.runs.run_on.Goals as goal

stopped-round : {A : Type 0} (path : List ℕ) (options : RunOptions) (round : Round) (IsDeaf : Type 0) (Stopped : RunFault → Type 0) (r : Result A RunFault)
    → IfErr r Stopped → IfErr r (IsStopFault path options round IsDeaf Stopped)
stopped-round path options round IsDeaf Stopped (Ok led) is = is
stopped-round path options round IsDeaf Stopped (Err fault) is = round_stopped fault is

pub returns-then-is_deaf-clause-refused : goal.returns-then-is_deaf-clause-refused
returns-then-is_deaf-clause-refused g c = no_endings (c.is_deaf.ensures c.if-is_deaf.true)

pub returns-in_err-journal-clause-refused : goal.returns-in_err-journal-clause-refused
returns-in_err-journal-clause-refused g c =
    handed-on (IsStopFault _ _ _ _ _) c.from_residual-in_err-journal.result c.from_residual-in_err-journal.ensures.1
    (λ fault same. subst (IsStopFault _ _ _ _ _) (sym same) (not_readied c.in_err-journal.field-0.0 c.in_err-journal.ensures.refused))

pub returns-in_err-kept-clause-refused : goal.returns-in_err-kept-clause-refused
returns-in_err-kept-clause-refused g c =
    handed-on (IsStopFault _ _ _ _ _) c.from_residual-in_err-kept.result c.from_residual-in_err-kept.ensures.1
    (λ fault same. subst (IsStopFault _ _ _ _ _) (sym same) (orphans_in_the_way c.in_err-kept.field-0.0 c.in_err-kept.ensures.refused))

pub returns-in_err-orphans-clause-refused : goal.returns-in_err-orphans-clause-refused
returns-in_err-orphans-clause-refused g c =
    handed-on (IsStopFault _ _ _ _ _) c.from_residual.result c.from_residual.ensures.1
    (λ fault same. subst (IsStopFault _ _ _ _ _) (sym same) (orphans_in_the_way c.in_err-orphans.field-0.0 c.in_err-orphans.ensures))

pub returns-in_err-status-clause-refused : goal.returns-in_err-status-clause-refused
returns-in_err-status-clause-refused g c =
    handed-on (IsStopFault _ _ _ _ _) c.from_residual-in_err-status.result c.from_residual-in_err-status.ensures.1
    (λ fault same. subst (IsStopFault _ _ _ _ _) (sym same) (no_status_file c.in_err-status.ensures.0 c.in_err-status.field-0.0 c.in_err-status.ensures.1 c.in_err-status.ensures.2))

pub returns-in_err-left_out-clause-refused : goal.returns-in_err-left_out-clause-refused
returns-in_err-left_out-clause-refused g c =
    by-fault (IsStopFault _ _ _ _ _) c.in_err-left_out.field-0.0 (subst (IsStopFault _ _ _ _ _) (sym c.in_err-left_out.ensures.err) leading_had_no_memory)
    c.from_residual-in_err-left_out.result c.from_residual-in_err-left_out.ensures.1

pub returns-in_err-known-clause-refused : goal.returns-in_err-known-clause-refused
returns-in_err-known-clause-refused g c = by-fault (IsStopFault _ _ _ _ _) Memory leading_had_no_memory c.from_residual-in_err-known.result c.from_residual-in_err-known.ensures.1

pub returns-in_err-log-clause-refused : goal.returns-in_err-log-clause-refused
returns-in_err-log-clause-refused g c = by-fault (IsStopFault _ _ _ _ _) Memory leading_had_no_memory c.from_residual-in_err-log.result c.from_residual-in_err-log.ensures.1

pub returns-in_err-halt-clause-refused : goal.returns-in_err-halt-clause-refused
returns-in_err-halt-clause-refused g c = by-fault (IsStopFault _ _ _ _ _) Memory leading_had_no_memory c.from_residual-in_err-halt.result c.from_residual-in_err-halt.ensures.1

pub returns-clause-refused : goal.returns-clause-refused
returns-clause-refused g c = stopped-round _ _ _ _ _ c.led_watched.result c.led_watched.ensures.refused

pub returns-then-is_deaf-clause-changes : goal.returns-then-is_deaf-clause-changes
returns-then-is_deaf-clause-changes g c =
    round-unchanged c.args.place.now.top.now c.args.plan.now.digest (entries_of c.args.inputs.files.now) (option_map (λ b. b.now) c.args.inputs.rescue) c.args.round.now _
    {A = Report} WaitFault (Err WaitFault) refl c.args.changes.now c.args.changes.now refl

pub returns-in_err-orphans-clause-changes : goal.returns-in_err-orphans-clause-changes
returns-in_err-orphans-clause-changes g c =
    round-unchanged c.args.place.now.top.now c.args.plan.now.digest (entries_of c.args.inputs.files.now) (option_map (λ b. b.now) c.args.inputs.rescue) c.args.round.now _
    c.in_err-orphans.field-0.0 c.from_residual.result c.from_residual.ensures.1 c.args.changes.now c.args.changes.now refl

pub returns-in_err-status-clause-changes : goal.returns-in_err-status-clause-changes
returns-in_err-status-clause-changes g c =
    round-unchanged c.args.place.now.top.now c.args.plan.now.digest (entries_of c.args.inputs.files.now) (option_map (λ b. b.now) c.args.inputs.rescue) c.args.round.now _
    c.in_err-status.field-0.0 c.from_residual-in_err-status.result c.from_residual-in_err-status.ensures.1 c.args.changes.now c.args.changes.now refl

pub returns-in_err-journal-clause-changes : goal.returns-in_err-journal-clause-changes
returns-in_err-journal-clause-changes g c =
    let made = c.in_err-journal.ensures.changes in
    round-unready c.args.place.now.top.now c.args.plan.now.digest (entries_of c.args.inputs.files.now) (option_map (λ b. b.now) c.args.inputs.rescue) c.args.round.now _
    c.in_err-journal.field-0.0 c.from_residual-in_err-journal.result c.from_residual-in_err-journal.ensures.1 c.args.changes.now c.in_err-journal.ensures.refused made.0 made.1
    c.readied.new.changes made.2

pub returns-in_err-halt-clause-changes : goal.returns-in_err-halt-clause-changes
returns-in_err-halt-clause-changes g c =
    let made = c.in_ok-journal.ensures.changes in
    round-without-memory c.args.place.now.top.now c.args.plan.now.digest (entries_of c.args.inputs.files.now) (option_map (λ b. b.now) c.args.inputs.rescue) c.args.round.now _
    Memory c.from_residual-in_err-halt.result c.from_residual-in_err-halt.ensures.1 c.args.changes.now refl
    (readied-of c.args.place.now.top.now c.args.plan.now.digest (entries_of c.args.inputs.files.now) (option_map (λ b. b.now) c.args.inputs.rescue) c.args.round.now made.0 made.1) c.readied.new.changes
    (readied-begun c.args.place.now.top.now c.args.plan.now.digest (entries_of c.args.inputs.files.now) (option_map (λ b. b.now) c.args.inputs.rescue) c.args.round.now c.args.changes.now made.0 made.1 c.readied.new.changes made.2)

pub returns-in_err-kept-clause-changes : goal.returns-in_err-kept-clause-changes
returns-in_err-kept-clause-changes g c =
    let made = c.in_ok-journal.ensures.changes in
    let dealt = c.in_err-kept.ensures.changes in
    round-unsettled c.args.place.now.top.now c.args.plan.now.digest (entries_of c.args.inputs.files.now) (option_map (λ b. b.now) c.args.inputs.rescue) c.args.round.now _
    c.in_err-kept.field-0.0 c.from_residual-in_err-kept.result c.from_residual-in_err-kept.ensures.1 c.args.changes.now c.in_err-kept.ensures.refused made.0 made.1 c.readied.new.changes made.2
    dealt.0 dealt.1 c.settled.new.changes dealt.2

pub returns-in_err-left_out-clause-changes : goal.returns-in_err-left_out-clause-changes
returns-in_err-left_out-clause-changes g c =
    let made = c.in_ok-journal.ensures.changes in
    let dealt = c.in_ok-kept.ensures.changes in
    let kept = c.in_err-left_out.ensures.changes in
    round-without-memory c.args.place.now.top.now c.args.plan.now.digest (entries_of c.args.inputs.files.now) (option_map (λ b. b.now) c.args.inputs.rescue) c.args.round.now _
    c.in_err-left_out.field-0.0 c.from_residual-in_err-left_out.result c.from_residual-in_err-left_out.ensures.1 c.args.changes.now c.in_err-left_out.ensures.err
    (steps-of c.args.place.now.top.now c.args.plan.now.digest (entries_of c.args.inputs.files.now) (option_map (λ b. b.now) c.args.inputs.rescue) c.args.round.now made.0 made.1 dealt.0 dealt.1 kept.0 kept.1 kept.2) c.keep_inputs.new.changes
    (kept-begun c.args.place.now.top.now c.args.plan.now.digest (entries_of c.args.inputs.files.now) (option_map (λ b. b.now) c.args.inputs.rescue) c.args.round.now c.args.changes.now made.0 made.1 c.readied.new.changes made.2
    dealt.0 dealt.1 c.settled.new.changes dealt.2 kept.0 kept.1 kept.2 c.keep_inputs.new.changes kept.3)

pub returns-in_err-log-clause-changes : goal.returns-in_err-log-clause-changes
returns-in_err-log-clause-changes g c =
    let made = c.in_ok-journal.ensures.changes in
    let dealt = c.in_ok-kept.ensures.changes in
    let kept = c.in_ok-left_out.ensures.changes in
    round-without-memory c.args.place.now.top.now c.args.plan.now.digest (entries_of c.args.inputs.files.now) (option_map (λ b. b.now) c.args.inputs.rescue) c.args.round.now _
    Memory c.from_residual-in_err-log.result c.from_residual-in_err-log.ensures.1 c.args.changes.now refl
    (steps-of c.args.place.now.top.now c.args.plan.now.digest (entries_of c.args.inputs.files.now) (option_map (λ b. b.now) c.args.inputs.rescue) c.args.round.now made.0 made.1 dealt.0 dealt.1 kept.0 kept.1 kept.2) c.keep_inputs.new.changes
    (kept-begun c.args.place.now.top.now c.args.plan.now.digest (entries_of c.args.inputs.files.now) (option_map (λ b. b.now) c.args.inputs.rescue) c.args.round.now c.args.changes.now made.0 made.1 c.readied.new.changes made.2
    dealt.0 dealt.1 c.settled.new.changes dealt.2 kept.0 kept.1 kept.2 c.keep_inputs.new.changes kept.3)

pub returns-in_err-known-clause-changes : goal.returns-in_err-known-clause-changes
returns-in_err-known-clause-changes g c =
    let made = c.in_ok-journal.ensures.changes in
    let dealt = c.in_ok-kept.ensures.changes in
    let kept = c.in_ok-left_out.ensures.changes in
    round-without-memory c.args.place.now.top.now c.args.plan.now.digest (entries_of c.args.inputs.files.now) (option_map (λ b. b.now) c.args.inputs.rescue) c.args.round.now _
    Memory c.from_residual-in_err-known.result c.from_residual-in_err-known.ensures.1 c.args.changes.now refl
    (steps-of c.args.place.now.top.now c.args.plan.now.digest (entries_of c.args.inputs.files.now) (option_map (λ b. b.now) c.args.inputs.rescue) c.args.round.now made.0 made.1 dealt.0 dealt.1 kept.0 kept.1 kept.2) c.keep_inputs.new.changes
    (kept-begun c.args.place.now.top.now c.args.plan.now.digest (entries_of c.args.inputs.files.now) (option_map (λ b. b.now) c.args.inputs.rescue) c.args.round.now c.args.changes.now made.0 made.1 c.readied.new.changes made.2
    dealt.0 dealt.1 c.settled.new.changes dealt.2 kept.0 kept.1 kept.2 c.keep_inputs.new.changes kept.3)

pub returns-clause-changes : goal.returns-clause-changes
returns-clause-changes g c =
    let made = c.in_ok-journal.ensures.changes in
    let dealt = c.in_ok-kept.ensures.changes in
    let kept = c.in_ok-left_out.ensures.changes in
    round-led c.args.place.now.top.now c.args.plan.now.digest (entries_of c.args.inputs.files.now) (option_map (λ b. b.now) c.args.inputs.rescue) c.args.round.now _
    c.led_watched.result c.led_watched.ensures.refused c.args.changes.now made.0 made.1 c.readied.new.changes made.2
    dealt.0 dealt.1 c.settled.new.changes dealt.2 kept.0 kept.1 kept.2 c.keep_inputs.new.changes kept.3 c.led_watched.new.changes c.led_watched.ensures.changes
