use Rattle.std.proofs.Common.{◌≡◌, ◌∙◌, ◌||◌, ◌&&◌, not, map, ap, sym, subst, slice_set, arith, is_none, if◌then◌else◌}
use Rattle.std.specs.Prelude.{nat_lt}
use Rattle.node_machine.specs.declared.MachineState.{MachineState}
use Rattle.node_machine.specs.NodeRun.{ended_with, stopped}
use Rattle.run_plan.specs.Plan.{node_at, count_of}
use Rattle.sched_core.specs.Run.{setting_is_met}
use Rattle.sched_core.specs.Core.{TakesRecord, run_at, aborted_in, runs_after, aborted_after}
use Rattle.sched_core.specs.Turns.{IsOfTurn, has_abort_by, done_by, stuck_by}
use Rattle.sched_core.specs.declared.advancing.Turn.{Turn}
use Rattle.sched_core.proofs.Turning.{aborts-own, turned-machine}
use Rattle.sched_core.proofs.advancing.advance.Goals as goal

pub returns-in-End-Some-clause-runs : goal.returns-in-End-Some-clause-runs
returns-in-End-Some-clause-runs c =
    let plan = c.args.plan.now in let runs = c.args.states.now.runs in let key = c.in-End-Some.key in
    let run = ended_with (run_at runs key.node) c.in-End-Some.outcome in
    let takes = subst (TakesRecord plan runs) c.in-End-Some.is-0 c.requires.takes in
    let turn = subst (IsOfTurn plan c.args.aborted runs) c.in-End-Some.is-0 c.requires.turn in
    let w = takes.0 in let many = c.requires.many.runs in
    let own = aborts-own plan runs key.node run c.args.aborted (omega (arith, w, many)) takes.2 c.requires.flag turn.going in
    let stops : c.end.result.aborts ≡ (aborted_in plan (slice_set runs key.node run) && not c.args.aborted) =
    ap (λ (t : Turn). t.aborts) c.end.ensures.turn ∙ sym own.0 in
    c.end.ensures.runs
    ∙ (λ j. if stops j then map stopped (slice_set runs key.node run) else slice_set runs key.node run)
    ∙ ap (runs_after plan runs c.args.aborted) (sym c.in-End-Some.is-0)

pub returns-in-End-Some-clause-flag : goal.returns-in-End-Some-clause-flag
returns-in-End-Some-clause-flag c =
    let plan = c.args.plan.now in let runs = c.args.states.now.runs in let key = c.in-End-Some.key in
    let run = ended_with (run_at runs key.node) c.in-End-Some.outcome in
    let takes = subst (TakesRecord plan runs) c.in-End-Some.is-0 c.requires.takes in
    let turn = subst (IsOfTurn plan c.args.aborted runs) c.in-End-Some.is-0 c.requires.turn in
    let w = takes.0 in let many = c.requires.many.runs in
    let own = aborts-own plan runs key.node run c.args.aborted (omega (arith, w, many)) takes.2 c.requires.flag turn.going in
    ap (λ (t : Turn). c.args.aborted || t.aborts) c.end.ensures.turn ∙ own.1
    ∙ ap (aborted_after plan runs c.args.aborted) (sym c.in-End-Some.is-0)

pub returns-in-End-Some-clause-aborts : goal.returns-in-End-Some-clause-aborts
returns-in-End-Some-clause-aborts c =
    let plan = c.args.plan.now in let runs = c.args.states.now.runs in let key = c.in-End-Some.key in
    let run = ended_with (run_at runs key.node) c.in-End-Some.outcome in
    let takes = subst (TakesRecord plan runs) c.in-End-Some.is-0 c.requires.takes in
    let w = takes.0 in let many = c.requires.many.runs in
    ap (λ (t : Turn). t.aborts) c.end.ensures.turn
    ∙ ap (λ (s : MachineState). nat_lt key.node (count_of plan) && setting_is_met (node_at plan key.node).course.abort_on s.value)
    (sym (turned-machine runs c.end.new.states.runs key.node run c.end.result.aborts (omega (arith, w, many)) c.end.ensures.runs))
    ∙ ap (has_abort_by plan c.end.new.states.runs) (sym c.in-End-Some.is-0)

pub returns-in-End-Some-clause-is_done : goal.returns-in-End-Some-clause-is_done
returns-in-End-Some-clause-is_done c =
    let plan = c.args.plan.now in let runs = c.args.states.now.runs in let key = c.in-End-Some.key in
    let run = ended_with (run_at runs key.node) c.in-End-Some.outcome in
    let takes = subst (TakesRecord plan runs) c.in-End-Some.is-0 c.requires.takes in
    let w = takes.0 in let many = c.requires.many.runs in
    ap (λ (t : Turn). t.is_done) c.end.ensures.turn
    ∙ ap (λ (s : MachineState). nat_lt key.node (count_of plan) && ((node_at plan key.node).done || (is_none s.phase && s.good)))
    (sym (turned-machine runs c.end.new.states.runs key.node run c.end.result.aborts (omega (arith, w, many)) c.end.ensures.runs))
    ∙ ap (done_by plan c.end.new.states.runs) (sym c.in-End-Some.is-0)

pub returns-in-End-Some-clause-is_stuck : goal.returns-in-End-Some-clause-is_stuck
returns-in-End-Some-clause-is_stuck c =
    let plan = c.args.plan.now in let runs = c.args.states.now.runs in let key = c.in-End-Some.key in
    let run = ended_with (run_at runs key.node) c.in-End-Some.outcome in
    let takes = subst (TakesRecord plan runs) c.in-End-Some.is-0 c.requires.takes in
    let w = takes.0 in let many = c.requires.many.runs in
    ap (λ (t : Turn). t.is_stuck) c.end.ensures.turn
    ∙ ap (λ (s : MachineState). nat_lt key.node (count_of plan) && (not (node_at plan key.node).done && (is_none s.phase && not s.good)))
    (sym (turned-machine runs c.end.new.states.runs key.node run c.end.result.aborts (omega (arith, w, many)) c.end.ensures.runs))
    ∙ ap (stuck_by plan c.end.new.states.runs) (sym c.in-End-Some.is-0)
