use Rattle.std.proofs.Common.{rules, ◌≡◌, ◌∙◌, ◌≤◌, ◌||◌, ℕ, List, ap, sym, subst, slice_set, arith}
use Rattle.std.proofs.lemmas.Bool.{and_parts, ltb-true}
use Rattle.node_machine.specs.NodeProgress.{NodeProgress}
use Rattle.node_machine.specs.NodeRun.{ended_with}
use Rattle.run_plan.specs.Plan.{count_of}
use Rattle.dag_graph.specs.Graph.{children_of}
use Rattle.sched_core.specs.Core.{run_at}
use Rattle.sched_core.specs.States.{NodeStates, AreLeft, left_at}
use Rattle.sched_core.specs.Queued.{IsQueued}
use Rattle.sched_core.specs.Turns.{times, turn_of}
use Rattle.sched_core.specs.declared.advancing.Turn.{Turn}
use Rattle.sched_core.proofs.Sweeps.{run_at-same, run_at-other}
use Rattle.sched_core.proofs.Turning.{left-ended, left-enough, left-done, or-left, or-right}
use Rattle.sched_core.proofs.advancing.end.Goals as goal

pub count_down-requires-clause-enough : goal.count_down-requires-clause-enough
count_down-requires-clause-enough c =
    let plan = c.args.plan.now in let states = c.args.states.now in let node = c.args.key.node in
    let run = ended_with (run_at states.runs node) c.args.outcome in
    let ran : c.ended.new.self ≡ run = search rules in
    let turn : c.turn_of-turn.result ≡ turn_of plan node run = c.turn_of-turn.ensures ∙ ap (turn_of plan node) ran in
    let done = and_parts _ _ (sym (ap (λ (t : Turn). t.is_done) turn) ∙ c.if-turn-2.true) in
    let lt = ltb-true node (count_of plan) done.0 in
    let abort_free = c.requires.ending.going lt in
    let left : c.settle.new.states.left ≡ slice_set states.left node c.args.looked.state.parents_left =
    ap (λ (s : NodeStates). s.left) c.settle.ensures.states ∙ ap (λ n. slice_set states.left n c.args.looked.state.parents_left) c.requires.lent.place in
    subst (λ (xs : List ℕ). (child : ℕ) → times child (children_of plan.graph.dag node) ≤ left_at xs child) (sym left)
    (left-enough plan c.graph-graph.ensures.made states.runs states.left node c.args.looked.state.parents_left run c.requires.lent.within c.requires.many.runs c.requires.ending.undone
    (subst (λ b. AreLeft plan b states.runs states.left) abort_free c.requires.left) lt (c.requires.lent.left abort_free lt))

pub returns-then-turn-2-clause-left : goal.returns-then-turn-2-clause-left
returns-then-turn-2-clause-left c =
    let plan = c.args.plan.now in let states = c.args.states.now in let node = c.args.key.node in
    let run = ended_with (run_at states.runs node) c.args.outcome in
    let ran : c.ended.new.self ≡ run = search rules in
    let turn : c.turn_of-turn.result ≡ turn_of plan node run = c.turn_of-turn.ensures ∙ ap (turn_of plan node) ran in
    let done = and_parts _ _ (sym (ap (λ (t : Turn). t.is_done) turn) ∙ c.if-turn-2.true) in
    let lt = ltb-true node (count_of plan) done.0 in
    let abort_free = c.requires.ending.going lt in
    let left : c.settle.new.states.left ≡ slice_set states.left node c.args.looked.state.parents_left =
    ap (λ (s : NodeStates). s.left) c.settle.ensures.states ∙ ap (λ n. slice_set states.left n c.args.looked.state.parents_left) c.requires.lent.place in
    let runs : c.count_down.new.states.runs ≡ slice_set states.runs node run =
    c.count_down.ensures.runs ∙ ap (λ (s : NodeStates). s.runs) c.settle.ensures.states ∙ (λ j. slice_set states.runs (c.requires.lent.place j) (ran j)) in
    let long = c.count_down.ensures.many.left in
    subst (λ (rs : List NodeProgress). AreLeft plan (c.args.aborted || c.turn_of-turn.result.aborts) rs c.count_down.new.states.left) (sym runs)
    (left-done plan c.graph-graph.ensures.made states.runs states.left node c.args.looked.state.parents_left run c.requires.lent.within c.requires.many.runs c.requires.ending.undone
    (c.args.aborted || c.turn_of-turn.result.aborts) c.count_down.new.states.left
    (subst (λ b. AreLeft plan b states.runs states.left) abort_free c.requires.left) lt (c.requires.lent.left abort_free lt) done.1 long
    (λ child. c.count_down.ensures.left child ∙ ap (λ (xs : List ℕ). left_at xs child) left))

pub returns-else-turn-2-clause-left : goal.returns-else-turn-2-clause-left
returns-else-turn-2-clause-left c =
    let plan = c.args.plan.now in let states = c.args.states.now in let node = c.args.key.node in
    let run = ended_with (run_at states.runs node) c.args.outcome in
    let ran : c.ended.new.self ≡ run = search rules in
    let turn : c.turn_of-turn.result ≡ turn_of plan node run = c.turn_of-turn.ensures ∙ ap (turn_of plan node) ran in
    let left : c.settle.new.states.left ≡ slice_set states.left node c.args.looked.state.parents_left =
    ap (λ (s : NodeStates). s.left) c.settle.ensures.states ∙ ap (λ n. slice_set states.left n c.args.looked.state.parents_left) c.requires.lent.place in
    let runs : c.settle.new.states.runs ≡ slice_set states.runs node run =
    ap (λ (s : NodeStates). s.runs) c.settle.ensures.states ∙ (λ j. slice_set states.runs (c.requires.lent.place j) (ran j)) in
    subst (λ (rs : List NodeProgress). AreLeft plan (c.args.aborted || c.turn_of-turn.result.aborts) rs c.settle.new.states.left) (sym runs)
    (subst (AreLeft plan (c.args.aborted || c.turn_of-turn.result.aborts) (slice_set states.runs node run)) (sym left)
    (left-ended plan c.graph-graph.ensures.made states.runs states.left node c.args.looked.state.parents_left run c.requires.lent.within c.requires.many.runs c.requires.ending.undone
    c.args.aborted (c.args.aborted || c.turn_of-turn.result.aborts) c.requires.left (or-left c.args.aborted c.turn_of-turn.result.aborts) c.requires.lent.left
    (sym (ap (λ (t : Turn). t.is_done) turn) ∙ c.if-turn-2.false)))

pub stop_others-requires-clause-own : goal.stop_others-requires-clause-own
stop_others-requires-clause-own c =
    let plan = c.args.plan.now in let states = c.args.states.now in let node = c.args.key.node in
    let run = ended_with (run_at states.runs node) c.args.outcome in
    let ran : c.ended.new.self ≡ run = search rules in
    let w = c.requires.lent.within in let many = c.requires.many.runs in
    let runs : c.settle.new.states.runs ≡ slice_set states.runs node run =
    ap (λ (s : NodeStates). s.runs) c.settle.ensures.states ∙ (λ j. slice_set states.runs (c.requires.lent.place j) (ran j)) in
    ap (λ (rs : List NodeProgress). (run_at rs node).running) runs ∙ ap (λ (r : NodeProgress). r.running) (run_at-same states.runs node run (omega (arith, w, many)))

pub stop_others-requires-clause-idle : goal.stop_others-requires-clause-idle
stop_others-requires-clause-idle c =
    let plan = c.args.plan.now in let states = c.args.states.now in let node = c.args.key.node in
    let run = ended_with (run_at states.runs node) c.args.outcome in
    let ran : c.ended.new.self ≡ run = search rules in
    let turn : c.turn_of-turn.result ≡ turn_of plan node run = c.turn_of-turn.ensures ∙ ap (turn_of plan node) ran in
    let stops = and_parts _ _ (sym (ap (λ (t : Turn). t.aborts) turn) ∙ c.if-turn.true) in
    let lt = ltb-true node (count_of plan) stops.0 in
    let runs : c.settle.new.states.runs ≡ slice_set states.runs node run =
    ap (λ (s : NodeStates). s.runs) c.settle.ensures.states ∙ (λ j. slice_set states.runs (c.requires.lent.place j) (ran j)) in
    ap (λ (rs : List NodeProgress). (run_at rs (count_of plan)).running) runs
    ∙ ap (λ (r : NodeProgress). r.running) (run_at-other states.runs node run (count_of plan) (λ e. omega (arith, e, lt)))
    ∙ c.requires.ending.idle lt

pub returns-then-turn-clause-queued : goal.returns-then-turn-clause-queued
returns-then-turn-clause-queued c =
    let runs = c.stop_others.new.states.runs in let left = c.stop_others.new.states.left in
    subst (λ b. IsQueued c.args.plan.now b runs left c.clear.new.self) (sym (or-right c.args.aborted c.turn_of-turn.result.aborts c.if-turn.true)) (c.clear.ensures runs left)
