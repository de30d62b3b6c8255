use Rattle.std.proofs.Common.{◌≡◌, false, Some, subst, sym, ap}
use Rattle.node_machine.specs.declared.MachineState.{MachineState}
use Rattle.node_machine.specs.declared.Phase.{Phase}
use Rattle.node_machine.specs.NodeProgress.{NodeProgress, IsPossible}
use Rattle.node_machine.specs.NodeRun.{IsStateAfter, with_phase_ended}
use Rattle.node_machine.proofs.Behind.{end-behind, possible-behind, some-phase}
use Rattle.node_machine.proofs.runs.NodeRun.ended.Goals as goal

pub invariant_of-self : goal.invariant_of-self
invariant_of-self c =
    let run : NodeProgress = record { course = c.self.inside.course; machine = c.self.inside.machine; running = c.self.inside.running } in
    subst (λ (t : MachineState). IsPossible (record { course = c.self.inside.course; machine = t; running = false }))
    (sym c.after_ending-self-inside.ensures) (possible-behind run c.args.outcome c.self.invariant)

pub returns-clause-adds : goal.returns-clause-adds
returns-clause-adds c = λ es s.
    let run : NodeProgress = record { course = c.self.inside.course; machine = c.self.inside.machine; running = c.self.inside.running } in
    let new : NodeProgress = record { course = c.self.inside.course; machine = c.after_ending-self-inside.result; running = false } in
    let p : (phase : Phase) × (run.machine.phase ≡ Some phase) = some-phase run.machine.phase (c.self.invariant.next c.if-not-self.false) in
    subst (λ (v : NodeProgress). IsStateAfter new (with_phase_ended v.course es c.args.outcome)) c.self.view_is
    (end-behind run es (subst (λ (v : NodeProgress). IsStateAfter v es) (sym c.self.view_is) s) p.0 p.1 c.args.outcome new
    (ap (λ (t : MachineState). record { course = c.self.inside.course; machine = t; running = false }) c.after_ending-self-inside.ensures))
