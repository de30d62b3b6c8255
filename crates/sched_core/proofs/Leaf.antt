-- What a core's fields answer.
use Rattle.std.proofs.Common.{◌≡◌, ℕ, suc, ◌<◌, Bool, true, false, not, ◌&&◌, ◌||◌, List, Option, Some, None, is_none, refl, sym, ap, ◌∙◌, subst, if◌then◌else◌}
use Rattle.node_machine.specs.declared.Key.{Key}
use Rattle.node_machine.specs.declared.MachineState.{MachineState}
use Rattle.node_machine.specs.declared.Phase.{Phase}
use Rattle.node_machine.specs.Story.{next_after}
use Rattle.node_machine.specs.MachineState.{next_of, attempts_ended}
use Rattle.run_plan_node.specs.Node.{NodeSpec}
use Rattle.run_plan.specs.Plan.{Plan, node_at, count_of}
use Rattle.node_machine.specs.NodeProgress.{NodeProgress}
use Rattle.node_machine.specs.declared.Record.{Record}
use Rattle.sched_core.specs.Run.{history, key_at, next, is_done, attempts_in, value_in, is_lawful, is_free}
use Rattle.sched_core.specs.Core.{Progress, Shows, node_progress, run_at, is_running}
use Rattle.sched_core.proofs.Sound.{sound}
use Rattle.sched_core.proofs.Shown.{machine-next, machine-done, machine-value, machine-attempts}
use Rattle.sched_core.proofs.Held.{free-is}

module _ (plan : Plan) (past : List Record) (runs : List NodeProgress) (aborted : Bool) (jobs : ℕ) (s : Shows plan past runs aborted jobs)
    (node : ℕ) (lt : node < suc (count_of plan)) (run : NodeProgress) (r : run ≡ run_at runs node) where
  machine-is : run.machine ≡ (node_progress plan past node).machine
  machine-is = ap (λ (x : NodeProgress). x.machine) (r ∙ s.runs_are node lt)

  pub done-shown : (spec : NodeSpec) → spec ≡ node_at plan node → (spec.done || (is_none run.machine.phase && run.machine.good)) ≡ is_done plan past node
  done-shown spec e = (λ j. (e j).done || (is_none (machine-is j).phase && (machine-is j).good)) ∙ machine-done plan past s.lawful node

  pub next-shown : (spec : NodeSpec) → spec ≡ node_at plan node → (if spec.done then None else key_at node (next_of run.machine run.machine.phase)) ≡ next plan past node
  next-shown spec e = (λ j. if (e j).done then None else key_at node (next_of (machine-is j) (machine-is j).phase)) ∙ machine-next plan past s.lawful node

  pub value-shown : run.machine.value ≡ value_in plan past node
  value-shown = ap (λ (x : MachineState). x.value) machine-is ∙ machine-value plan past s.lawful node

  pub attempts-shown : attempts_ended run.machine ≡ attempts_in plan past node
  attempts-shown = ap attempts_ended machine-is ∙ machine-attempts plan past s.lawful node

pub key-node : (plan : Plan) (past : List Record) (node : ℕ) (key : Key) → next plan past node ≡ Some key → key.node ≡ node
key-node plan past node key e = go (node_at plan node).done refl
  where
    from : (o : Option (ℕ × Phase)) → key_at node o ≡ Some key → key.node ≡ node
    from None n = absurd cc
    from (Some p) n =
        let k : record { node = node; attempt = p.0; phase = p.1 } ≡ key = cc in
        λ j. (sym k j).node

    go : (b : Bool) → (node_at plan node).done ≡ b → key.node ≡ node
    go true h =
        let bad : None ≡ Some key = (λ j. if sym h j then None else key_at node (next_after (node_at plan node).course (history past node))) ∙ e in
        absurd cc
    go false h = from (next_after (node_at plan node).course (history past node)) ((λ j. if sym h j then None else key_at node (next_after (node_at plan node).course (history past node))) ∙ e)

-- the next phase of a node of the plan is free where none of its phases is outstanding
pub free-shown : (plan : Plan) (past : List Record) → is_lawful plan past ≡ true → (node : ℕ) (key : Key) → next plan past node ≡ Some key
    → is_free plan past (next plan past node) ≡ not (is_running plan past node)
free-shown plan past lawful node key e =
    ap (is_free plan past) e ∙ free-is plan past node key (sound plan past lawful).held e (key-node plan past node key e)

-- what holds of a core's records holds of what contracts see
pub lawful-seen : (inside : Progress) (seen : Progress) → inside ≡ seen → is_lawful inside.plan inside.past ≡ true → is_lawful seen.plan seen.past ≡ true
lawful-seen inside seen e h = subst (λ (v : Progress). is_lawful v.plan v.past ≡ true) e h
