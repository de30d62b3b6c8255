use Rattle.std.proofs.Common.{◌≡◌, ◌∙◌, ◌<◌, ◌∷◌, ◌&&◌, not, Bool, true, false, nat_lt, lt-ltb, Result, Ok, Err, IsOk, OnOk, ap, sym, arith, rules, refl}
use Rattle.std.proofs.lemmas.Bool.{false_from_ne_true, false≢true, ltb-true}
use Rattle.node_machine.specs.declared.Record.TheVariants.{End}
use Rattle.node_machine.specs.NodeProgress.{NodeProgress}
use Rattle.node_machine.specs.NodeRun.{ended_with}
use Rattle.run_plan.specs.Plan.{count_of, node_at}
use Rattle.sched_core.specs.Run.{is_aborted, setting_is_met, has_abort_value}
use Rattle.sched_core.specs.Core.{node_progress}
use Rattle.sched_core.proofs.Held.{ended-runs}
use Rattle.sched_core.proofs.Ended.{aborted-own, own-value}
use Rattle.sched_core.proofs.scheduler.Core.aborts_with.Goals.{then-aborted-via-then-aborted, then-aborted-via-else-aborted+then-key-count}
use Rattle.sched_core.proofs.scheduler.Core.aborts_with.Goals as goal

from_ok : {T E : Type 0} (r : Result T E) (P : Type 0) → IsOk r → OnOk r P → P
from_ok (Ok x) P is p = p
from_ok (Err e) P is p = absurd (false≢true is)

and_false : (b : Bool) → false ≡ (b && false)
and_false true = refl
and_false false = refl

pub returns-then-aborted : goal.returns-then-aborted
returns-then-aborted c =
    let plan = c.args.self.now.plan in let past = c.args.self.now.past in let key = c.args.key.now in let outcome = c.args.outcome in
    elim c.then-aborted.branch [
      | then-aborted-via-then-aborted w ↦
          let flag : is_aborted plan past ≡ true = sym c.aborted.ensures ∙ w.if-aborted.true in
          and_false (is_aborted plan (End key outcome ∷ past)) ∙ (λ j. is_aborted plan (End key outcome ∷ past) && not (sym flag j))
      | then-aborted-via-else-aborted+then-key-count w ↦
          let flag : is_aborted plan past ≡ false = sym c.aborted.ensures ∙ w.if-aborted.false in
          let high = w.if-key-count.true in
          let last = w.count.ensures.is ∙ ap count_of c.plan-plan.ensures in
          let low : nat_lt key.node (count_of plan) ≡ false = false_from_ne_true _ (λ t. let l = ltb-true key.node (count_of plan) t in absurd (omega (arith, l, high, last))) in
          (λ j. sym low j && has_abort_value plan (End key outcome ∷ past) key.node && not (is_aborted plan past))
          ∙ (λ j. sym (aborted-own plan past key outcome flag) j && not (is_aborted plan past))
    ]

pub returns : goal.returns
returns c =
    let plan = c.args.self.now.plan in let past = c.args.self.now.past in let key = c.args.key.now in let outcome = c.args.outcome in
    let flag : is_aborted plan past ≡ false = sym c.aborted.ensures ∙ c.if-aborted.false in
    let last = c.count.ensures.is ∙ ap count_of c.plan-plan.ensures in
    let low = c.if-key-count.false in
    let inside : key.node < count_of plan = omega (arith, low, last) in
    let own : c.state_of-run.result.run ≡ node_progress plan past key.node = c.state_of-run.ensures.run in
    let runs : c.state_of-run.result.run.running ≡ true = ap (λ (r : NodeProgress). r.running) own ∙ ended-runs plan past key outcome c.keeps_the_law.ensures c.requires in
    let run : c.ended.new.self ≡ ended_with (node_progress plan past key.node) outcome =
    from_ok c.ended.result _ (c.ended.ensures.running.1 runs) c.ended.ensures.steps ∙ ap (λ (r : NodeProgress). ended_with r outcome) own in
    let value = c.last_value.ensures.is ∙ ap (λ (r : NodeProgress). r.machine.value) run ∙ own-value plan past c.keeps_the_law.ensures key outcome c.requires in
    let setting : c.course.result.now.abort_on ≡ (node_at plan key.node).course.abort_on = search rules in
    let shut : true ≡ not (is_aborted plan past) = λ j. not (sym flag j) in
    c.is_met_by.ensures ∙ (λ j. setting_is_met (setting j) (value j))
    ∙ (λ j. (sym (lt-ltb key.node (count_of plan) inside) j && has_abort_value plan (End key outcome ∷ past) key.node))
    ∙ sym (aborted-own plan past key outcome flag)
    ∙ and_true (is_aborted plan (End key outcome ∷ past))
    ∙ (λ j. is_aborted plan (End key outcome ∷ past) && shut j)
  where
    and_true : (b : Bool) → b ≡ (b && true)
    and_true true = refl
    and_true false = refl
