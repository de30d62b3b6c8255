use Rattle.std.proofs.Common.{◌∙◌, [], ◌∷◌, ◌++◌, ap, sym}
use Rattle.node_machine.specs.declared.Course.{Course}
use Rattle.node_machine.specs.OutcomeTable.{outcome_at}
use Rattle.node_machine.specs.Story.{story, ends_with}
use Rattle.node_machine.specs.NodeProgress.{NodeProgress}
use Rattle.node_machine.specs.NodeRun.{ended_with}
use Rattle.sched_core.specs.Fate.{fate_by_story}
use Rattle.fate_audit.proofs.Plays.{played-more, played-less, played-over}
use Rattle.fate_audit.proofs.predictions.play.Goals as goal

pub returns-in-None : goal.returns-in-None
returns-in-None c =
    (λ j. record { state = c.state.ensures.is j; history = c.loop-run.history.items; attempts = c.attempts_ended.ensures.is j; value = c.last_value.ensures.is j })
    ∙ played-over (outcome_at c.args.table.now c.args.name.now) c.loop-run.run c.loop-run.history.items c.loop-run.invariant.1 (sym c.in-None.ensures.is)
    ∙ ap (λ (course : Course). fate_by_story (story course (outcome_at c.args.table.now c.args.name.now))) c.loop-run.invariant.0

pub loop-run-smaller : goal.loop-run-smaller
loop-run-smaller c =
    played-less (outcome_at c.args.table.now c.args.name.now) c.loop-run.run c.loop-run.history.items c.loop-run.invariant.1
    c.in-Some.attempt c.in-Some.phase (sym c.in-Some.ensures.is) _ (c.end_next.ensures ∙ ap (ended_with c.loop-run.run) c.get-outcome.ensures)

pub loop-run-preserved : goal.loop-run-preserved
loop-run-preserved c = (
  ap (λ (r : NodeProgress). r.course) c.end_next.ensures ∙ c.loop-run.invariant.0,
  played-more (outcome_at c.args.table.now c.args.name.now) c.loop-run.run c.loop-run.history.items c.loop-run.invariant.1
      c.in-Some.attempt c.in-Some.phase (sym c.in-Some.ensures.is) _ (c.end_next.ensures ∙ ap (ended_with c.loop-run.run) c.get-outcome.ensures)
      _ (c.in_ok-push-in-Some.ensures.items
      ∙ (λ j. c.loop-run.history.items ++ record {
        attempt = c.in-Some.attempt;
        phase = c.in-Some.phase;
        outcome = (c.ending.ensures ∙ (λ k. ends_with (sym c.loop-run.invariant.0 k) c.in-Some.phase (c.get-outcome.ensures k))) j;
      } ∷ [])),
)
