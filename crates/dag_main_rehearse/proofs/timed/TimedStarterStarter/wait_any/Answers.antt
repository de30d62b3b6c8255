use Rattle.std.proofs.Common.{◌≡◌, List, Option, refl, sym, ap, ◌∙◌, subst}
use Rattle.std.specs.Prelude.{IsTrue}
use Rattle.std.specs.Option.{option_map}
use Rattle.std.proofs.lemmas.Bool.{false≢true}
use Rattle.node_machine.specs.declared.Outcome.{Outcome}
use Rattle.node_machine.specs.Story.{is_possible}
use Rattle.sched_core.specs.Run.{is_among}
use Rattle.job_starter_drive.specs.Causes.{no_child_runs}
use Rattle.dag_main_rehearse.specs.declared.timeline.Child.{Child}
use Rattle.dag_main_rehearse.specs.declared.timetable.Timing.{Timing}
use Rattle.dag_main_rehearse.specs.Timed.{Moment, timings_of, next_to_end}
use Rattle.dag_main_rehearse.proofs.Times.{told-among, none-running}
use Rattle.dag_main_rehearse.proofs.timed.TimedStarterStarter.wait_any.Goals as goal

pub returns-in_default-clause-err : goal.returns-in_default-clause-err
returns-in_default-clause-err c =
    let children = ap (λ (moment : Moment). moment.children) c.args.self.now.in_time in
    no_child_runs (none-running (timings_of c.args.self.now.timetable.now) c.args.self.now.log.calls _ children (sym c.next.ensures ∙ c.in_default.is)) refl

pub ended-requires : goal.ended-requires
ended-requires c =
    let children = ap (λ (moment : Moment). moment.children) c.args.self.now.in_time in
    told-among (timings_of c.args.self.now.timetable.now) c.args.self.now.log.calls _ c.in-Some.child children (sym c.next.ensures ∙ c.in-Some.is)

pub returns-clause-ended : goal.returns-clause-ended
returns-clause-ended c =
    let timings = timings_of c.args.self.now.timetable.now in
    let children = ap (λ (moment : Moment). moment.children) c.args.self.now.in_time in
    let found = sym c.next.ensures ∙ c.in-Some.is in
    let outcome = ap (λ (timing : Timing). timing.outcome) c.timing-outcome.ensures in
    record {
      entry = c.ended.ensures;
      ran = told-among timings c.args.self.now.log.calls _ c.in-Some.child children found;
      may_be = record {
        by_timing = outcome;
        next = λ ran. ap (λ (all : List Child). option_map (λ (child : Child). child.key) (next_to_end all)) (sym children) ∙ ap (option_map (λ (child : Child). child.key)) found;
      };
      possible = subst (λ (one : Outcome). IsTrue (is_possible one)) (sym outcome) (c.args.self.now.possible c.in-Some.child.key);
      halt = λ seen. false≢true (sym c.args.self.now.unhalted ∙ seen);
    }

pub returns-clause-idle : goal.returns-clause-idle
returns-clause-idle c = λ idle.
    let children = ap (λ (moment : Moment). moment.children) c.args.self.now.in_time in
    let ran = told-among (timings_of c.args.self.now.timetable.now) c.args.self.now.log.calls _ c.in-Some.child children (sym c.next.ensures ∙ c.in-Some.is) in
    absurd (false≢true (sym (ap (is_among c.in-Some.child.key) idle) ∙ ran))
