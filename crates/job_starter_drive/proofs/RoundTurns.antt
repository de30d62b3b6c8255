-- What a round, or an ending, makes of a run.
use Rattle.std.proofs.Common.{◌≡◌, Bool, true, false, not, ◌&&◌, List, [], refl, sym, ◌∙◌, subst}
use Rattle.std.specs.List.{list_all}
use Rattle.std.proofs.lemmas.Bool.{and_parts, not-true, false≢true}
use Rattle.node_machine.specs.declared.Key.{Key}
use Rattle.node_machine.specs.declared.Outcome.{Outcome}
use Rattle.throttles.specs.declared.Limits.{Limits}
use Rattle.run_plan.specs.Plan.{Plan}
use Rattle.node_machine.specs.declared.Record.{Record}
use Rattle.sched_core.specs.Run.{is_open, is_lawful, is_aborted}
use Rattle.sched_core.specs.Ahead.{launched, added, up_to_abort, ends_of}
use Rattle.job_starter_drive.specs.declared.Call.{Call}
use Rattle.job_starter_drive.specs.Calls.{running, AsksForHalt, Telling}
use Rattle.job_starter_drive.specs.Drives.{AreInStep, AreUnderWay, IsRoundOf, IsTurn, is_aborted_between}
use Rattle.job_starter_drive.proofs.Turns.{launch-all, end-all}
use Rattle.job_starter_drive.proofs.Walks.{step-asked}
use Rattle.job_starter_drive.proofs.Ways.{starting}

-- what is owed is recorded
pub ends-turn : (plan : Plan) (past : List Record) (later_log : List Call) (owed : List (Key × Outcome)) → is_lawful plan past ≡ true → is_open past ≡ true
    → AreUnderWay plan past later_log [] owed → IsTurn plan past (added past (up_to_abort plan past (ends_of owed))) later_log
ends-turn plan past later_log owed lawful going way =
    let all = end-all plan past (running later_log) owed lawful going way.same way.ends in
    record {
      going = all.going;
      in_step = λ on. record {
        same = sym (all.kept on);
        children = subst (λ (l : List Key). list_all (starting plan) l ≡ true) (sym (all.kept on)) way.children;
      };
      at_last = all.at_last;
      empty = all.empty;
      stays = all.stays;
    }

-- a turn of a run that was aborted earlier, or not, just as it is
pub turn-before : (plan : Plan) (past between after : List Record) (last : List Call) → is_aborted plan between ≡ is_aborted plan past → IsTurn plan between after last → IsTurn plan past after last
turn-before plan past between after last abort_free turn =
    let same = λ (b : Bool) (e : is_aborted_between plan past after ≡ b). (λ j. not (abort_free j) && is_aborted plan after) ∙ e in
    record {
      going = turn.going;
      in_step = λ on. turn.in_step (same false on);
      at_last = λ stop. turn.at_last (same true stop);
      empty = λ stop. turn.empty (same true stop);
      stays = λ was. turn.stays (abort_free ∙ was);
    }

pub round-turn : (limits : Limits) (plan : Plan) (past : List Record) (keys : List Key) (later_log : List Call) (owed : List (Key × Outcome)) → is_lawful plan past ≡ true → is_open past ≡ true
    → IsRoundOf limits plan past keys → AreUnderWay plan (launched past keys) later_log [] owed
    → IsTurn plan past (added (launched past keys) (up_to_abort plan (launched past keys) (ends_of owed))) later_log
round-turn limits plan past keys later_log owed lawful going round way =
    let all = launch-all limits plan past keys lawful going round.chosen in
    turn-before plan past (launched past keys) (added (launched past keys) (up_to_abort plan (launched past keys) (ends_of owed))) later_log all.abort_free
    (ends-turn plan (launched past keys) later_log owed all.lawful all.going way)

not-self : (a : Bool) → (not a && a) ≡ false
not-self true = refl
not-self false = refl

-- nothing was done, or what was done didn't abort it
pub turn-still : (plan : Plan) (past after : List Record) (last : List Call) → is_open after ≡ true → AreInStep plan after last → is_aborted plan after ≡ is_aborted plan past → IsTurn plan past after last
turn-still plan past after last going step abort_free =
    let none : is_aborted_between plan past after ≡ false = (λ j. not (is_aborted plan past) && abort_free j) ∙ not-self (is_aborted plan past) in
    record {
      going = going;
      in_step = λ on. step;
      at_last = λ stop. absurd (false≢true (sym none ∙ stop));
      empty = λ stop. absurd (false≢true (sym none ∙ stop));
      stays = λ was. abort_free ∙ was;
    }

-- so it is where the starter was asked for a halt after it
pub turn-asked : (may : Telling) (plan : Plan) (past after : List Record) (last later_log : List Call) → AsksForHalt may last later_log → IsTurn plan past after last → IsTurn plan past after later_log
turn-asked may plan past after last later_log asked turn = record {
  going = turn.going;
  in_step = λ on. step-asked may plan after last later_log asked (turn.in_step on);
  at_last = turn.at_last;
  empty = turn.empty;
  stays = turn.stays;
}

-- where a turn didn't abort the run, it is aborted as it was
pub turn-abort_free : (plan : Plan) (past after : List Record) (last : List Call) → IsTurn plan past after last → is_aborted_between plan past after ≡ false → is_aborted plan after ≡ is_aborted plan past
turn-abort_free plan past after last turn on = go (is_aborted plan past) refl (is_aborted plan after) refl
  where
    go : (a : Bool) → is_aborted plan past ≡ a → (b : Bool) → is_aborted plan after ≡ b → is_aborted plan after ≡ is_aborted plan past
    go true was b is = turn.stays was ∙ sym was
    go false was false is = is ∙ sym was
    go false was true is = absurd (false≢true (sym on ∙ (λ j. not (was j) && is j)))

-- where it did, it was not before
pub turn-stops : (plan : Plan) (past after : List Record) → is_aborted_between plan past after ≡ true → is_aborted plan past ≡ false
turn-stops plan past after stop = not-true _ (and_parts _ _ stop).0

-- once all that ran is killed, the children that run are the outstanding phases
pub turn-killed : (plan : Plan) (past after : List Record) (last killed : List Call) → IsTurn plan past after last → is_aborted_between plan past after ≡ true → running killed ≡ [] → AreInStep plan after killed
turn-killed plan past after last killed turn stop none = record {
  same = none ∙ sym (turn.empty stop);
  children = subst (λ (l : List Key). list_all (starting plan) l ≡ true) (sym (turn.empty stop)) refl;
}
