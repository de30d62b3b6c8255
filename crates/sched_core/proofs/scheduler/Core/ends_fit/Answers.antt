use Rattle.std.proofs.Common.{◌≡◌, ◌∙◌, ℕ, ◌+◌, ◌<◌, ◌&&◌, not, Bool, true, false, List, ◌∷◌, ◌++◌, length, get_or, take, drop, Some, None, ap, sym, arith, refl}
use Rattle.std.proofs.lemmas.List.{append-nil, length-take-le, take_all, take_more, drop_more, take-append-drop}
use Rattle.node_machine.specs.declared.Key.{Key}
use Rattle.node_machine.specs.declared.Outcome.{Outcome}
use Rattle.node_machine.specs.declared.Phase.TheVariants.{Pre}
use Rattle.node_machine.specs.declared.Outcome.TheVariants.{Exit}
use Rattle.node_machine.specs.declared.Record.{Record}
use Rattle.node_machine.specs.declared.Record.TheVariants.{End}
use Rattle.run_plan.specs.Plan.{Plan}
use Rattle.sched_core.specs.Run.{may_follow, is_among, is_lawful}
use Rattle.sched_core.specs.Looks.{stops}
use Rattle.sched_core.specs.Ahead.{added, fitting, ends_of, ended_in}
use Rattle.sched_core.proofs.Ended.{goes_on, behind, follows-behind, stops-behind, on-more, all-fit, next-unfit, next-stops}
use Rattle.sched_core.proofs.scheduler.Core.ends_fit.Goals.{then-has_ended-via-then-has_ended, then-has_ended-via-else-has_ended+then-not-fits}
use Rattle.sched_core.proofs.scheduler.Core.ends_fit.Goals as goal

abbrev some : Key × Outcome
some = (record { node = 0; attempt = 0; phase = Pre }, Exit 0)

-- the endings before a place, the one there, and those after it
parted : (ends : List (Key × Outcome)) (place : ℕ) → place < length ends → ends ≡ take place ends ++ get_or ends place some ∷ drop (place + 1) ends
parted ends place inside = sym (take-append-drop place ends) ∙ ap (λ (l : List (Key × Outcome)). take place ends ++ l) (drop_more ends place some inside)

and_false : (b : Bool) → (b && false) ≡ false
and_false true = refl
and_false false = refl

and_true : (b : Bool) → (b && true) ≡ b
and_true true = refl
and_true false = refl

module _ (plan : Plan) (past : List Record) (ends : List (Key × Outcome)) (place : ℕ) (lawful : is_lawful plan past ≡ true) (on : goes_on plan past (take place ends) ≡ true) where
  abbrev front : List (Key × Outcome)
  front = take place ends

  abbrev end : Key × Outcome
  end = get_or ends place some

  abbrev now : List Record
  now = added past (ends_of front)

  at : may_follow plan now (End end.0 end.1) ≡ (may_follow plan past (End end.0 end.1) && not (is_among end.0 (ended_in front)))
  at = follows-behind plan past front now (behind plan past front lawful on) end.0 end.1

  unfit : place < length ends → may_follow plan now (End end.0 end.1) ≡ false → None ≡ fitting plan past (ends_of ends)
  unfit inside bad = sym (ap (λ (l : List (Key × Outcome)). fitting plan past (ends_of l)) (parted ends place inside) ∙ next-unfit plan past front (drop (place + 1) ends) end on bad)

  pub ended-before : place < length ends → is_among end.0 (ended_in front) ≡ true → None ≡ fitting plan past (ends_of ends)
  ended-before inside among = unfit inside (at ∙ (λ j. may_follow plan past (End end.0 end.1) && not (among j)) ∙ and_false (may_follow plan past (End end.0 end.1)))

  pub refused : place < length ends → may_follow plan past (End end.0 end.1) ≡ false → None ≡ fitting plan past (ends_of ends)
  refused inside bad = unfit inside (at ∙ (λ j. bad j && not (is_among end.0 (ended_in front))))

  module _ (inside : place < length ends) (apart : is_among end.0 (ended_in front) ≡ false) (good : may_follow plan past (End end.0 end.1) ≡ true) where
    follows : may_follow plan now (End end.0 end.1) ≡ true
    follows = at ∙ (λ j. good j && not (apart j))

    stopped : stops plan now (End end.0 end.1) ≡ stops plan past (End end.0 end.1)
    stopped = stops-behind plan past front now (behind plan past front lawful on) end.0 end.1 follows

    front-long : length front ≡ place
    front-long = length-take-le place ends (omega (arith, inside))

    pub aborting : stops plan past (End end.0 end.1) ≡ true → Some (place + 1) ≡ fitting plan past (ends_of ends)
    aborting is =
        sym (ap (λ (l : List (Key × Outcome)). fitting plan past (ends_of l)) (parted ends place inside)
        ∙ next-stops plan past front (drop (place + 1) ends) end on follows (stopped ∙ is)
        ∙ ap (λ (n : ℕ). Some (n + 1)) front-long)

    pub going : stops plan past (End end.0 end.1) ≡ false → goes_on plan past (take (place + 1) ends) ≡ true
    going is = ap (goes_on plan past) (take_more ends place some inside) ∙ on-more plan past front end on follows (stopped ∙ is)

pub loop-place-init : goal.loop-place-init
unfolding goes_on
loop-place-init c = record { inside = omega arith; on = refl }

pub returns-then-has_ended : goal.returns-then-has_ended
returns-then-has_ended c =
    let plan = c.args.self.now.plan in let past = c.args.self.now.past in let ends = c.args.ends.now in let place = c.loop-place.place in
    let lawful = c.keeps_the_law.ensures in let on = c.loop-place.invariant.on in let inside = c.loop-place-test.true in
    let among : c.has_ended.result ≡ is_among (get_or ends place some).0 (ended_in (take place ends)) =
    c.has_ended.ensures ∙ ap (λ (l : List (Key × Outcome)). is_among (get_or ends place some).0 (ended_in l)) c.split_at.ensures.front in
    elim c.then-has_ended.branch [
      | then-has_ended-via-then-has_ended w ↦ ended-before plan past ends place lawful on inside (sym among ∙ w.if-has_ended.true)
      | then-has_ended-via-else-has_ended+then-not-fits w ↦ refused plan past ends place lawful on inside (sym w.fits.ensures ∙ w.if-not-fits.true)
    ]

pub returns-then-aborts_with : goal.returns-then-aborts_with
returns-then-aborts_with c =
    let plan = c.args.self.now.plan in let past = c.args.self.now.past in let ends = c.args.ends.now in let place = c.loop-place.place in
    let among : c.has_ended.result ≡ is_among (get_or ends place some).0 (ended_in (take place ends)) =
    c.has_ended.ensures ∙ ap (λ (l : List (Key × Outcome)). is_among (get_or ends place some).0 (ended_in l)) c.split_at.ensures.front in
    aborting plan past ends place c.keeps_the_law.ensures c.loop-place.invariant.on c.loop-place-test.true (sym among ∙ c.if-has_ended.false)
    (sym c.fits.ensures ∙ c.if-not-fits.false) (sym c.aborts_with.ensures ∙ c.if-aborts_with.true)

pub loop-place-preserved : goal.loop-place-preserved
loop-place-preserved c =
    let plan = c.args.self.now.plan in let past = c.args.self.now.past in let ends = c.args.ends.now in let place = c.loop-place.place in
    let inside = c.loop-place-test.true in
    let among : c.has_ended.result ≡ is_among (get_or ends place some).0 (ended_in (take place ends)) =
    c.has_ended.ensures ∙ ap (λ (l : List (Key × Outcome)). is_among (get_or ends place some).0 (ended_in l)) c.split_at.ensures.front in
    record {
      inside = omega (arith, inside);
      on = going plan past ends place c.keeps_the_law.ensures c.loop-place.invariant.on inside (sym among ∙ c.if-has_ended.false)
          (sym c.fits.ensures ∙ c.if-not-fits.false) (sym c.aborts_with.ensures ∙ c.if-aborts_with.false);
    }

pub returns : goal.returns
returns c =
    let plan = c.args.self.now.plan in let past = c.args.self.now.past in let ends = c.args.ends.now in let place = c.loop-place.place in
    let within = c.loop-place.invariant.inside in
    let outside = c.loop-place-test.false in
    let all : place ≡ length ends = omega (arith, within, outside) in
    let whole : take place ends ≡ ends = ap (λ (n : ℕ). take n ends) all ∙ take_all (length ends) ends (omega arith) in
    sym (ap (λ (l : List (Key × Outcome)). fitting plan past (ends_of l)) (sym (append-nil ends))
    ∙ all-fit plan past ends (ap (goes_on plan past) (sym whole) ∙ c.loop-place.invariant.on)
    ∙ ap (λ (n : ℕ). Some n) (omega (arith, all)))
