-- Launches after a launch change nothing of what is known of it.
use Rattle.std.proofs.Common.{◌≡◌, ℕ, Bool, true, false, ◌&&◌, ◌||◌, List, [], ◌∷◌, ◌++◌, refl, sym, ap, ◌∙◌, ◌==◌, eqb-true, if◌then◌else◌}
use Rattle.std.proofs.lemmas.Bool.{and_parts, false≢true, false_from_ne_true}
use Rattle.std.specs.List.{list_all}
use Rattle.node_machine.specs.declared.Phase.TheVariants.{Job}
use Rattle.node_machine.specs.declared.Key.{Key}
use Rattle.node_machine.specs.declared.Record.{Record}
use Rattle.node_machine.specs.declared.Record.TheVariants.{Life, Launch, End, Finish}
use Rattle.node_machine.specs.Story.{phase_number}
use Rattle.run_plan.specs.Plan.{Plan}
use Rattle.sched_core.specs.Run.{is_lawful, may_follow, is_among, is_same, is_aborted, outstanding}
use Rattle.sched_core.specs.Core.{is_running}
use Rattle.sched_core.specs.Commands.{facts_in, newest_launch, is_launch}
use Rattle.sched_core.proofs.Keys.{same-self}
use Rattle.sched_core.proofs.Sound.{sound}
use Rattle.sched_core.proofs.Held.{among-is, launched-idle}

-- a launch of one node's phase is no launch of another node's
apart : (other key : Key) (attempt : ℕ) → (other.node == key.node) ≡ false → (phase : ℕ)
    → ((other.node == key.node) && (other.attempt == attempt) && (phase_number other.phase == phase)) ≡ false
apart other key attempt ne phase = λ j. ne j && (other.attempt == attempt) && (phase_number other.phase == phase)

module _ (plan : Plan) (past : List Record) (key other : Key) (number : ℕ) where
  -- a phase is outstanding, so that what is launched is another node's
  other-node : is_lawful plan past ≡ true → is_among key (outstanding plan past) ≡ true → may_follow plan past (Launch other number) ≡ true
      → (other.node == key.node) ≡ false
  other-node lawful among follows =
      let runs : is_running plan past key.node ≡ true = (and_parts _ _ (sym (among-is plan past key (outstanding plan past) (sound plan past lawful).held) ∙ among)).0 in
      false_from_ne_true _ (λ same. false≢true (sym (launched-idle plan past other number lawful follows) ∙ ap (is_running plan past) (eqb-true other.node key.node same) ∙ runs))

  one-more : is_lawful plan past ≡ true → is_among key (outstanding plan past) ≡ true → may_follow plan past (Launch other number) ≡ true
      → facts_in plan (Launch other number ∷ past) key ≡ facts_in plan past key
  unfolding is_aborted
  one-more lawful among follows =
      let ne = other-node lawful among follows in
      λ j. record (facts_in plan past key) {
        launch = if apart other key key.attempt ne (phase_number key.phase) j then number else newest_launch past key;
        job_launch = if apart other key key.attempt ne 1 j then number else newest_launch past (record key { phase = Job });
      }

or-true : (a : Bool) → (a || true) ≡ true
or-true true = refl
or-true false = refl

-- after launches a launch is outstanding
still-runs : (plan : Plan) (others past : List Record) (key : Key) (number : ℕ) → list_all is_launch others ≡ true
    → is_among key (outstanding plan (others ++ Launch key number ∷ past)) ≡ true
still-runs plan [] past key number all = λ j. same-self key j || is_among key (outstanding plan past)
still-runs plan (Launch other n ∷ others) past key number all =
    (λ j. is_same key other || still-runs plan others past key number all j) ∙ or-true (is_same key other)
still-runs plan (Life ∷ others) past key number all = absurd (false≢true all)
still-runs plan (End other outcome ∷ others) past key number all = absurd (false≢true all)
still-runs plan (Finish status ∷ others) past key number all = absurd (false≢true all)

-- so several launches may be recorded before the first of them is handed over
pub together : (plan : Plan) (others past : List Record) (key : Key) (number : ℕ) → is_lawful plan (others ++ Launch key number ∷ past) ≡ true → list_all is_launch others ≡ true
    → facts_in plan (others ++ Launch key number ∷ past) key ≡ facts_in plan (Launch key number ∷ past) key
together plan [] past key number lawful all = refl
together plan (Launch other n ∷ others) past key number lawful all =
    let p = and_parts _ _ lawful in
    one-more plan (others ++ Launch key number ∷ past) key other n p.0 (still-runs plan others past key number all) p.1
    ∙ together plan others past key number p.0 all
together plan (Life ∷ others) past key number lawful all = absurd (false≢true all)
together plan (End other outcome ∷ others) past key number lawful all = absurd (false≢true all)
together plan (Finish status ∷ others) past key number lawful all = absurd (false≢true all)
