-- While FINAL runs nothing else does, and after an abort nothing but FINAL.
use Rattle.std.proofs.Common.{◌≡◌, ℕ, suc, ◌<◌, ◌≤◌, Bool, true, false, not, ◌&&◌, ◌||◌, List, [], ◌∷◌, ◌==◌, Option, Some, None, is_some, refl, sym, ap, ◌∙◌, arith, eqb-true, if◌then◌else◌}
use Rattle.std.specs.Prelude.{nat_lt, nat_le}
use Rattle.std.specs.List.{list_all}
use Rattle.std.proofs.lemmas.Bool.{and_parts, and_from, not-true, ltb-true, ne_eqb, leb-true, le-leb, or_right, false≢true}
use Rattle.node_machine.specs.declared.Outcome.{Outcome}
use Rattle.node_machine.specs.declared.Key.{Key}
use Rattle.run_plan.specs.Plan.{Plan, count_of, all_below}
use Rattle.node_machine.specs.declared.Record.{Record}
use Rattle.node_machine.specs.declared.Record.TheVariants.{Life, Launch, End, Finish}
use Rattle.sched_core.specs.Run.{next, outstanding, without, is_same, is_among, is_free, is_aborted, may_follow, may_launch, is_ready, is_final_ready, is_lawful}
use Rattle.sched_core.specs.Core.{is_running, has_key_of}
use Rattle.sched_core.proofs.Keys.{Each, each_among}
use Rattle.sched_core.proofs.Sweeps.{all_below-from}
use Rattle.sched_core.proofs.Finished.{all_below-at}
use Rattle.sched_core.proofs.Sound.{Held, sound, end-among}
use Rattle.sched_core.proofs.Held.{without-own, end-within}

abbrev pub no_ordinary : Plan → List Key → Bool
no_ordinary plan keys = list_all (λ (key : Key). nat_le (count_of plan) key.node) keys

abbrev pub final_runs : Plan → List Record → Bool
final_runs plan past = is_running plan past (count_of plan)

pub record Alone (plan : Plan) (past : List Record) : Type 0 where
  pub aborted : is_aborted plan past ≡ true → no_ordinary plan (outstanding plan past) ≡ true
  pub others : final_runs plan past ≡ true → no_ordinary plan (outstanding plan past) ≡ true
  pub turn : final_runs plan past ≡ true → (is_aborted plan past || all_below (λ node. not (is_ready plan past node)) (count_of plan)) ≡ true
  pub some : final_runs plan past ≡ true → is_some plan.final_node ≡ true

without-fewer : (node : ℕ) (key : Key) (keys : List Key) → has_key_of node (without key keys) ≡ true → has_key_of node keys ≡ true
without-fewer node key [] h = h
without-fewer node key (other ∷ keys) h = go (is_same key other) h (without-fewer node key keys)
  where
    on : (c : Bool) → (c || has_key_of node (without key keys)) ≡ true → (has_key_of node (without key keys) ≡ true → has_key_of node keys ≡ true) → (c || has_key_of node keys) ≡ true
    on true h rest = refl
    on false h rest = rest h

    go : (b : Bool) → has_key_of node (if b then without key keys else other ∷ without key keys) ≡ true
        → (has_key_of node (without key keys) ≡ true → has_key_of node keys ≡ true) → ((other.node == node) || has_key_of node keys) ≡ true
    go true h rest = or_right (other.node == node) _ (rest h)
    go false h rest = on (other.node == node) h rest

without-all : (plan : Plan) (key : Key) (keys : List Key) → no_ordinary plan keys ≡ true → no_ordinary plan (without key keys) ≡ true
without-all plan key [] h = refl
without-all plan key (other ∷ keys) h = go (is_same key other) (without-all plan key keys p.1)
  where
    p : (nat_le (count_of plan) other.node ≡ true) × (no_ordinary plan keys ≡ true)
    p = and_parts (nat_le (count_of plan) other.node) (no_ordinary plan keys) h

    go : (b : Bool) → no_ordinary plan (without key keys) ≡ true → no_ordinary plan (if b then without key keys else other ∷ without key keys) ≡ true
    go true rest = rest
    go false rest = and_from _ _ p.0 rest

pub among-ordinary : (plan : Plan) (key : Key) (keys : List Key) → no_ordinary plan keys ≡ true → is_among key keys ≡ true → count_of plan ≤ key.node
among-ordinary plan key keys all among = each_among (λ (k : Key). count_of plan ≤ k.node) key keys (each keys all) among
  where
    each : (keys : List Key) → no_ordinary plan keys ≡ true → Each (λ (k : Key). count_of plan ≤ k.node) keys
    each [] h = tt
    each (k ∷ keys) h = let p = and_parts (nat_le (count_of plan) k.node) (no_ordinary plan keys) h in (leb-true (count_of plan) k.node p.0, each keys p.1)

alone-empty : (plan : Plan) (past : List Record) → outstanding plan past ≡ [] → Alone plan past
alone-empty plan past e = record {
  aborted = λ h. ap (no_ordinary plan) e;
  others = λ h. ap (no_ordinary plan) e;
  turn = λ h. absurd (idle h);
  some = λ h. absurd (idle h);
}
  where
    idle : final_runs plan past ≡ true → ⊥
    idle h = false≢true (sym (ap (has_key_of (count_of plan)) e) ∙ h)

-- a launch makes nothing ready
pub ready-before : (plan : Plan) (past : List Record) (key : Key) (number node : ℕ) → is_ready plan (Launch key number ∷ past) node ≡ true → is_ready plan past node ≡ true
unfolding is_ready is_aborted
ready-before plan past key number node h = and_from _ _ (and_parts _ _ h).0 (free (next plan past node) (and_parts _ _ h).1)
  where
    free : (o : Option Key) → is_free plan (Launch key number ∷ past) o ≡ true → is_free plan past o ≡ true
    free None f = f
    free (Some k) f = go (is_same k key) f
      where
        go : (b : Bool) → not (b || is_among k (outstanding plan past)) ≡ true → not (is_among k (outstanding plan past)) ≡ true
        go true f = absurd (false≢true f)
        go false f = f

module _ (plan : Plan) (past : List Record) (a : Alone plan past) (key : Key) (number : ℕ) where
  -- an ordinary phase is launched
  module _ (lt : key.node < count_of plan) (ready : is_ready plan past key.node ≡ true) where
    abort_free : is_aborted plan past ≡ false
    unfolding is_ready
    abort_free = not-true _ (and_parts _ _ (and_parts _ _ ready).0).0

    no-final : final_runs plan past ≡ true → ⊥
    no-final h = false≢true (sym (ap not ready) ∙ all_below-at (λ node. not (is_ready plan past node)) (count_of plan) (abort_free-turn (is_aborted plan past) abort_free (a.turn h)) key.node lt)
      where
        abort_free-turn : (b : Bool) → b ≡ false → (b || all_below (λ node. not (is_ready plan past node)) (count_of plan)) ≡ true → all_below (λ node. not (is_ready plan past node)) (count_of plan) ≡ true
        abort_free-turn true e h = absurd (false≢true (sym e))
        abort_free-turn false e h = h

    other : (key.node == count_of plan) ≡ false
    other = ne_eqb key.node (count_of plan) (λ e. omega arith)

    still : final_runs plan (Launch key number ∷ past) ≡ true → ⊥
    still h = no-final ((λ j. sym other j || has_key_of (count_of plan) (outstanding plan past)) ∙ h)

    alone-ordinary : Alone plan (Launch key number ∷ past)
    unfolding is_aborted
    alone-ordinary = record {
      aborted = λ h. absurd (false≢true (sym abort_free ∙ h));
      others = λ h. absurd (still h);
      turn = λ h. absurd (still h);
      some = λ h. absurd (still h);
    }

  -- FINAL's phase is launched
  module _ (is : key.node ≡ count_of plan) (ready : is_final_ready plan past ≡ true) where
    abbrev nothing_ready : List Record → Bool
    nothing_ready records = all_below (λ node. not (is_ready plan records node)) (count_of plan)

    parts : (is_some plan.final_node ≡ true) × (no_ordinary plan (outstanding plan past) ≡ true) × ((is_aborted plan past || nothing_ready past) ≡ true)
    unfolding is_final_ready
    parts =
        let p = and_parts _ (is_aborted plan past || nothing_ready past) ready in
        let q = and_parts _ (no_ordinary plan (outstanding plan past)) p.0 in
        ((and_parts (is_some plan.final_node) _ q.0).0, q.1, p.1)

    all : no_ordinary plan (key ∷ outstanding plan past) ≡ true
    all = and_from _ _ (le-leb (count_of plan) key.node (omega arith)) parts.1

    still-none : nothing_ready past ≡ true → nothing_ready (Launch key number ∷ past) ≡ true
    still-none h = all_below-from (λ node. not (is_ready plan (Launch key number ∷ past) node)) (count_of plan) (λ node lt. go node lt (is_ready plan (Launch key number ∷ past) node) refl)
      where
        go : (node : ℕ) → node < count_of plan → (b : Bool) → is_ready plan (Launch key number ∷ past) node ≡ b → not (is_ready plan (Launch key number ∷ past) node) ≡ true
        go node lt false e = ap not e
        go node lt true e = absurd (false≢true (sym (ap not (ready-before plan past key number node e)) ∙ all_below-at (λ n. not (is_ready plan past n)) (count_of plan) h node lt))

    alone-final : Alone plan (Launch key number ∷ past)
    unfolding is_aborted
    alone-final = record {
      aborted = λ h. all;
      others = λ h. all;
      turn = λ h. go (is_aborted plan past) parts.2;
      some = λ h. parts.0;
    }
      where
        go : (b : Bool) → (b || nothing_ready past) ≡ true → (b || nothing_ready (Launch key number ∷ past)) ≡ true
        go true h = refl
        go false h = still-none h

module _ (plan : Plan) (past : List Record) (lawful : is_lawful plan past ≡ true) (a : Alone plan past) (key : Key) (outcome : Outcome)
    (h : may_follow plan past (End key outcome) ≡ true) where
  among : is_among key (outstanding plan past) ≡ true
  among = (end-among plan past key outcome h).0

  held : Held plan past key
  held = each_among (Held plan past) key (outstanding plan past) (sound plan past lawful).held among

  -- FINAL's phase is over, if it ran
  over : (b : Bool) → has_key_of (count_of plan) (if b then [] else without key (outstanding plan past)) ≡ true → ⊥
  over true e = false≢true e
  over false e =
      let ran : final_runs plan past ≡ true = without-fewer (count_of plan) key (outstanding plan past) e in
      let low : count_of plan ≤ key.node = among-ordinary plan key (outstanding plan past) (a.others ran) among in
      let high : key.node < suc (count_of plan) = end-within plan past key outcome lawful h in
      let is : key.node ≡ count_of plan = omega arith in
      false≢true (sym (without-own plan past key held.is_next (outstanding plan past) (sound plan past lawful).held) ∙ ap (λ n. has_key_of n (without key (outstanding plan past))) is ∙ e)

  rest : (b : Bool) → (is_aborted plan (End key outcome ∷ past) && not (is_aborted plan past)) ≡ b → is_aborted plan (End key outcome ∷ past) ≡ true
      → no_ordinary plan (if b then [] else without key (outstanding plan past)) ≡ true
  rest true e now = refl
  rest false e now = without-all plan key (outstanding plan past) (a.aborted (was (is_aborted plan past) ((λ j. sym now j && not (is_aborted plan past)) ∙ e)))
    where
      was : (b : Bool) → not b ≡ false → b ≡ true
      was true e = refl
      was false e = absurd (false≢true (sym e))

  alone-end : Alone plan (End key outcome ∷ past)
  alone-end = record {
    aborted = λ now. rest (is_aborted plan (End key outcome ∷ past) && not (is_aborted plan past)) refl now;
    others = λ e. absurd (over (is_aborted plan (End key outcome ∷ past) && not (is_aborted plan past)) e);
    turn = λ e. absurd (over (is_aborted plan (End key outcome ∷ past) && not (is_aborted plan past)) e);
    some = λ e. absurd (over (is_aborted plan (End key outcome ∷ past) && not (is_aborted plan past)) e);
  }

pub launched-turn : (plan : Plan) (past : List Record) (key : Key) (number : ℕ) → may_follow plan past (Launch key number) ≡ true → may_launch plan past key.node ≡ true
unfolding may_follow
launched-turn plan past key number h = (and_parts _ _ (and_parts _ _ (and_parts _ _ h).0).0).1

alone-launch : (plan : Plan) (past : List Record) → Alone plan past → (key : Key) (number : ℕ) → may_launch plan past key.node ≡ true → Alone plan (Launch key number ∷ past)
unfolding may_launch
alone-launch plan past a key number h = go (nat_lt key.node (count_of plan)) refl
  where
    go : (b : Bool) → nat_lt key.node (count_of plan) ≡ b → Alone plan (Launch key number ∷ past)
    go true lt =
        alone-ordinary plan past a key number (ltb-true key.node (count_of plan) lt)
        ((λ j. if sym lt j then is_ready plan past key.node else (key.node == count_of plan) && is_final_ready plan past) ∙ h)
    go false ge =
        let p = and_parts (key.node == count_of plan) (is_final_ready plan past) ((λ j. if sym ge j then is_ready plan past key.node else (key.node == count_of plan) && is_final_ready plan past) ∙ h) in
        alone-final plan past a key number (eqb-true key.node (count_of plan) p.0) p.1

alone-finish : (plan : Plan) (past : List Record) (status : ℕ) → Alone plan past → Alone plan (Finish status ∷ past)
unfolding is_aborted is_ready
alone-finish plan past status a = record { aborted = a.aborted; others = a.others; turn = a.turn; some = a.some }

pub alone : (plan : Plan) (past : List Record) → is_lawful plan past ≡ true → Alone plan past
alone plan [] h = alone-empty plan [] refl
alone plan (Life ∷ past) h = alone-empty plan (Life ∷ past) refl
alone plan (Launch key number ∷ past) h =
    let p = and_parts (is_lawful plan past) (may_follow plan past (Launch key number)) h in
    alone-launch plan past (alone plan past p.0) key number (launched-turn plan past key number p.1)
alone plan (End key outcome ∷ past) h =
    let p = and_parts (is_lawful plan past) (may_follow plan past (End key outcome)) h in
    alone-end plan past p.0 (alone plan past p.0) key outcome p.1
alone plan (Finish status ∷ past) h =
    let p = and_parts (is_lawful plan past) (may_follow plan past (Finish status)) h in
    alone-finish plan past status (alone plan past p.0)
