-- Endings that are recorded one after another: what one may do once those before it are recorded.
use Rattle.std.proofs.Common.{◌≡◌, ℕ, ◌+◌, ◌<◌, Bool, true, false, not, ◌&&◌, ◌||◌, List, [], ◌∷◌, ◌++◌, length, Option, Some, None, ◌==◌, refl, sym, ap, ◌∙◌, subst, arith, eq-eqb, eqb-true, if◌then◌else◌, nat_lt, lt-ltb}
use Rattle.std.proofs.lemmas.Bool.{and_parts, and_from, false≢true, not-true, ltb-true}
use Rattle.node_machine.specs.declared.Key.{Key}
use Rattle.node_machine.specs.declared.Outcome.{Outcome}
use Rattle.node_machine.specs.declared.Record.{Record}
use Rattle.node_machine.specs.declared.Record.TheVariants.{End}
use Rattle.node_machine.specs.Story.{is_possible, may_end_with, value_after}
use Rattle.node_machine.specs.declared.Course.{Course}
use Rattle.node_machine.specs.declared.MachineState.{MachineState}
use Rattle.node_machine.specs.MachineState.{machine_before, machine_step, machine_after}
use Rattle.node_machine.specs.NodeRun.{counted_at, ended_with}
use Rattle.node_machine.proofs.Trees.{got}
use Rattle.node_machine.proofs.Paces.{steps-push}
use Rattle.node_machine.proofs.Beginnings.{seen}
use Rattle.run_plan.specs.Plan.{Plan, node_at, count_of, all_below}
use Rattle.sched_core.specs.Run.{history, next, value_in, outstanding, without, is_same, is_among, is_open, setting_is_met, has_abort_value, is_aborted, is_lawful, may_follow}
use Rattle.sched_core.specs.Core.{node_progress}
use Rattle.sched_core.specs.Looks.{stops}
use Rattle.sched_core.specs.Ahead.{added, may_follow_all, up_to_abort, fitting, ends_of, ended_in}
use Rattle.sched_core.proofs.Aborts.{over-at}
use Rattle.sched_core.proofs.Bounds.{not-false}
use Rattle.sched_core.proofs.Finished.{all_below-at}
use Rattle.sched_core.proofs.Keys.{same-eq, same-self, each_among}
use Rattle.sched_core.proofs.Shown.{machine-value, next-phase}
use Rattle.sched_core.proofs.Sound.{Held, sound, end-among, next-parts}
use Rattle.sched_core.proofs.Sweeps.{all_below-from, all_below-not}

-- a key that was taken out of a list is not in it, and no other is missing
pub among-without : (key gone : Key) (keys : List Key) → is_among key (without gone keys) ≡ (is_among key keys && not (is_same key gone))
among-without key gone [] = refl
among-without key gone (other ∷ keys) = go (is_same gone other) refl (among-without key gone keys)
  where
    absorb : (s x : Bool) → (x && not s) ≡ ((s || x) && not s)
    absorb true true = refl
    absorb true false = refl
    absorb false x = refl

    other-key : (s o x : Bool) → (s ≡ true → o ≡ true → ⊥) → (o || (x && not s)) ≡ ((o || x) && not s)
    other-key true true x differ = absurd (differ refl refl)
    other-key true false x differ = refl
    other-key false true x differ = refl
    other-key false false x differ = refl

    go : (b : Bool) → is_same gone other ≡ b → is_among key (without gone keys) ≡ (is_among key keys && not (is_same key gone))
        → is_among key (if b then without gone keys else other ∷ without gone keys) ≡ ((is_same key other || is_among key keys) && not (is_same key gone))
    go true s rest =
        rest ∙ absorb (is_same key gone) (is_among key keys)
        ∙ (λ j. (is_same key (same-eq gone other s j) || is_among key keys) && not (is_same key gone))
    go false s rest =
        ap (λ x. is_same key other || x) rest
        ∙ other-key (is_same key gone) (is_same key other) (is_among key keys)
        (λ a b. false≢true (sym s ∙ subst (λ k. is_same k other ≡ true) (same-eq key gone a) b))

-- records after which the same may end as before, but for the phases of these endings
pub record IsBehind (plan : Plan) (past : List Record) (ends : List (Key × Outcome)) (now : List Record) : Type 0 where
  pub lawful : is_lawful plan now ≡ true
  pub begun : is_open now ≡ is_open past
  pub abort_free : is_aborted plan now ≡ is_aborted plan past
  pub among : (key : Key) → is_among key (outstanding plan now) ≡ (is_among key (outstanding plan past) && not (is_among key (ended_in ends)))
  pub same : (key : Key) → is_among key (outstanding plan now) ≡ true → history now key.node ≡ history past key.node

nothing-behind : (plan : Plan) (past : List Record) → is_lawful plan past ≡ true → IsBehind plan past [] past
nothing-behind plan past lawful = record {
  lawful = lawful;
  begun = refl;
  abort_free = refl;
  among = λ key. and_true (is_among key (outstanding plan past));
  same = λ key among. refl;
}
  where
    and_true : (b : Bool) → b ≡ (b && true)
    and_true true = refl
    and_true false = refl

-- after one ending that does not abort the run
module _ (plan : Plan) (past : List Record) (lawful : is_lawful plan past ≡ true) (key : Key) (outcome : Outcome) (follows : may_follow plan past (End key outcome) ≡ true)
    (on : stops plan past (End key outcome) ≡ false) where
  abbrev now : List Record
  now = End key outcome ∷ past

  there : is_among key (outstanding plan past) ≡ true
  there = (end-among plan past key outcome follows).0

  held : (other : Key) → is_among other (outstanding plan past) ≡ true → next plan past other.node ≡ Some other
  held other among = (each_among (Held plan past) other (outstanding plan past) (sound plan past lawful).held among).is_next

  -- another node's history is as it was
  other-history : (node : ℕ) → (key.node == node) ≡ false → history now node ≡ history past node
  other-history node ne = λ j. if ne j then history past node ++ got key.attempt key.phase outcome ∷ [] else history past node

  -- a node with the abort value has no next phase, so it is not this ending's
  still-aborted : is_aborted plan now ≡ false → is_aborted plan past ≡ false
  unfolding is_aborted
  still-aborted abort_free = ap not (all_below-from (λ node. not (has_abort_value plan past node)) (count_of plan) (λ node lt. go node lt (has_abort_value plan past node) refl))
    where
      none : (node : ℕ) → node < count_of plan → has_abort_value plan now node ≡ false
      none node lt = not-true _ (all_below-at (λ n. not (has_abort_value plan now n)) (count_of plan) (not-false _ abort_free) node lt)

      own : has_abort_value plan past key.node ≡ true → ⊥
      own met = some-none (sym (next-parts plan past key.node key (held key there)).1 ∙ over-at plan past lawful key.node met)
        where
          some-none : {A : Type 0} {x : A} → Some x ≡ None → ⊥
          some-none e = absurd cc

      at : (node : ℕ) → node < count_of plan → has_abort_value plan past node ≡ true → (b : Bool) → (key.node == node) ≡ b → ⊥
      at node lt met true same = own (subst (λ n. has_abort_value plan past n ≡ true) (sym (eqb-true key.node node same)) met)
      at node lt met false ne =
          false≢true (sym (none node lt)
          ∙ (λ j. setting_is_met (node_at plan node).course.abort_on (value_after (node_at plan node).course (other-history node ne j))) ∙ met)

      go : (node : ℕ) → node < count_of plan → (b : Bool) → has_abort_value plan past node ≡ b → not (has_abort_value plan past node) ≡ true
      go node lt false e = ap not e
      go node lt true e = absurd (at node lt e (key.node == node) refl)

  one-abort_free : is_aborted plan now ≡ is_aborted plan past
  one-abort_free = go (is_aborted plan now) refl (is_aborted plan past) refl
    where
      go : (a : Bool) → is_aborted plan now ≡ a → (b : Bool) → is_aborted plan past ≡ b → is_aborted plan now ≡ is_aborted plan past
      go false e b f = e ∙ sym (still-aborted e)
      go true e true f = e ∙ sym f
      go true e false f = absurd (false≢true (sym on ∙ (λ j. e j && not (f j))))

  one-among : (other : Key) → is_among other (outstanding plan now) ≡ (is_among other (outstanding plan past) && not (is_same other key))
  one-among other = (λ j. is_among other (if on j then [] else without key (outstanding plan past))) ∙ among-without other key (outstanding plan past)

  one-same : (other : Key) → is_among other (outstanding plan now) ≡ true → history now other.node ≡ history past other.node
  one-same other among = go (key.node == other.node) refl
    where
      parts : (is_among other (outstanding plan past) ≡ true) × (not (is_same other key) ≡ true)
      parts = and_parts _ _ (sym (one-among other) ∙ among)

      -- two phases of one node aren't outstanding
      own : key.node ≡ other.node → ⊥
      own same = false≢true (sym (not-true _ parts.1) ∙ subst (λ k. is_same other k ≡ true) (some-eq (sym (held other parts.0) ∙ ap (next plan past) (sym same) ∙ held key there)) (same-self other))
        where
          some-eq : {x y : Key} → Some x ≡ Some y → x ≡ y
          some-eq e = cc

      go : (b : Bool) → (key.node == other.node) ≡ b → history now other.node ≡ history past other.node
      go true same = absurd (own (eqb-true key.node other.node same))
      go false ne = other-history other.node ne

  one-open : is_open now ≡ is_open past
  unfolding may_follow
  one-open = sym (and_parts _ _ (and_parts _ _ follows).0).0

  one-lawful : is_lawful plan now ≡ true
  one-lawful = and_from _ _ lawful follows

  behind-more : (ends : List (Key × Outcome)) (last : List Record) → IsBehind plan now ends last → IsBehind plan past ((key, outcome) ∷ ends) last
  behind-more ends last b = record {
    lawful = b.lawful;
    begun = b.begun ∙ one-open;
    abort_free = b.abort_free ∙ one-abort_free;
    among = λ other.
        b.among other ∙ ap (λ x. x && not (is_among other (ended_in ends))) (one-among other)
        ∙ both (is_among other (outstanding plan past)) (is_same other key) (is_among other (ended_in ends));
    same = λ other among. b.same other among ∙ one-same other (and_parts _ _ (sym (b.among other) ∙ among)).0;
  }
    where
      both : (a s x : Bool) → ((a && not s) && not x) ≡ (a && not (s || x))
      both true true x = refl
      both true false x = refl
      both false s x = refl

-- each may follow those before it, and none aborts the run
unfoldable pub goes_on : Plan → List Record → List (Key × Outcome) → Bool
goes_on plan past [] = true
goes_on plan past (end ∷ ends) =
    (may_follow plan past (End end.0 end.1) && not (stops plan past (End end.0 end.1))) && goes_on plan (End end.0 end.1 ∷ past) ends

pub behind : (plan : Plan) (past : List Record) (ends : List (Key × Outcome)) → is_lawful plan past ≡ true → goes_on plan past ends ≡ true → IsBehind plan past ends (added past (ends_of ends))
unfolding goes_on
behind plan past [] lawful on = nothing-behind plan past lawful
behind plan past (end ∷ ends) lawful on =
    let p = and_parts _ _ on in
    let q = and_parts _ _ p.0 in
    behind-more plan past lawful end.0 end.1 q.0 (not-true _ q.1) ends (added (End end.0 end.1 ∷ past) (ends_of ends))
    (behind plan (End end.0 end.1 ∷ past) ends (and_from _ _ lawful q.0) p.1)

-- an ordinary node whose abort value is there once this is its ending
abbrev pub has_own : Plan → List Record → Key → Outcome → Bool
has_own plan past key outcome = nat_lt key.node (count_of plan) && has_abort_value plan (End key outcome ∷ past) key.node

-- of a run that was not aborted that alone decides whether its ending aborts it
pub aborted-own : (plan : Plan) (past : List Record) (key : Key) (outcome : Outcome) → is_aborted plan past ≡ false → is_aborted plan (End key outcome ∷ past) ≡ has_own plan past key outcome
unfolding is_aborted
aborted-own plan past key outcome abort_free = go (nat_lt key.node (count_of plan)) refl (has_abort_value plan (End key outcome ∷ past) key.node) refl
  where
    test : ℕ → Bool
    test node = not (has_abort_value plan (End key outcome ∷ past) node)

    none : (node : ℕ) → node < count_of plan → has_abort_value plan past node ≡ false
    none node lt = not-true _ (all_below-at (λ n. not (has_abort_value plan past n)) (count_of plan) (not-false _ abort_free) node lt)

    other : (node : ℕ) → node < count_of plan → (key.node == node) ≡ false → test node ≡ true
    other node lt ne =
        (λ j. not (setting_is_met (node_at plan node).course.abort_on (value_after (node_at plan node).course (if ne j then history past node ++ got key.attempt key.phase outcome ∷ [] else history past node))))
        ∙ ap not (none node lt)

    each : ((node : ℕ) → node < count_of plan → (key.node == node) ≡ true → test node ≡ true) → all_below test (count_of plan) ≡ true
    each own = all_below-from test (count_of plan) (λ node lt. at node lt (key.node == node) refl)
      where
        at : (node : ℕ) → node < count_of plan → (b : Bool) → (key.node == node) ≡ b → test node ≡ true
        at node lt true same = own node lt same
        at node lt false ne = other node lt ne

    go : (a : Bool) → nat_lt key.node (count_of plan) ≡ a → (b : Bool) → has_abort_value plan (End key outcome ∷ past) key.node ≡ b
        → not (all_below test (count_of plan)) ≡ (a && b)
    go true lt true met = ap not (all_below-not test (count_of plan) key.node (ltb-true key.node (count_of plan) lt) (ap not met))
    go true lt false met = ap not (each (λ node inside same. subst (λ n. test n ≡ true) (eqb-true key.node node same) (ap not met)))
    go false ge b met =
        ap not (each (λ node inside same. let e = eqb-true key.node node same in
        absurd (false≢true (sym ge ∙ lt-ltb key.node (count_of plan) (omega (arith, e, inside))))))

-- whether an ending may be recorded, and whether it aborts the run, after others
module _ (plan : Plan) (past : List Record) (ends : List (Key × Outcome)) (now : List Record) (b : IsBehind plan past ends now) (key : Key) (outcome : Outcome) where
  pub follows-behind : may_follow plan now (End key outcome) ≡ (may_follow plan past (End key outcome) && not (is_among key (ended_in ends)))
  unfolding may_follow
  follows-behind =
      (λ j. b.begun j && b.among key j && (is_possible outcome && may_end_with (node_at plan key.node).course key.phase outcome))
      ∙ shape (is_open past) (is_among key (outstanding plan past)) (is_among key (ended_in ends)) (is_possible outcome && may_end_with (node_at plan key.node).course key.phase outcome)
    where
      shape : (o a x r : Bool) → ((o && (a && not x)) && r) ≡ (((o && a) && r) && not x)
      shape false a x r = refl
      shape true false x r = refl
      shape true true true true = refl
      shape true true true false = refl
      shape true true false true = refl
      shape true true false false = refl

  pub stops-behind : may_follow plan now (End key outcome) ≡ true → stops plan now (End key outcome) ≡ stops plan past (End key outcome)
  stops-behind follows = go (is_aborted plan past) refl
    where
      same : history now key.node ≡ history past key.node
      same = b.same key (end-among plan now key outcome follows).0

      own : has_own plan now key outcome ≡ has_own plan past key outcome
      own = λ j.
          nat_lt key.node (count_of plan)
          && setting_is_met (node_at plan key.node).course.abort_on
          (value_after (node_at plan key.node).course (if key.node == key.node then same j ++ got key.attempt key.phase outcome ∷ [] else same j))

      and_false : (x : Bool) → (x && false) ≡ false
      and_false true = refl
      and_false false = refl

      go : (a : Bool) → is_aborted plan past ≡ a → stops plan now (End key outcome) ≡ stops plan past (End key outcome)
      go true e =
          (λ j. is_aborted plan (End key outcome ∷ now) && not ((b.abort_free ∙ e) j)) ∙ and_false (is_aborted plan (End key outcome ∷ now))
          ∙ sym ((λ j. is_aborted plan (End key outcome ∷ past) && not (e j)) ∙ and_false (is_aborted plan (End key outcome ∷ past)))
      go false e =
          (λ j. aborted-own plan now key outcome (b.abort_free ∙ e) j && not (b.abort_free j))
          ∙ (λ j. own j && not (is_aborted plan past))
          ∙ (λ j. sym (aborted-own plan past key outcome e) j && not (is_aborted plan past))

-- lists of endings
pub ends-more : (past : List Record) (ends : List (Key × Outcome)) (end : Key × Outcome) → added past (ends_of (ends ++ end ∷ [])) ≡ End end.0 end.1 ∷ added past (ends_of ends)
ends-more past [] end = refl
ends-more past (first ∷ ends) end = ends-more (End first.0 first.1 ∷ past) ends end

pub on-more : (plan : Plan) (past : List Record) (ends : List (Key × Outcome)) (end : Key × Outcome) → goes_on plan past ends ≡ true
    → may_follow plan (added past (ends_of ends)) (End end.0 end.1) ≡ true → stops plan (added past (ends_of ends)) (End end.0 end.1) ≡ false → goes_on plan past (ends ++ end ∷ []) ≡ true
unfolding goes_on
on-more plan past [] end on follows abort_free = and_from _ _ (and_from _ _ follows (ap not abort_free)) refl
on-more plan past (first ∷ ends) end on follows abort_free =
    let p = and_parts _ _ on in and_from _ _ p.0 (on-more plan (End first.0 first.1 ∷ past) ends end p.1 follows abort_free)

-- what is to be recorded of endings of which the first go on
module _ (plan : Plan) where
  pub up-behind : (past : List Record) (front rest : List (Key × Outcome)) → goes_on plan past front ≡ true
      → up_to_abort plan past (ends_of (front ++ rest)) ≡ ends_of front ++ up_to_abort plan (added past (ends_of front)) (ends_of rest)
  unfolding goes_on
  up-behind past [] rest on = refl
  up-behind past (end ∷ front) rest on =
      let p = and_parts _ _ on in
      let abort_free : stops plan past (End end.0 end.1) ≡ false = not-true _ (and_parts _ _ p.0).1 in
      (λ j. if abort_free j then End end.0 end.1 ∷ [] else End end.0 end.1 ∷ up_to_abort plan (End end.0 end.1 ∷ past) (ends_of (front ++ rest)))
      ∙ ap (λ (l : List Record). End end.0 end.1 ∷ l) (up-behind (End end.0 end.1 ∷ past) front rest p.1)

  pub all-behind : (past : List Record) (front : List (Key × Outcome)) (rest : List Record) → goes_on plan past front ≡ true
      → may_follow_all plan past (ends_of front ++ rest) ≡ may_follow_all plan (added past (ends_of front)) rest
  unfolding goes_on
  all-behind past [] rest on = refl
  all-behind past (end ∷ front) rest on =
      let p = and_parts _ _ on in
      let follows : may_follow plan past (End end.0 end.1) ≡ true = (and_parts _ _ p.0).0 in
      (λ j. follows j && may_follow_all plan (End end.0 end.1 ∷ past) (ends_of front ++ rest))
      ∙ all-behind (End end.0 end.1 ∷ past) front rest p.1

  length-ends : (front : List (Key × Outcome)) (rest : List Record) → length (ends_of front ++ rest) ≡ length front + length rest
  length-ends [] rest = omega arith
  length-ends (end ∷ front) rest = let h = length-ends front rest in omega (arith, h)

  module _ (past : List Record) (front rest : List (Key × Outcome)) (on : goes_on plan past front ≡ true) where
    abbrev behind_front : List Record
    behind_front = added past (ends_of front)

    shape : List Record → Option ℕ
    shape entries = if may_follow_all plan past entries then Some (length entries) else None

    parted : (entries : List Record) → up_to_abort plan behind_front (ends_of rest) ≡ entries
        → fitting plan past (ends_of (front ++ rest)) ≡ (if may_follow_all plan behind_front entries then Some (length front + length entries) else None)
    unfolding shape
    parted entries is =
        ap shape (up-behind past front rest on ∙ ap (λ (l : List Record). ends_of front ++ l) is)
        ∙ (λ j. if all-behind past front entries on j then Some (length-ends front entries j) else None)

  -- all are recorded
  pub all-fit : (past : List Record) (front : List (Key × Outcome)) → goes_on plan past front ≡ true → fitting plan past (ends_of (front ++ [])) ≡ Some (length front + 0)
  all-fit past front on = parted past front [] on [] refl

  -- the next may not follow
  pub next-unfit : (past : List Record) (front rest : List (Key × Outcome)) (end : Key × Outcome) → goes_on plan past front ≡ true
      → may_follow plan (added past (ends_of front)) (End end.0 end.1) ≡ false → fitting plan past (ends_of (front ++ end ∷ rest)) ≡ None
  next-unfit past front rest end on bad =
      go (stops plan (added past (ends_of front)) (End end.0 end.1)) refl
    where
      go : (b : Bool) → stops plan (added past (ends_of front)) (End end.0 end.1) ≡ b → fitting plan past (ends_of (front ++ end ∷ rest)) ≡ None
      go true e =
          parted past front (end ∷ rest) on (End end.0 end.1 ∷ [])
          (λ j. if e j then End end.0 end.1 ∷ [] else End end.0 end.1 ∷ up_to_abort plan (End end.0 end.1 ∷ added past (ends_of front)) (ends_of rest))
          ∙ (λ j. if bad j && true then Some (length front + 1) else None)
      go false e =
          parted past front (end ∷ rest) on (End end.0 end.1 ∷ up_to_abort plan (End end.0 end.1 ∷ added past (ends_of front)) (ends_of rest))
          (λ j. if e j then End end.0 end.1 ∷ [] else End end.0 end.1 ∷ up_to_abort plan (End end.0 end.1 ∷ added past (ends_of front)) (ends_of rest))
          ∙ (λ j. if bad j && may_follow_all plan (End end.0 end.1 ∷ added past (ends_of front)) (up_to_abort plan (End end.0 end.1 ∷ added past (ends_of front)) (ends_of rest))
          then Some (length front + length (End end.0 end.1 ∷ up_to_abort plan (End end.0 end.1 ∷ added past (ends_of front)) (ends_of rest)))
          else None)

  -- the next aborts the run
  pub next-stops : (past : List Record) (front rest : List (Key × Outcome)) (end : Key × Outcome) → goes_on plan past front ≡ true
      → may_follow plan (added past (ends_of front)) (End end.0 end.1) ≡ true → stops plan (added past (ends_of front)) (End end.0 end.1) ≡ true
      → fitting plan past (ends_of (front ++ end ∷ rest)) ≡ Some (length front + 1)
  next-stops past front rest end on good e =
      parted past front (end ∷ rest) on (End end.0 end.1 ∷ [])
      (λ j. if e j then End end.0 end.1 ∷ [] else End end.0 end.1 ∷ up_to_abort plan (End end.0 end.1 ∷ added past (ends_of front)) (ends_of rest))
      ∙ (λ j. if good j && true then Some (length front + 1) else None)

-- the value that an ending leaves at its node
pub own-value : (plan : Plan) (past : List Record) → is_lawful plan past ≡ true → (key : Key) (outcome : Outcome) → may_follow plan past (End key outcome) ≡ true
    → (ended_with (node_progress plan past key.node) outcome).machine.value ≡ value_in plan (End key outcome ∷ past) key.node
own-value plan past lawful key outcome follows =
    (λ j. (machine_step course own-machine (counted j)).value)
    ∙ (λ j. (sym (steps-push course (machine_before course 0 None false) (history past key.node) (got key.attempt key.phase outcome)) j).value)
    ∙ (λ j. (machine_after course (if sym (eq-eqb key.node key.node refl) j then history past key.node ++ got key.attempt key.phase outcome ∷ [] else history past key.node)).value)
    ∙ machine-value plan (End key outcome ∷ past) (and_from _ _ lawful follows) key.node
  where
    course : Course
    course = (node_at plan key.node).course

    own-machine : MachineState
    own-machine = machine_after course (history past key.node)

    held : Held plan past key
    held = each_among (Held plan past) key (outstanding plan past) (sound plan past lawful).held (end-among plan past key outcome follows).0

    counted : counted_at course own-machine.phase outcome ≡ outcome
    counted =
        (λ j. counted_at course (next-phase plan past lawful key held.is_next j) outcome)
        ∙ seen course key.phase outcome outcome (end-among plan past key outcome follows).1 (λ n. refl)
