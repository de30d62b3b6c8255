-- Within a round: what is outstanding, what runs and what is owed.
use Rattle.std.proofs.Common.{arith, ◌≡◌, ◌==◌, ◌<◌, ◌≤◌, ◌++◌, ℕ, Bool, true, false, ◌||◌, List, [], ◌∷◌, length, refl, sym, ap, ◌∙◌, subst, length-append, if◌then◌else◌}
use Rattle.std.specs.List.{list_all}
use Rattle.std.proofs.lemmas.Bool.{and_parts, and_from, false≢true}
use Rattle.node_machine.specs.declared.Key.{Key}
use Rattle.node_machine.specs.declared.Outcome.{Outcome}
use Rattle.node_machine.specs.Story.{is_possible, may_end_with}
use Rattle.run_plan_node.specs.declared.command.ChildCommand.{ChildCommand}
use Rattle.std.specs.declared.snapshot.Snapshot.{Snapshot}
use Rattle.run_plan.specs.Plan.{Plan, node_at}
use Rattle.run_plan_node.specs.Commands.{starts_child}
use Rattle.node_machine.specs.declared.Record.{Record}
use Rattle.node_machine.specs.declared.Record.TheVariants.{End}
use Rattle.sched_core.specs.Run.{is_lawful, is_open, may_follow, is_among, is_same, outstanding, without}
use Rattle.sched_core.specs.Core.{has_key_of}
use Rattle.sched_core.specs.Ahead.{launch_of, launched, ended_in}
use Rattle.sched_core.proofs.Keys.{same-self, same-eq}
use Rattle.sched_core.proofs.Ended.{among-without}
use Rattle.sched_core.proofs.Throttling.{AreApart, outstanding-apart}
use Rattle.job_starter_drive.specs.declared.Call.{Call}
use Rattle.job_starter_drive.specs.declared.Call.TheVariants as calls
use Rattle.job_starter_drive.specs.declared.Started.TheVariants.{Running}
use Rattle.job_starter_drive.specs.Calls.{running}
use Rattle.job_starter_drive.specs.Drives.{most_at_once, with_launched, without_all, MayEndAll, AreInStep, AreUnderWay}
use Rattle.job_starter_drive.proofs.Steps.{among-node, child-ends, children-start, end-may-follow}

-- what starts a child
abbrev pub starting : Plan → Key → Bool
starting plan key = starts_child (node_at plan key.node) key.phase

or-true : (a b : Bool) → b ≡ true → (a || b) ≡ true
or-true true b is = refl
or-true false b is = is

-- after launches they are outstanding, and what was is so still
pub launched-outstanding : (plan : Plan) (past : List Record) (keys : List Key) → outstanding plan (launched past keys) ≡ with_launched keys (outstanding plan past)
launched-outstanding plan past [] = refl
launched-outstanding plan past (key ∷ keys) = launched-outstanding plan (launch_of past key ∷ past) keys

pub among-with : (key : Key) (keys others : List Key) → is_among key others ≡ true → is_among key (with_launched keys others) ≡ true
among-with key [] others is = is
among-with key (first ∷ keys) others is = among-with key keys (first ∷ others) (or-true (is_same key first) (is_among key others) is)

without-all-more : (gone : List Key) (key : Key) (keys : List Key) → without_all (gone ++ key ∷ []) keys ≡ without key (without_all gone keys)
without-all-more [] key keys = refl
without-all-more (first ∷ gone) key keys = without-all-more gone key (without first keys)

ended-more : (owed : List (Key × Outcome)) (end : Key × Outcome) → ended_in (owed ++ end ∷ []) ≡ ended_in owed ++ end.0 ∷ []
ended-more [] end = refl
ended-more (first ∷ owed) end = ap (λ (l : List Key). first.0 ∷ l) (ended-more owed end)

-- what is left of keys was among them
pub among-left : (key : Key) (gone keys : List Key) → is_among key (without_all gone keys) ≡ true → is_among key keys ≡ true
among-left key [] keys is = is
among-left key (first ∷ gone) keys is = (and_parts _ _ (sym (among-without key first keys) ∙ among-left key gone (without first keys) is)).0

or-parts : (a b : Bool) → (a || b) ≡ false → (a ≡ false) × (b ≡ false)
or-parts true b is = absurd (false≢true (sym is))
or-parts false b is = (refl, is)

none-without : (key : Key) (node : ℕ) (keys : List Key) → has_key_of node keys ≡ false → has_key_of node (without key keys) ≡ false
none-without key node [] none = none
none-without key node (first ∷ keys) none = pick (is_same key first) (or-parts (first.node == node) (has_key_of node keys) none) (none-without key node keys)
  where
    pick : (b : Bool) → ((first.node == node) ≡ false) × (has_key_of node keys ≡ false) → (has_key_of node keys ≡ false → has_key_of node (without key keys) ≡ false)
        → has_key_of node (if b then without key keys else first ∷ without key keys) ≡ false
    pick true p rest = rest p.1
    pick false p rest = (λ j. p.0 j || has_key_of node (without key keys)) ∙ rest p.1

-- keys of different nodes
apart-without : (key : Key) (keys : List Key) → AreApart keys → AreApart (without key keys)
apart-without key [] apart = tt
apart-without key (other ∷ keys) apart = go (is_same key other) (apart-without key keys apart.1)
  where
    go : (b : Bool) → AreApart (without key keys) → AreApart (if b then without key keys else other ∷ without key keys)
    go true rest = rest
    go false rest = (none-without key other.node keys apart.0, rest)

apart-all : (gone keys : List Key) → AreApart keys → AreApart (without_all gone keys)
apart-all [] keys apart = apart
apart-all (first ∷ gone) keys apart = apart-all gone (without first keys) (apart-without first keys apart)

-- a key whose node none of these has is not among them
not-among : (key : Key) (keys : List Key) → has_key_of key.node keys ≡ false → is_among key keys ≡ false
not-among key keys none = go (is_among key keys) refl
  where
    go : (b : Bool) → is_among key keys ≡ b → is_among key keys ≡ false
    go false is = is
    go true is = absurd (false≢true (sym none ∙ among-node key keys is))

-- what was launched after keys of other nodes is none of them
apart-with : (keys others : List Key) → AreApart (with_launched keys others)
    → AreApart others × ((key : Key) → is_among key others ≡ true → is_among key keys ≡ false)
apart-with [] others apart = (apart, λ key among. refl)
apart-with (first ∷ keys) others apart =
    let later = apart-with keys (first ∷ others) apart in
    (later.0.1, λ key among. other key among (is_same key first) refl later)
  where
    other : (key : Key) → is_among key others ≡ true → (b : Bool) → is_same key first ≡ b
        → AreApart (first ∷ others) × ((k : Key) → is_among k (first ∷ others) ≡ true → is_among k keys ≡ false)
        → (is_same key first || is_among key keys) ≡ false
    other key among true same later =
        absurd (false≢true (sym later.0.0 ∙ among-node first others (subst (λ (k : Key). is_among k others ≡ true) (same-eq key first same) among)))
    other key among false same later =
        (λ j. same j || is_among key keys) ∙ later.1 key (or-true (is_same key first) (is_among key others) among)

without-with : (key : Key) (keys others left : List Key) → without key others ≡ left → is_among key keys ≡ false
    → without key (with_launched keys others) ≡ with_launched keys left
without-with key [] others left is free = is
without-with key (first ∷ keys) others left is free =
    without-with key keys (first ∷ others) (first ∷ left) (kept (is_same key first) refl) (or-second (is_same key first) (is_among key keys) free)
  where
    or-first : (a b : Bool) → (a || b) ≡ false → a ≡ false
    or-first true b e = e
    or-first false b e = refl

    or-second : (a b : Bool) → (a || b) ≡ false → b ≡ false
    or-second true b e = absurd (false≢true (sym e))
    or-second false b e = e

    kept : (b : Bool) → is_same key first ≡ b → (if is_same key first then without key others else first ∷ without key others) ≡ first ∷ left
    kept b e =
        (λ j. if or-first (is_same key first) (is_among key keys) free j then without key others else first ∷ without key others)
        ∙ ap (λ (l : List Key). first ∷ l) is

without-free : (key : Key) (keys : List Key) → is_among key keys ≡ false → without key keys ≡ keys
without-free key [] free = refl
without-free key (other ∷ keys) free = go (is_same key other) free (without-free key keys)
  where
    go : (b : Bool) → (b || is_among key keys) ≡ false → (is_among key keys ≡ false → without key keys ≡ keys)
        → (if b then without key keys else other ∷ without key keys) ≡ other ∷ keys
    go true free rest = absurd (false≢true (sym free))
    go false free rest = ap (λ l. other ∷ l) (rest free)

pub all-without : (f : Key → Bool) (key : Key) (keys : List Key) → list_all f keys ≡ true → list_all f (without key keys) ≡ true
all-without f key [] all = refl
all-without f key (other ∷ keys) all = go (is_same key other) (all-without f key keys (and_parts _ _ all).1)
  where
    go : (b : Bool) → list_all f (without key keys) ≡ true → list_all f (if b then without key keys else other ∷ without key keys) ≡ true
    go true rest = rest
    go false rest = and_from _ _ (and_parts _ _ all).0 rest

ends-more : (plan : Plan) (keys : List Key) (owed : List (Key × Outcome)) (key : Key) (outcome : Outcome) → MayEndAll plan keys owed
    → is_among key (without_all (ended_in owed) keys) ≡ true → is_possible outcome ≡ true → may_end_with (node_at plan key.node).course key.phase outcome ≡ true
    → MayEndAll plan keys (owed ++ (key, outcome) ∷ [])
ends-more plan keys [] key outcome ends among possible fits = (among, possible, fits, tt)
ends-more plan keys (end ∷ owed) key outcome ends among possible fits =
    (ends.0, ends.1, ends.2, ends-more plan (without end.0 keys) owed key outcome ends.3 among possible fits)

module _ (plan : Plan) (past : List Record) where
  -- after the launches of a round
  pub way-launched : (call_log : List Call) (keys : List Key) → AreInStep plan past call_log → length keys ≤ most_at_once → AreUnderWay plan (launched past keys) call_log keys []
  way-launched call_log keys step few = record {
    same = launched-outstanding plan past keys ∙ ap (with_launched keys) (sym step.same);
    children = subst (λ (l : List Key). list_all (starting plan) l ≡ true) (sym step.same) step.children;
    ends = tt;
    few = omega (arith, few);
  }

  -- where nothing is left of a round, the children that run are the outstanding phases
  pub way-rests : (call_log : List Call) → AreUnderWay plan past call_log [] [] → AreInStep plan past call_log
  way-rests call_log way = record { same = sym way.same; children = subst (λ (l : List Key). list_all (starting plan) l ≡ true) (sym way.same) way.children }

  -- a child was reported to have ended
  pub way-call_log : (call_log : List Call) (key : Key) (outcome : Outcome) → AreInStep plan past call_log → is_among key (running call_log) ≡ true → is_possible outcome ≡ true
      → AreUnderWay plan past (calls.Ended key outcome ∷ call_log) [] ((key, outcome) ∷ [])
  way-call_log call_log key outcome step ran possible =
      let among : is_among key (outstanding plan past) ≡ true = ap (is_among key) (sym step.same) ∙ ran in
      let all : list_all (starting plan) (running call_log) ≡ true = subst (λ (l : List Key). list_all (starting plan) l ≡ true) (sym step.same) step.children in
      record {
        same = ap (without key) (sym step.same);
        children = all-without (starting plan) key (running call_log) all;
        ends = (among, possible, child-ends (node_at plan key.node) key.phase outcome (children-start plan (running call_log) key all ran), tt);
        few = omega arith;
      }

  module _ (call_log : List Call) (owed : List (Key × Outcome)) (way : AreUnderWay plan past call_log [] owed) (key : Key) (outcome : Outcome)
      (ran : is_among key (running call_log) ≡ true) (possible : is_possible outcome ≡ true) where
    still : is_among key (without_all (ended_in owed) (outstanding plan past)) ≡ true
    still = ap (is_among key) way.same ∙ ran

    fits : may_end_with (node_at plan key.node).course key.phase outcome ≡ true
    fits = child-ends (node_at plan key.node) key.phase outcome (children-start plan (running call_log) key way.children ran)

    -- after endings that are owed one more child was reported to have ended
    pub way-gathered : length owed < most_at_once → AreUnderWay plan past (calls.Ended key outcome ∷ call_log) [] (owed ++ (key, outcome) ∷ [])
    way-gathered few = record {
      same = ap (λ (l : List Key). without_all l (outstanding plan past)) (ended-more owed (key, outcome))
          ∙ without-all-more (ended_in owed) key (outstanding plan past)
          ∙ ap (without key) way.same;
      children = all-without (starting plan) key (running call_log) way.children;
      ends = ends-more plan (outstanding plan past) owed key outcome way.ends still possible fits;
      few = (let more = length-append owed ((key, outcome) ∷ []) in omega (arith, few, more));
    }

    -- by the records before all of them it may be recorded
    pub way-follows : is_open past ≡ true → may_follow plan past (End key outcome) ≡ true
    way-follows going = end-may-follow plan past key outcome going (among-left key (ended_in owed) (outstanding plan past) still) possible fits

  module _ (lawful : is_lawful plan past ≡ true) (call_log : List Call) (key : Key) (keys : List Key) (owed : List (Key × Outcome)) (way : AreUnderWay plan past call_log (key ∷ keys) owed) where
    -- the first of what is not yet handed over
    here : is_among key (without_all (ended_in owed) (outstanding plan past)) ≡ true
    here = ap (is_among key) way.same ∙ among-with key keys (key ∷ running call_log) (λ j. same-self key j || is_among key (running call_log))

    pub way-outstanding : is_among key (outstanding plan past) ≡ true
    way-outstanding = among-left key (ended_in owed) (outstanding plan past) here

    apart : AreApart (with_launched keys (key ∷ running call_log))
    apart = subst AreApart way.same (apart-all (ended_in owed) (outstanding plan past) (outstanding-apart plan past lawful))

    pub way-free : is_among key (running call_log) ≡ false
    way-free = not-among key (running call_log) (apart-with keys (key ∷ running call_log) apart).0.0

    not-later : is_among key keys ≡ false
    not-later = (apart-with keys (key ∷ running call_log) apart).1 key (λ j. same-self key j || is_among key (running call_log))

    -- its child runs
    pub way-starts : (command : Snapshot ChildCommand) → starts_child (node_at plan key.node) key.phase ≡ true → AreUnderWay plan past (calls.Started key command Running ∷ call_log) keys owed
    way-starts command child = record {
      same = way.same;
      children = and_from _ _ child way.children;
      ends = way.ends;
      few = (let few = way.few in omega (arith, few));
    }

    -- its end is owed, and the children that run are the same
    pub way-owes : (later_log : List Call) (outcome : Outcome) → running later_log ≡ running call_log → is_possible outcome ≡ true → may_end_with (node_at plan key.node).course key.phase outcome ≡ true
        → AreUnderWay plan past later_log keys (owed ++ (key, outcome) ∷ [])
    way-owes later_log outcome runs possible fits = record {
      same = ap (λ (l : List Key). without_all l (outstanding plan past)) (ended-more owed (key, outcome))
          ∙ without-all-more (ended_in owed) key (outstanding plan past)
          ∙ ap (without key) way.same
          ∙ without-with key keys (key ∷ running call_log) (running call_log)
          ((λ j. if same-self key j then without key (running call_log) else key ∷ without key (running call_log)) ∙ without-free key (running call_log) way-free) not-later
          ∙ ap (with_launched keys) (sym runs);
      children = subst (λ (l : List Key). list_all (starting plan) l ≡ true) (sym runs) way.children;
      ends = ends-more plan (outstanding plan past) owed key outcome way.ends here possible fits;
      few = (let few = way.few in let more = length-append owed ((key, outcome) ∷ []) in omega (arith, few, more));
    }
