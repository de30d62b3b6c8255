-- Which of the endings that children were reported to have are recorded, and which are owed.
use Rattle.std.proofs.Common.{arith, ◌≡◌, ◌≤◌, ◌+◌, ◌⊎◌, inl, inr, ℕ, suc, Bool, true, false, List, [], ◌∷◌, ◌++◌, length, refl, sym, ap, ◌∙◌, subst, if◌then◌else◌}
use Rattle.std.proofs.lemmas.Bool.{and_parts, not-true}
use Rattle.std.proofs.lemmas.List.{append_assoc, length-append}
use Rattle.node_machine.specs.declared.Key.{Key}
use Rattle.node_machine.specs.declared.Outcome.{Outcome}
use Rattle.node_machine.specs.declared.Outcome.TheVariants.{Exit, NoStart}
use Rattle.node_machine.specs.declared.Record.{Record}
use Rattle.node_machine.specs.declared.Record.TheVariants.{End}
use Rattle.throttles.specs.declared.Limits.{Limits}
use Rattle.run_plan.specs.Plan.{Plan}
use Rattle.sched_core.specs.Ahead.{launched, added, up_to_abort, ends_of}
use Rattle.sched_core.specs.Looks.{stops}
use Rattle.sched_core.proofs.Ended.{ends-more}
use Rattle.job_starter_drive.specs.declared.Call.{Call}
use Rattle.job_starter_drive.specs.declared.Call.TheVariants as calls
use Rattle.job_starter_drive.specs.declared.driving.DriveFault.{DriveFault}
use Rattle.job_starter_drive.specs.declared.Started.TheVariants.{Running, NotStarted}
use Rattle.job_starter_drive.specs.Calls.{snapshot_of, Telling}
use Rattle.job_starter_drive.specs.Drives.{most_at_once, Standing, At, at_rest, drive_records, calls_of, none_aborts, IsStep, launch_round, skip_noop, spawn_child, spawn_failed, child_exits, child_gathered, ends_recorded, see_halt, kill_child, Goes, no_step, one_more, Drives, Kills, nobody, one_killed, IsHalted, IsHaltedBy, IsStopped}
use Rattle.job_starter_drive.specs.Moments.{IsOlderPart}
use Rattle.job_starter_drive.specs.Reported.{endings_in, IsSubsequence, nothing, passed_over, taken, RecordsEach, RecordsEachButNewest}
use Rattle.job_starter_drive.proofs.Turns.{launched-older, added-older}

-- after others they are in the same order, too
behind-others : (met newer own : List Record) → IsSubsequence met own → IsSubsequence met (newer ++ own)
behind-others met [] own is = is
behind-others met (entry ∷ newer) own is = passed_over (behind-others met newer own is)

both-parts : (some met newer own : List Record) → IsSubsequence some newer → IsSubsequence met own → IsSubsequence (some ++ met) (newer ++ own)
both-parts _ met newer own nothing is = behind-others met newer own is
both-parts some met _ own (passed_over {ys = newer} first) is = passed_over (both-parts some met newer own first is)
both-parts _ met _ own (taken {xs = some} {ys = newer} first) is = taken (both-parts some met newer own first is)

-- records that are added stand before the others
added-before : (first past entries : List Record) → added (first ++ past) entries ≡ added first entries ++ past
added-before first past [] = refl
added-before first past (entry ∷ entries) = added-before (entry ∷ first) past entries

-- where none but perhaps the last aborts the run, all are recorded
all-recorded : (plan : Plan) (past : List Record) (front : List (Key × Outcome)) (last : Key × Outcome) → none_aborts plan past front ≡ true
    → up_to_abort plan past (ends_of (front ++ last ∷ [])) ≡ ends_of (front ++ last ∷ [])
all-recorded plan past [] last none = go (stops plan past (End last.0 last.1))
  where
    go : (b : Bool) → (if b then End last.0 last.1 ∷ [] else End last.0 last.1 ∷ []) ≡ End last.0 last.1 ∷ []
    go true = refl
    go false = refl
all-recorded plan past (end ∷ front) last none =
    let p = and_parts _ _ none in
    let on : stops plan past (End end.0 end.1) ≡ false = not-true _ p.0 in
    (λ j. if on j then End end.0 end.1 ∷ [] else End end.0 end.1 ∷ up_to_abort plan (End end.0 end.1 ∷ past) (ends_of (front ++ last ∷ [])))
    ∙ ap (λ (l : List Record). End end.0 end.1 ∷ l) (all-recorded plan (End end.0 end.1 ∷ past) front last p.1)

-- endings of children are owed: none but perhaps the last aborts the run, and nothing of a round is left
record AreOwed (plan : Plan) (past : List Record) (keys : List Key) (owed : List (Key × Outcome)) (newest : List Record) : Type 0 where
  front : List (Key × Outcome)
  last : Key × Outcome
  is : owed ≡ front ++ last ∷ []
  rest : keys ≡ []
  none : none_aborts plan past front ≡ true
  among : IsSubsequence newest (added [] (ends_of owed))
  fewer : length newest ≤ length owed
  few : length owed ≤ most_at_once

abbrev Owes : Plan → Standing → List Record → Type 0
Owes plan (At past call_log keys owed) newest = (newest ≡ []) ⊎ AreOwed plan past keys owed newest

-- what was recorded of these, and what is owed
record Keeps (plan : Plan) (past : List Record) (call_log : List Call) (to : Standing) : Type 0 where
  own : List Record
  are : drive_records to ≡ own ++ past
  met : List Record
  newest : List Record
  endings : endings_in (calls_of to) ≡ newest ++ (met ++ endings_in call_log)
  recorded : IsSubsequence met own
  owes : Owes plan to newest

no-last : (front : List (Key × Outcome)) (last : Key × Outcome) → [] ≡ front ++ last ∷ [] → ⊥
no-last [] last is = absurd cc
no-last (first ∷ front) last is = absurd cc

-- where nothing is owed, and where something of a round is left, no child's ending is owed
none-owed : (plan : Plan) (past : List Record) (keys : List Key) (newest : List Record) → (newest ≡ []) ⊎ AreOwed plan past keys [] newest → newest ≡ []
none-owed plan past keys newest (inl none) = none
none-owed plan past keys newest (inr are) = absurd (no-last are.front are.last are.is)

none-yet : (plan : Plan) (past : List Record) (key : Key) (keys : List Key) (owed : List (Key × Outcome)) (newest : List Record)
    → (newest ≡ []) ⊎ AreOwed plan past (key ∷ keys) owed newest → newest ≡ []
none-yet plan past key keys owed newest (inl none) = none
none-yet plan past key keys owed newest (inr are) = (let rest = are.rest in absurd cc)

module _ (limits : Limits) (plan : Plan) (may : Telling) (past : List Record) (call_log : List Call) where
  -- the records grew, and no ending of a child was owed
  grown : (from to : Standing) (k : Keeps plan past call_log from) → k.newest ≡ [] → endings_in (calls_of to) ≡ endings_in (calls_of from)
      → IsOlderPart (drive_records from) (drive_records to) → Keeps plan past call_log to
  grown from to k none same older = record {
    own = older.0 ++ k.own;
    are = older.1 ∙ ap (λ (l : List Record). older.0 ++ l) k.are ∙ sym (append_assoc older.0 k.own past);
    met = k.met;
    newest = [];
    endings = same ∙ k.endings ∙ ap (λ (l : List Record). l ++ (k.met ++ endings_in call_log)) none;
    recorded = behind-others k.met older.0 k.own k.recorded;
    owes = owes-nothing to;
  }
    where
      owes-nothing : (to : Standing) → Owes plan to []
      owes-nothing (At now log keys owed) = inl refl

  -- one more ending of a child is owed
  met-more : (now : List Record) (log : List Call) (owed : List (Key × Outcome)) (key : Key) (outcome : Outcome) → none_aborts plan now owed ≡ true
      → suc (length owed) ≤ most_at_once → Keeps plan past call_log (At now log [] owed) → Keeps plan past call_log (At now (calls.Ended key outcome ∷ log) [] (owed ++ (key, outcome) ∷ []))
  met-more now log owed key outcome none few k =
      record {
        own = k.own;
        are = k.are;
        met = k.met;
        newest = End key outcome ∷ k.newest;
        endings = ap (λ (l : List Record). End key outcome ∷ l) k.endings;
        recorded = k.recorded;
        owes = inr (record {
          front = owed;
          last = (key, outcome);
          is = refl;
          rest = refl;
          none = none;
          among = subst (IsSubsequence (End key outcome ∷ k.newest)) (sym (ends-more [] owed (key, outcome))) (taken (were-among k.owes));
          fewer = (let old = were-fewer k.owes in omega (arith, old, many));
          few = omega (arith, few, many);
        });
      }
    where
      many : length (owed ++ (key, outcome) ∷ []) ≡ length owed + 1
      many = length-append owed ((key, outcome) ∷ [])

      were-among : Owes plan (At now log [] owed) k.newest → IsSubsequence k.newest (added [] (ends_of owed))
      were-among (inl is) = subst (λ (l : List Record). IsSubsequence l (added [] (ends_of owed))) (sym is) nothing
      were-among (inr are) = are.among

      were-fewer : Owes plan (At now log [] owed) k.newest → length k.newest ≤ length owed
      were-fewer (inl is) = (let size = ap length is in omega (arith, size))
      were-fewer (inr are) = are.fewer

  -- what was owed is recorded
  met-recorded : (now : List Record) (log : List Call) (owed : List (Key × Outcome)) → Keeps plan past call_log (At now log [] owed)
      → Keeps plan past call_log (At (added now (up_to_abort plan now (ends_of owed))) log [] [])
  met-recorded now log owed k = go k.owes
    where
      go : Owes plan (At now log [] owed) k.newest → Keeps plan past call_log (At (added now (up_to_abort plan now (ends_of owed))) log [] [])
      go (inl none) = grown (At now log [] owed) (At (added now (up_to_abort plan now (ends_of owed))) log [] []) k none refl (added-older now (up_to_abort plan now (ends_of owed)))
      go (inr are) =
          let all : up_to_abort plan now (ends_of owed) ≡ ends_of owed =
          subst (λ (o : List (Key × Outcome)). up_to_abort plan now (ends_of o) ≡ ends_of o) (sym are.is) (all-recorded plan now are.front are.last are.none) in
          record {
            own = added [] (ends_of owed) ++ k.own;
            are = ap (added now) all ∙ added-before [] now (ends_of owed) ∙ ap (λ (l : List Record). added [] (ends_of owed) ++ l) k.are
                ∙ sym (append_assoc (added [] (ends_of owed)) k.own past);
            met = k.newest ++ k.met;
            newest = [];
            endings = k.endings ∙ sym (append_assoc k.newest k.met (endings_in call_log));
            recorded = both-parts k.newest k.met (added [] (ends_of owed)) k.own are.among k.recorded;
            owes = inl refl;
          }

  step-keeps : (from to : Standing) → IsStep limits plan may from to → Keeps plan past call_log from → Keeps plan past call_log to
  step-keeps _ _ (launch_round {past = now} {call_log = log} {keys = keys} lawful going unhalted step round) k =
      grown (At now log [] []) (At (launched now keys) log keys []) k (none-owed plan now [] k.newest k.owes) refl (launched-older now keys)
  step-keeps _ _ (skip_noop {past = now} {call_log = log} {key = key} {keys = keys} {owed = owed} quiet) k =
      grown (At now log (key ∷ keys) owed) (At now log keys (owed ++ (key, Exit 0) ∷ [])) k (none-yet plan now key keys owed k.newest k.owes) refl ([], refl)
  step-keeps _ _ (spawn_child {past = now} {call_log = log} {key = key} {keys = keys} {owed = owed} {command = command} child is may_run) k =
      grown (At now log (key ∷ keys) owed) (At now (calls.Started key (snapshot_of command) Running ∷ log) keys owed) k (none-yet plan now key keys owed k.newest k.owes) refl ([], refl)
  step-keeps _ _ (spawn_failed {past = now} {call_log = log} {key = key} {keys = keys} {owed = owed} {command = command} child is may_be) k =
      grown (At now log (key ∷ keys) owed) (At now (calls.Started key (snapshot_of command) NotStarted ∷ log) keys (owed ++ (key, NoStart) ∷ [])) k
      (none-yet plan now key keys owed k.newest k.owes) refl ([], refl)
  step-keeps _ _ (child_exits {past = now} {call_log = log} {key = key} {outcome = outcome} step held halt ran may_be) k = met-more now log [] key outcome refl (omega arith) k
  step-keeps _ _ (child_gathered {past = now} {call_log = log} {end = end} {owed = owed} {key = key} {outcome = outcome} gathers way held on few ran may_be) k =
      met-more now log (end ∷ owed) key outcome on (omega (arith, few)) k
  step-keeps _ _ (ends_recorded {past = now} {call_log = log} {end = end} {owed = owed}) k = met-recorded now log (end ∷ owed) k
  step-keeps _ _ (see_halt {past = now} {call_log = log} may_halt unhalted) k =
      grown (At now log [] []) (At now (calls.HaltSeen ∷ log) [] []) k (none-owed plan now [] k.newest k.owes) refl ([], refl)
  step-keeps _ _ (kill_child {past = now} {call_log = log} {key = key} ran free) k =
      grown (At now log [] []) (At now (calls.Killed key ∷ log) [] []) k (none-owed plan now [] k.newest k.owes) refl ([], refl)

  goes-keeps : (to : Standing) → Goes limits plan may (at_rest past call_log) to → Keeps plan past call_log to
  goes-keeps _ no_step = record { own = []; are = refl; met = []; newest = []; endings = refl; recorded = nothing; owes = inl refl }
  goes-keeps to (one_more {between = between} steps step) = step-keeps between to step (goes-keeps between steps)

  -- steps that were driven record each ending that was reported
  pub driven : (after : List Record) (last : List Call) → Drives limits plan may past call_log after last → RecordsEach past after call_log last
  driven after last steps =
      let k = goes-keeps (at_rest after last) steps in
      let none = none-owed plan after [] k.newest k.owes in
      record { own = k.own; are = k.are; met = k.met; endings = k.endings ∙ ap (λ (l : List Record). l ++ (k.met ++ endings_in call_log)) none; recorded = k.recorded }

  few-owed : (after : List Record) (last : List Call) (keys : List Key) (owed : List (Key × Outcome)) (newest : List Record) → Owes plan (At after last keys owed) newest
      → length newest ≤ most_at_once
  few-owed after last keys owed newest (inl none) = (let size = ap length none in omega (arith, size))
  few-owed after last keys owed newest (inr are) = (let fewer = are.fewer in let few = are.few in omega (arith, fewer, few))

  but-newest : (after : List Record) (last : List Call) (keys : List Key) (owed : List (Key × Outcome)) → Goes limits plan may (at_rest past call_log) (At after last keys owed)
      → RecordsEachButNewest past after call_log last
  but-newest after last keys owed steps =
      let k = goes-keeps (At after last keys owed) steps in
      record { own = k.own; are = k.are; met = k.met; newest = k.newest; few = few-owed after last keys owed k.newest k.owes; endings = k.endings; recorded = k.recorded }

  pub halted-endings : (after : List Record) (last : List Call) → IsHalted limits plan may past call_log after last → RecordsEachButNewest past after call_log last
  halted-endings after last h = but-newest after last h.keys h.owed h.steps

  -- so do those that a fault cut off
  pub by-fault-endings : (fault : DriveFault) (refused after : List Record) (last : List Call) → IsHaltedBy limits plan may past call_log fault refused after last → RecordsEachButNewest past after call_log last
  by-fault-endings fault refused after last h = but-newest after last h.keys h.owed h.steps

kills-same : (call_log last : List Call) → Kills call_log last → endings_in last ≡ endings_in call_log
kills-same call_log _ nobody = refl
kills-same call_log _ (one_killed {later_log = later_log} {key = key} before ran first) = kills-same call_log later_log before

-- so do those that were stopped
pub stopped-endings : (limits : Limits) (plan : Plan) (may : Telling) (past : List Record) (call_log : List Call) (fault : DriveFault) (refused after : List Record) (last : List Call)
    → IsStopped limits plan may past call_log fault refused after last → RecordsEachButNewest past after call_log last
stopped-endings limits plan may past call_log fault refused after last s =
    let h = by-fault-endings limits plan may past call_log fault refused after s.rest s.halted in
    record { own = h.own; are = h.are; met = h.met; newest = h.newest; few = h.few; endings = kills-same s.rest last s.kills ∙ h.endings; recorded = h.recorded }
