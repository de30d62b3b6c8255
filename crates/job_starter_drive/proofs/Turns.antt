-- What launches and endings make of a run's records.
use Rattle.std.proofs.Common.{arith, ◌≡◌, ◌==◌, ◌<◌, ◌≤◌, ◌+◌, ◌++◌, ℕ, zero, suc, Bool, true, false, not, ◌&&◌, eqb-true, List, [], ◌∷◌, Some, None, length, refl, sym, ap, ◌∙◌, subst, append_assoc, if◌then◌else◌}
use Rattle.std.specs.List.{list_all}
use Rattle.std.specs.Prelude.{is_some}
use Rattle.std.proofs.lemmas.Bool.{and_parts, and_from, not-true, false≢true}
use Rattle.node_machine.specs.declared.Key.{Key}
use Rattle.node_machine.specs.declared.Outcome.{Outcome}
use Rattle.node_machine.specs.Story.{value_after}
use Rattle.throttles.specs.declared.Limits.{Limits}
use Rattle.run_plan.specs.Plan.{Plan, node_at, count_of, all_below}
use Rattle.node_machine.specs.declared.Record.{Record}
use Rattle.node_machine.specs.declared.Record.TheVariants.{End}
use Rattle.sched_core.specs.Run.{history, setting_is_met, has_abort_value, is_open, is_lawful, is_among, outstanding, without, is_aborted, may_follow}
use Rattle.sched_core.specs.Bound.{records_left}
use Rattle.sched_core.specs.Ahead.{launch_of, launched, AreChosen, may_launch_all, may_follow_all, added, up_to_abort, fitting, ends_of, ended_in}
use Rattle.sched_core.specs.Commands.{is_launch}
use Rattle.sched_core.specs.Looks.{stops}
use Rattle.sched_core.proofs.Alone.{alone, among-ordinary}
use Rattle.sched_core.proofs.Best.{chosen-follows}
use Rattle.sched_core.proofs.Bounds.{launch-lowers, end-lowers}
use Rattle.sched_core.proofs.Sweeps.{all_below-not}
use Rattle.sched_core.proofs.Added.{up-some}
use Rattle.job_starter_drive.specs.Drives.{without_all, MayEndAll, IsRoundOf, IsNearerEnd, AbortsAtLast, is_aborted_between}
use Rattle.job_starter_drive.specs.Moments.{IsOlderPart}
use Rattle.job_starter_drive.proofs.Steps.{end-may-follow}

-- an abort is no launch
pub launch-abort_free : (plan : Plan) (past : List Record) (key : Key) → is_aborted plan (launch_of past key ∷ past) ≡ is_aborted plan past
unfolding is_aborted
launch-abort_free plan past key = refl

-- of launches: lawful records, that go on, and are aborted as before
pub record Launches (plan : Plan) (past : List Record) (keys : List Key) : Type 0 where
  pub lawful : is_lawful plan (launched past keys) ≡ true
  pub may_all : may_launch_all plan past keys ≡ true
  pub going : is_open (launched past keys) ≡ true
  pub abort_free : is_aborted plan (launched past keys) ≡ is_aborted plan past
  pub fewer : records_left plan (launched past keys) + length keys ≤ records_left plan past

pub launch-all : (limits : Limits) (plan : Plan) (past : List Record) (keys : List Key) → is_lawful plan past ≡ true → is_open past ≡ true
    → AreChosen limits plan past keys → Launches plan past keys
launch-all limits plan past [] lawful going chosen = record { lawful = lawful; may_all = refl; going = going; abort_free = refl; fewer = omega arith }
launch-all limits plan past (key ∷ keys) lawful going chosen =
    let follows : may_follow plan past (launch_of past key) ≡ true = chosen-follows limits plan past key going chosen.0 in
    let less = launch-lowers plan past lawful key _ follows in
    let rest = launch-all limits plan (launch_of past key ∷ past) keys (and_from _ _ lawful follows) refl chosen.1 in
    let few = rest.fewer in
    record {
      lawful = rest.lawful;
      may_all = and_from _ _ follows rest.may_all;
      going = rest.going;
      abort_free = rest.abort_free ∙ launch-abort_free plan past key;
      fewer = omega (arith, few, less);
    }

-- added records stand before the others
pub added-onto : (past entries : List Record) → (newer : List Record) × (added past entries ≡ newer ++ past) × (length newer ≡ length entries)
added-onto past [] = ([], refl, refl)
added-onto past (entry ∷ entries) =
    let more = added-onto (entry ∷ past) entries in
    (more.0 ++ entry ∷ [], more.1 ∙ sym (append_assoc more.0 (entry ∷ []) past), length-more more.0 entry ∙ ap (λ (n : ℕ). suc n) more.2)
  where
    length-more : (l : List Record) (x : Record) → length (l ++ x ∷ []) ≡ suc (length l)
    length-more [] x = refl
    length-more (y ∷ l) x = ap (λ (n : ℕ). suc n) (length-more l x)

-- and so do launches
pub launched-onto : (past : List Record) (keys : List Key) → (newer : List Record) × (launched past keys ≡ newer ++ past) × (list_all is_launch newer ≡ true)
launched-onto past [] = ([], refl, refl)
launched-onto past (key ∷ keys) =
    let more = launched-onto (launch_of past key ∷ past) keys in
    (more.0 ++ launch_of past key ∷ [], more.1 ∙ sym (append_assoc more.0 (launch_of past key ∷ []) past), all-more more.0 more.2)
  where
    all-more : (l : List Record) → list_all is_launch l ≡ true → list_all is_launch (l ++ launch_of past key ∷ []) ≡ true
    all-more [] all = refl
    all-more (x ∷ l) all = let p = and_parts _ _ all in and_from _ _ p.0 (all-more l p.1)

pub launched-older : (past : List Record) (keys : List Key) → IsOlderPart past (launched past keys)
launched-older past keys = let more = launched-onto past keys in (more.0, more.1)

pub added-older : (past entries : List Record) → IsOlderPart past (added past entries)
added-older past entries = let more = added-onto past entries in (more.0, more.1)

-- an ending that did not abort the run takes its phase away, one that did takes all
pub end-kept : (plan : Plan) (past : List Record) (key : Key) (outcome : Outcome) → stops plan past (End key outcome) ≡ false
    → outstanding plan (End key outcome ∷ past) ≡ without key (outstanding plan past)
end-kept plan past key outcome on = λ j. if on j then [] else without key (outstanding plan past)

end-empty : (plan : Plan) (past : List Record) (key : Key) (outcome : Outcome) → stops plan past (End key outcome) ≡ true → outstanding plan (End key outcome ∷ past) ≡ []
end-empty plan past key outcome stop = λ j. if stop j then [] else without key (outstanding plan past)

-- an ending after an abort is none of an ordinary node, so that the run stays aborted
end-stays : (plan : Plan) (past : List Record) (key : Key) (outcome : Outcome) → is_lawful plan past ≡ true → is_among key (outstanding plan past) ≡ true
    → is_aborted plan past ≡ true → is_aborted plan (End key outcome ∷ past) ≡ true
unfolding is_aborted
end-stays plan past key outcome lawful among aborted =
    let low = among-ordinary plan key (outstanding plan past) ((alone plan past lawful).aborted aborted) among in
    let some = below-some (λ node. not (has_abort_value plan past node)) (count_of plan) (not-true _ aborted) in
    let ne : (key.node == some.0) ≡ false = (let lt = some.1 in let differ : key.node ≡ some.0 → ⊥ = (λ is. omega (arith, low, lt, is)) in apart key.node some.0 differ) in
    let kept : has_abort_value plan (End key outcome ∷ past) some.0 ≡ has_abort_value plan past some.0 =
    (λ j. setting_is_met (node_at plan some.0).course.abort_on (value_after (node_at plan some.0).course
    (if ne j then history past some.0 ++ record { attempt = key.attempt; phase = key.phase; outcome = outcome } ∷ [] else history past some.0))) in
    ap not (all_below-not (λ node. not (has_abort_value plan (End key outcome ∷ past) node)) (count_of plan) some.0 some.1 (ap not kept ∙ some.2))
  where
    below-some : (test : ℕ → Bool) (n : ℕ) → all_below test n ≡ false → (k : ℕ) × (k < n) × (test k ≡ false)
    below-some test zero e = absurd (false≢true (sym e))
    below-some test (suc n) e = go (test n) refl (below-some test n)
      where
        go : (b : Bool) → test n ≡ b → (all_below test n ≡ false → (k : ℕ) × (k < n) × (test k ≡ false)) → (k : ℕ) × (k < suc n) × (test k ≡ false)
        go false is deeper = (n, omega arith, is)
        go true is deeper = let d = deeper ((λ j. sym is j && all_below test n) ∙ e) in (d.0, (let lt = d.1 in omega (arith, lt)), d.2)

    apart : (a b : ℕ) → (a ≡ b → ⊥) → (a == b) ≡ false
    apart a b differ = go (a == b) refl
      where
        go : (c : Bool) → (a == b) ≡ c → (a == b) ≡ false
        go true e = absurd (differ (eqb-true a b e))
        go false e = e

both : (a b : Bool) → (b && not a) ≡ true → (a ≡ false) × (b ≡ true)
both true true is = absurd (false≢true is)
both true false is = absurd (false≢true is)
both false true is = (refl, refl)
both false false is = absurd (false≢true is)

-- of records that were added, up to the first that aborts: lawful records, that go on
pub record Endings (plan : Plan) (past : List Record) (left : List Key) (entries : List Record) : Type 0 where
  pub may_all : may_follow_all plan past entries ≡ true
  pub lawful : is_lawful plan (added past entries) ≡ true
  pub going : is_open (added past entries) ≡ true
  pub kept : is_aborted_between plan past (added past entries) ≡ false → outstanding plan (added past entries) ≡ left
  pub at_last : is_aborted_between plan past (added past entries) ≡ true → AbortsAtLast plan (added past entries)
  pub empty : is_aborted_between plan past (added past entries) ≡ true → outstanding plan (added past entries) ≡ []
  pub stays : is_aborted plan past ≡ true → is_aborted plan (added past entries) ≡ true
  pub fewer : records_left plan (added past entries) + length entries ≤ records_left plan past

not-self : (a : Bool) → (not a && a) ≡ false
not-self true = refl
not-self false = refl

module _ (plan : Plan) (past : List Record) (lawful : is_lawful plan past ≡ true) (key : Key) (outcome : Outcome) (follows : may_follow plan past (End key outcome) ≡ true) where
  lawful-then : is_lawful plan (End key outcome ∷ past) ≡ true
  lawful-then = and_from _ _ lawful follows

  -- the ending aborts the run
  last-ending : (left : List Key) → stops plan past (End key outcome) ≡ true → Endings plan past left (End key outcome ∷ [])
  last-ending left stop =
      let parts = both (is_aborted plan past) (is_aborted plan (End key outcome ∷ past)) stop in
      let less = end-lowers plan past lawful key outcome follows in
      record {
        may_all = and_from _ _ follows refl;
        lawful = lawful-then;
        going = refl;
        kept = λ on. absurd (false≢true (sym on ∙ (λ j. not (parts.0 j) && parts.1 j)));
        at_last = λ aborted. (parts.0, parts.1);
        empty = λ aborted. end-empty plan past key outcome stop;
        stays = λ was. parts.1;
        fewer = omega (arith, less);
      }

  -- it does not
  module _ (among : is_among key (outstanding plan past) ≡ true) (on : stops plan past (End key outcome) ≡ false) where
    abort_free-then : is_aborted plan (End key outcome ∷ past) ≡ is_aborted plan past
    abort_free-then = same (is_aborted plan (End key outcome ∷ past)) refl (is_aborted plan past) refl
      where
        same : (a : Bool) → is_aborted plan (End key outcome ∷ past) ≡ a → (b : Bool) → is_aborted plan past ≡ b → is_aborted plan (End key outcome ∷ past) ≡ is_aborted plan past
        same true e true f = e ∙ sym f
        same false e false f = e ∙ sym f
        same true e false f = absurd (false≢true (sym on ∙ (λ j. e j && not (f j))))
        same false e true f = absurd (false≢true (sym e ∙ end-stays plan past key outcome lawful among f))

    more-endings : (left : List Key) (entries : List Record) → Endings plan (End key outcome ∷ past) left entries → Endings plan past left (End key outcome ∷ entries)
    more-endings left entries rest =
        let less = end-lowers plan past lawful key outcome follows in
        let few = rest.fewer in
        let between = λ (b : Bool) (e : is_aborted_between plan past (added (End key outcome ∷ past) entries) ≡ b).
        (λ j. not (abort_free-then j) && is_aborted plan (added (End key outcome ∷ past) entries)) ∙ e in
        record {
          may_all = and_from _ _ follows rest.may_all;
          lawful = rest.lawful;
          going = rest.going;
          kept = λ e. rest.kept (between false e);
          at_last = λ e. rest.at_last (between true e);
          empty = λ e. rest.empty (between true e);
          stays = λ was. rest.stays (abort_free-then ∙ was);
          fewer = omega (arith, few, less);
        }

-- endings that may be recorded, up to the first that aborts
pub end-all : (plan : Plan) (past : List Record) (left : List Key) (ends : List (Key × Outcome)) → is_lawful plan past ≡ true → is_open past ≡ true
    → without_all (ended_in ends) (outstanding plan past) ≡ left → MayEndAll plan (outstanding plan past) ends → Endings plan past left (up_to_abort plan past (ends_of ends))
end-all plan past left [] lawful going same may = record {
  may_all = refl;
  lawful = lawful;
  going = going;
  kept = λ on. same;
  at_last = λ stop. absurd (false≢true (sym (not-self (is_aborted plan past)) ∙ stop));
  empty = λ stop. absurd (false≢true (sym (not-self (is_aborted plan past)) ∙ stop));
  stays = λ was. was;
  fewer = omega arith;
}
end-all plan past left (end ∷ ends) lawful going same may = go (stops plan past (End end.0 end.1)) refl (λ is law. end-all plan (End end.0 end.1 ∷ past) left ends law refl is)
  where
    follows : may_follow plan past (End end.0 end.1) ≡ true
    follows = end-may-follow plan past end.0 end.1 going may.0 may.1 may.2

    rest : List Record
    rest = up_to_abort plan (End end.0 end.1 ∷ past) (ends_of ends)

    go : (b : Bool) → stops plan past (End end.0 end.1) ≡ b
        → (without_all (ended_in ends) (outstanding plan (End end.0 end.1 ∷ past)) ≡ left → is_lawful plan (End end.0 end.1 ∷ past) ≡ true
        → MayEndAll plan (outstanding plan (End end.0 end.1 ∷ past)) ends → Endings plan (End end.0 end.1 ∷ past) left rest)
        → Endings plan past left (if stops plan past (End end.0 end.1) then End end.0 end.1 ∷ [] else End end.0 end.1 ∷ rest)
    go true stop later =
        subst (Endings plan past left) (λ j. if sym stop j then End end.0 end.1 ∷ [] else End end.0 end.1 ∷ rest) (last-ending plan past lawful end.0 end.1 follows left stop)
    go false on later =
        let kept = end-kept plan past end.0 end.1 on in
        subst (Endings plan past left) (λ j. if sym on j then End end.0 end.1 ∷ [] else End end.0 end.1 ∷ rest)
        (more-endings plan past lawful end.0 end.1 follows may.0 on left rest
        (later (ap (without_all (ended_in ends)) kept ∙ same) (lawful-then plan past lawful end.0 end.1 follows)
        (subst (λ (l : List Key). MayEndAll plan l ends) (sym kept) may.3)))

-- launches bring a run nearer to its end
pub nearer-launched : (limits : Limits) (plan : Plan) (past after : List Record) (keys : List Key) → is_lawful plan past ≡ true → is_open past ≡ true
    → IsRoundOf limits plan past keys → after ≡ launched past keys → IsNearerEnd plan past after
nearer-launched limits plan past after keys lawful going round is =
    let all = launch-all limits plan past keys lawful going round.chosen in
    let few = all.fewer in
    let some = round.some in
    subst (λ (l : List Record). IsNearerEnd plan past l) (sym is) (record { going = all.going; fewer = omega (arith, few, some) })

-- and so do endings
pub nearer-ended : (plan : Plan) (past after : List Record) (ends : List (Key × Outcome)) → is_lawful plan past ≡ true → is_open past ≡ true
    → 0 < length ends → MayEndAll plan (outstanding plan past) ends → after ≡ added past (up_to_abort plan past (ends_of ends)) → IsNearerEnd plan past after
nearer-ended plan past after ends lawful going some may is =
    let all = end-all plan past (without_all (ended_in ends) (outstanding plan past)) ends lawful going refl may in
    let few = all.fewer in
    let one = up-some plan past ends some in
    subst (λ (l : List Record). IsNearerEnd plan past l) (sym is) (record { going = all.going; fewer = omega (arith, few, one) })

pub nearer-then : (plan : Plan) (past between after : List Record) → IsNearerEnd plan past between → IsNearerEnd plan between after → IsNearerEnd plan past after
nearer-then plan past between after first second =
    let one = first.fewer in let two = second.fewer in record { going = second.going; fewer = omega (arith, one, two) }

-- where endings may be recorded, they fit
pub ends-fit : (plan : Plan) (past : List Record) (ends : List (Key × Outcome)) → may_follow_all plan past (up_to_abort plan past (ends_of ends)) ≡ true
    → is_some (fitting plan past (ends_of ends)) ≡ true
ends-fit plan past ends may = λ j. is_some (if may j then Some (length (up_to_abort plan past (ends_of ends))) else None)
