-- What a core adds and chooses.
use Rattle.std.proofs.Common.{nat_lt, ◌≡◌, ℕ, suc, ◌+◌, ◌<◌, ◌≤◌, Bool, true, false, not, ◌&&◌, List, [], ◌∷◌, length, ◌==◌, Option, Some, None, refl, sym, ap, ◌∙◌, subst, arith, eq-eqb, eqb-true, if◌then◌else◌}
use Rattle.std.proofs.lemmas.Bool.{and_parts, and_from, false≢true, false_from_ne_true}
use Rattle.node_machine.specs.declared.Key.{Key}
use Rattle.node_machine.specs.declared.Outcome.{Outcome}
use Rattle.node_machine.specs.Story.{phase_number}
use Rattle.node_machine.proofs.Beginnings.{nil-value}
use Rattle.throttles.specs.declared.Limits.{Limits}
use Rattle.run_plan.specs.Plan.{Plan, node_at, count_of}
use Rattle.node_machine.specs.NodeProgress.{NodeProgress}
use Rattle.node_machine.specs.declared.Record.{Record}
use Rattle.sched_core.specs.declared.Choice.TheVariants as choices
use Rattle.node_machine.specs.declared.Record.TheVariants.{Life, Launch, End, Finish}
use Rattle.sched_core.specs.Run.{next, setting_is_met, has_abort_value, is_aborted, outstanding, is_among, is_next, is_free, is_open, is_ready, is_final_ready, may_launch, may_follow, is_lawful, job_launches, launch_number, exit_status}
use Rattle.sched_core.specs.Core.{Shows, AreFresh, is_running, runs_after, aborted_after, jobs_after}
use Rattle.sched_core.specs.Choices.{IsChoice, launchable}
use Rattle.sched_core.proofs.Keys.{each_among, same-self}
use Rattle.sched_core.proofs.Sound.{sound}
use Rattle.sched_core.proofs.Held.{Within, outstanding-within, among-is, launched-within, end-within}
use Rattle.sched_core.proofs.Shown.{shows-after}
use Rattle.sched_core.proofs.Leaf.{key-node}
use Rattle.sched_core.proofs.Sweeps.{all_below-from}

-- no more launches of jobs than records
pub jobs-few : (past : List Record) → job_launches past ≤ length past
jobs-few [] = omega arith
jobs-few (Life ∷ past) = let h = jobs-few past in omega arith
jobs-few (End key outcome ∷ past) = let h = jobs-few past in omega arith
jobs-few (Finish status ∷ past) = let h = jobs-few past in omega arith
jobs-few (Launch key number ∷ past) = go (phase_number key.phase == 1) (jobs-few past)
  where
    go : (b : Bool) → job_launches past ≤ length past → (if b then 1 else 0) + job_launches past ≤ suc (length past)
    go true h = omega arith
    go false h = omega arith

-- what a core keeps of the nodes after a record
pub added-shown : (plan : Plan) (past now : List Record) (entry : Record) (runs runs' : List NodeProgress) (aborted flag : Bool) (jobs jobs' : ℕ)
    → Shows plan past runs aborted jobs → may_follow plan past entry ≡ true → runs' ≡ runs_after plan runs aborted entry → flag ≡ aborted_after plan runs aborted entry
    → jobs' ≡ jobs_after jobs entry → now ≡ entry ∷ past → Shows plan now runs' flag jobs'
added-shown plan past now entry runs runs' aborted flag jobs jobs' s h r f g n =
    subst (λ t. Shows plan t runs' flag jobs') (sym n)
    (subst (λ t. Shows plan (entry ∷ past) t flag jobs') (sym r)
    (subst (λ t. Shows plan (entry ∷ past) (runs_after plan runs aborted entry) t jobs') (sym f)
    (subst (λ t. Shows plan (entry ∷ past) (runs_after plan runs aborted entry) (aborted_after plan runs aborted entry) t) (sym g)
    (shows-after plan past runs aborted jobs s entry h))))

abort_free-at_first : (plan : Plan) → is_aborted plan [] ≡ false
unfolding is_aborted
abort_free-at_first plan =
    ap not (all_below-from (λ node. not (has_abort_value plan [] node)) (count_of plan)
    (λ node lt. λ j. not (setting_is_met (node_at plan node).course.abort_on (nil-value (node_at plan node).course j))))

pub fresh-shown : (plan : Plan) (runs : List NodeProgress) → AreFresh plan runs → Shows plan [] runs false 0
fresh-shown plan runs f = record {
  many = f.many;
  runs_are = f.each;
  aborted_is = sym (abort_free-at_first plan);
  jobs_are = refl;
  lawful = refl;
}

-- a node that may be launched has a next phase
pub free-next : (plan : Plan) (past : List Record) (o : Option Key) → is_free plan past o ≡ true → (key : Key) × (o ≡ Some key)
free-next plan past None h = absurd (false≢true h)
free-next plan past (Some key) h = (key, refl)

pub ready-next : (plan : Plan) (past : List Record) (node : ℕ) → is_ready plan past node ≡ true → (key : Key) × (next plan past node ≡ Some key)
unfolding is_ready
ready-next plan past node h = free-next plan past (next plan past node) (and_parts _ _ h).1

final-next : (plan : Plan) (past : List Record) → is_final_ready plan past ≡ true → (key : Key) × (next plan past (count_of plan) ≡ Some key)
unfolding is_final_ready
final-next plan past h = free-next plan past (next plan past (count_of plan)) (and_parts _ _ (and_parts _ _ (and_parts _ _ h).0).0).1

launch-next : (plan : Plan) (past : List Record) (node : ℕ) → may_launch plan past node ≡ true → (key : Key) × (next plan past node ≡ Some key)
unfolding may_launch
launch-next plan past node h = go (nat_lt node (count_of plan)) refl
  where
    go : (b : Bool) → nat_lt node (count_of plan) ≡ b → (key : Key) × (next plan past node ≡ Some key)
    go true lt = ready-next plan past node ((λ j. if sym lt j then is_ready plan past node else (node == count_of plan) && is_final_ready plan past) ∙ h)
    go false ge =
        let p = and_parts _ _ ((λ j. if sym ge j then is_ready plan past node else (node == count_of plan) && is_final_ready plan past) ∙ h) in
        subst (λ n. (key : Key) × (next plan past n ≡ Some key)) (sym (eqb-true node (count_of plan) p.0)) (final-next plan past p.1)

pub not-launchable : (plan : Plan) (past : List Record) (node : ℕ) → launchable plan past node ≡ None → may_launch plan past node ≡ false
not-launchable plan past node e = go (may_launch plan past node) refl
  where
    go : (b : Bool) → may_launch plan past node ≡ b → may_launch plan past node ≡ false
    go false h = h
    go true h =
        let k = launch-next plan past node h in
        let bad : None ≡ Some k.0 = sym e ∙ (λ j. if h j then next plan past node else None) ∙ k.1 in
        absurd cc

pub launchable-next : (plan : Plan) (past : List Record) (node : ℕ) (key : Key) → launchable plan past node ≡ Some key
    → (may_launch plan past node ≡ true) × (next plan past node ≡ Some key)
launchable-next plan past node key e = go (may_launch plan past node) refl
  where
    go : (b : Bool) → may_launch plan past node ≡ b → (may_launch plan past node ≡ true) × (next plan past node ≡ Some key)
    go true h = (h, (λ j. if sym h j then next plan past node else None) ∙ e)
    go false h =
        let bad : None ≡ Some key = (λ j. if sym h j then next plan past node else None) ∙ e in
        absurd cc

pub start-follows : (plan : Plan) (past : List Record) (node : ℕ) (key : Key) → is_open past ≡ true → launchable plan past node ≡ Some key
    → may_follow plan past (Launch key (launch_number past key)) ≡ true
unfolding may_follow
start-follows plan past node key open_now e =
    let p = launchable-next plan past node key e in
    let n : key.node ≡ node = key-node plan past node key p.1 in
    and_from _ _ (and_from _ _ (and_from _ _ open_now (subst (λ m. may_launch plan past m ≡ true) (sym n) p.0))
    (ap (λ o. is_next o key) (subst (λ m. next plan past m ≡ Some key) (sym n) p.1) ∙ same-self key))
    (eq-eqb (launch_number past key) (launch_number past key) refl)

-- what is chosen may follow
pub finish-follows : (limits : Limits) (plan : Plan) (past : List Record) (status : ℕ) → is_open past ≡ true → IsChoice limits plan past (choices.Finish status)
    → may_follow plan past (Finish status) ≡ true
unfolding may_follow
finish-follows limits plan past status open_now c =
    and_from _ _ (and_from _ _ (and_from _ _ open_now c.1) c.0) (eq-eqb status (exit_status plan past) c.2)

-- what is of no node of the plan may not follow
pub launch-outside : (plan : Plan) (past : List Record) (key : Key) (number : ℕ) → count_of plan < key.node → may_follow plan past (Launch key number) ≡ false
launch-outside plan past key number lt = false_from_ne_true _ (λ h. let w = launched-within plan past key number h in omega arith)

pub end-outside : (plan : Plan) (past : List Record) (key : Key) (outcome : Outcome) → is_lawful plan past ≡ true → count_of plan < key.node → may_follow plan past (End key outcome) ≡ false
end-outside plan past key outcome lawful lt = false_from_ne_true _ (λ h. let w = end-within plan past key outcome lawful h in omega arith)

pub among-outside : (plan : Plan) (past : List Record) (key : Key) → is_lawful plan past ≡ true → count_of plan < key.node → is_among key (outstanding plan past) ≡ false
among-outside plan past key lawful lt = false_from_ne_true _ (λ h. let w : key.node < suc (count_of plan) = each_among (Within plan) key (outstanding plan past) (outstanding-within plan past lawful) h in omega arith)

pub among-shown : (plan : Plan) (past : List Record) (key : Key) → is_lawful plan past ≡ true
    → (is_running plan past key.node && is_next (next plan past key.node) key) ≡ is_among key (outstanding plan past)
among-shown plan past key lawful = sym (among-is plan past key (outstanding plan past) (sound plan past lawful).held)
