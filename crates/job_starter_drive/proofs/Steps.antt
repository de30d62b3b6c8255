-- What a record makes of a run, and why it is refused.
use Rattle.std.proofs.Common.{None, arith, ◌≡◌, ℕ, zero, suc, drop, ◌≤◌, ◌<◌, length, Bool, true, false, not, ◌&&◌, ◌||◌, ◌==◌, List, [], ◌∷◌, Option, Some, Result, Ok, Err, IfErr, OnOk, refl, sym, ap, ◌∙◌, subst, eq-eqb, reverse}
use Rattle.std.specs.List.{list_all}
use Rattle.std.proofs.lemmas.Bool.{and_parts, and_from, false≢true, not-true}
use Rattle.std.proofs.lemmas.List.{length-reverse}
use Rattle.event_journal_log.specs.declared.disk.Disk.{Ghosts}
use Rattle.node_machine.specs.declared.Key.{Key}
use Rattle.node_machine.specs.declared.Phase.{Phase}
use Rattle.node_machine.specs.declared.Phase.TheVariants.{Pre, Job, Post}
use Rattle.node_machine.specs.declared.Outcome.{Outcome}
use Rattle.node_machine.specs.declared.Outcome.TheVariants.{Exit}
use Rattle.node_machine.specs.Story.{is_possible, may_end_with, is_exit_0, is_noop_job}
use Rattle.throttles.specs.declared.Limits.{Limits}
use Rattle.run_plan_node.specs.Node.{NodeSpec}
use Rattle.run_plan.specs.Plan.{Plan, node_at, count_of}
use Rattle.run_plan_node.specs.Commands.{starts_child}
use Rattle.node_machine.specs.declared.Record.{Record}
use Rattle.node_machine.specs.declared.Record.TheVariants.{End}
use Rattle.sched_core.specs.Run.{history, next, is_open, is_over, may_follow, may_launch, is_lawful, is_nothing, is_among, is_same, outstanding}
use Rattle.sched_core.specs.Core.{has_key_of}
use Rattle.sched_core.specs.Choices.{startable, nothing_launchable}
use Rattle.sched_core.specs.Ahead.{NothingToStart}
use Rattle.sched_core.proofs.Keys.{same-eq, each_among}
use Rattle.sched_core.proofs.Best.{startable-parts}
use Rattle.sched_core.proofs.Moves.{launchable-next}
use Rattle.sched_core.proofs.Sweeps.{all_below-not}
use Rattle.sched_core.proofs.Held.{launch-within, histories-are, Within, outstanding-within}
use Rattle.sched_core.proofs.Sound.{Held, sound, next-parts}
use Rattle.sched_core.proofs.Turns.{turn-allowed}
use Rattle.event_journal_log.specs.Disk.{IsOneMore}
use Rattle.recovery_manager.specs.declared.fault.ManagerFault.{ManagerFault}
use Rattle.recovery_manager.specs.Managed.{Managed, is_begun, KeepsDisk}
use Rattle.job_starter_drive.specs.declared.Call.{Call}
use Rattle.job_starter_drive.specs.declared.driving.DriveFault.{DriveFault}
use Rattle.job_starter_drive.specs.Calls.{running}
use Rattle.job_starter_drive.specs.Drives.{AreInStep}
use Rattle.job_starter_drive.specs.Moments.{CountsOn}
use Rattle.job_starter_drive.proofs.Disks.{keeps_on, counts_on}
use Rattle.job_starter_drive.specs.Causes.{AreRefused, IsDriveFault, no_memory_for_child, no_ending_logged, no_memory_for_command, no_memory_for_round, records_refused, run_halted}

-- an ending of what is outstanding is lawful
pub end-may-follow : (plan : Plan) (past : List Record) (key : Key) (outcome : Outcome)
    → is_open past ≡ true → is_among key (outstanding plan past) ≡ true → is_possible outcome ≡ true
    → may_end_with (node_at plan key.node).course key.phase outcome ≡ true
    → may_follow plan past (End key outcome) ≡ true
unfolding may_follow
end-may-follow plan past key outcome going among possible fits =
    and_from _ _ (and_from _ _ going among) (and_from _ _ possible fits)

pub among-node : (key : Key) (keys : List Key) → is_among key keys ≡ true → has_key_of key.node keys ≡ true
among-node key [] is = is
among-node key (other ∷ keys) is = go (is_same key other) refl is (λ some. later (other.node == key.node) (among-node key keys some))
  where
    later : (b : Bool) → has_key_of key.node keys ≡ true → (b || has_key_of key.node keys) ≡ true
    later true h = refl
    later false h = h

    go : (b : Bool) → is_same key other ≡ b → (b || is_among key keys) ≡ true
        → (is_among key keys ≡ true → ((other.node == key.node) || has_key_of key.node keys) ≡ true)
        → ((other.node == key.node) || has_key_of key.node keys) ≡ true
    go true same some rest =
        let node : other.node ≡ key.node = sym (ap (λ (k : Key). k.node) (same-eq key other same)) in
        λ j. eq-eqb other.node key.node node j || has_key_of key.node keys
    go false same some rest = rest some

-- an outstanding phase is what comes next of its node, in an attempt that is allowed
module _ (plan : Plan) (past : List Record) (lawful : is_lawful plan past ≡ true) (key : Key) (among : is_among key (outstanding plan past) ≡ true) where
  pub running-next : next plan past key.node ≡ Some key
  running-next = (each_among (Held plan past) key (outstanding plan past) (sound plan past lawful).held among).is_next

  pub running-within : key.node ≤ count_of plan
  running-within = let lt = each_among (Within plan) key (outstanding plan past) (outstanding-within plan past lawful) among in omega (arith, lt)

  pub running-allowed : key.attempt ≤ (node_at plan key.node).course.retries
  running-allowed =
      turn-allowed (node_at plan key.node).course (history past key.node) (histories-are plan past lawful key.node) (key.attempt, key.phase)
      (next-parts plan past key.node key running-next).1

-- a phase that starts a child may end in any way
no_noop : (b : Bool) → (b && false) ≡ false
no_noop true = refl
no_noop false = refl

pub child-ends : (node : NodeSpec) (phase : Phase) (outcome : Outcome) → starts_child node phase ≡ true → may_end_with node.course phase outcome ≡ true
child-ends node Pre outcome is = λ j. not (no_noop node.course.noop j) || is_exit_0 outcome
child-ends node Job outcome is = λ j. not (not-true node.course.noop is j && true) || is_exit_0 outcome
child-ends node Post outcome is = λ j. not (no_noop node.course.noop j) || is_exit_0 outcome

pub children-start : (plan : Plan) (keys : List Key) (key : Key)
    → list_all (λ (k : Key). starts_child (node_at plan k.node) k.phase) keys ≡ true → is_among key keys ≡ true
    → starts_child (node_at plan key.node) key.phase ≡ true
children-start plan [] key all is = absurd (false≢true is)
children-start plan (other ∷ keys) key all is = go (is_same key other) refl is (children-start plan keys key (and_parts _ _ all).1)
  where
    go : (b : Bool) → is_same key other ≡ b → (b || is_among key keys) ≡ true
        → (is_among key keys ≡ true → starts_child (node_at plan key.node) key.phase ≡ true)
        → starts_child (node_at plan key.node) key.phase ≡ true
    go true same some rest = subst (λ (k : Key). starts_child (node_at plan k.node) k.phase ≡ true) (sym (same-eq key other same)) (and_parts _ _ all).0
    go false same some rest = rest some

-- why a run is stopped is so as long as the counts stand
pub fault-on : {D : Type 0} (disks : Ghosts D) (before now later : ℕ) (old manager : Managed D) (refused : List Record) (fault : DriveFault) → later ≡ now
    → IsDriveFault disks before now old manager refused fault → IsDriveFault disks before later old manager refused fault
fault-on disks before now later old manager refused fault same why =
    subst (λ (count : ℕ). IsDriveFault disks before count old manager refused fault) (sym same) why

-- records are refused for a call that began earlier too
pub refused-since : {D : Type 0} (disks : Ghosts D) (refused : List Record) (old mid manager : Managed D) (fault : ManagerFault)
    → KeepsDisk disks old.journal mid.journal → CountsOn old mid
    → AreRefused disks refused mid manager fault → AreRefused disks refused old manager fault
refused-since disks refused old mid manager fault keeps counts r = record {
  then_was = r.then_was;
  same = r.same;
  disk = keeps_on disks old mid r.then_was keeps r.disk;
  counts = counts_on old mid r.then_was counts r.counts;
  lawful = r.lawful;
  cause = r.cause;
}

-- however the manager was earlier, where nothing was refused since
pub fault-before : {D : Type 0} (disks : Ghosts D) (earlier before now : ℕ) (old mid manager : Managed D) (refused : List Record) (fault : DriveFault) → before ≡ earlier
    → KeepsDisk disks old.journal mid.journal → CountsOn old mid
    → IsDriveFault disks before now mid manager refused fault → IsDriveFault disks earlier now old manager refused fault
fault-before disks earlier before now old mid manager _ _ same keeps counts (no_memory_for_child more) = no_memory_for_child (subst (λ (count : ℕ). IsOneMore count now) same more)
fault-before disks earlier before now old mid manager _ _ same keeps counts (no_ending_logged more) = no_ending_logged (subst (λ (count : ℕ). IsOneMore count now) same more)
fault-before disks earlier before now old mid manager _ _ same keeps counts (no_memory_for_command still) = no_memory_for_command (still ∙ same)
fault-before disks earlier before now old mid manager _ _ same keeps counts (no_memory_for_round still) = no_memory_for_round (still ∙ same)
fault-before disks earlier before now old mid manager _ _ same keeps counts (run_halted still) = run_halted (still ∙ same)
fault-before disks earlier before now old mid manager _ _ same keeps counts (records_refused {refused = refused} {fault = fault} still why) =
    records_refused (still ∙ same) (refused-since disks refused old mid manager fault keeps counts why)

pub open-begun : (past : List Record) → is_begun past ≡ true → is_over past ≡ false → is_open past ≡ true
open-begun [] begun over = absurd (false≢true begun)
open-begun (newest ∷ past) begun over = ap not over

-- where nothing may be launched, nothing is let in
pub nothing-startable : (limits : Limits) (plan : Plan) (past : List Record) → nothing_launchable plan past (suc (count_of plan)) ≡ true → NothingToStart limits plan past
nothing-startable limits plan past nothing node = go (startable limits plan past node) refl
  where
    go : (o : Option Key) → startable limits plan past node ≡ o → startable limits plan past node ≡ None
    go None e = e
    go (Some key) e =
        let may = (launchable-next plan past node key (startable-parts limits plan past node key e).0).0 in
        absurd (false≢true (sym (all_below-not (λ n. not (may_launch plan past n)) (suc (count_of plan)) node (launch-within plan past node may) (ap not may)) ∙ nothing))

-- something is outstanding
pub some_child : (keys : List Key) → is_nothing keys ≡ false → keys ≡ [] → ⊥
some_child [] some none = false≢true (sym some)
some_child (key ∷ keys) some none = absurd cc

pub some-length : (keys : List Key) → is_nothing keys ≡ false → 0 < length keys
some-length [] some = absurd (false≢true (sym some))
some-length (key ∷ keys) some = omega arith

pub open-going : (past : List Record) → is_open past ≡ true → is_over past ≡ false
open-going [] going = absurd (false≢true going)
open-going (newest ∷ past) going = not-true (is_over (newest ∷ past)) going

-- the job of a NOOP exits with 0
pub noop-ends : (node : NodeSpec) (phase : Phase) → may_end_with node.course phase (Exit 0) ≡ true
noop-ends node phase = go (is_noop_job node.course phase)
  where
    go : (b : Bool) → (not b || is_exit_0 (Exit 0)) ≡ true
    go true = refl
    go false = refl

-- nothing is left after all
pub drop-all : (keys : List Key) (place : ℕ) → place ≡ length keys → drop place keys ≡ []
drop-all [] zero is = refl
drop-all [] (suc place) is = refl
drop-all (key ∷ keys) zero is = absurd cc
drop-all (key ∷ keys) (suc place) is = drop-all keys place (omega (arith, is))

-- what follows of an answer
pub on-ok : {X : Type 0} (result : Result X DriveFault) (P Q : Type 0) → (P → Q) → OnOk result P → OnOk result Q
on-ok (Ok x) P Q goes p = goes p
on-ok (Err fault) P Q goes p = tt

pub if-err : {X : Type 0} (result : Result X DriveFault) (P Q : DriveFault → Type 0) → ((fault : DriveFault) → P fault → Q fault) → IfErr result P → IfErr result Q
if-err (Ok x) P Q goes p = tt
if-err (Err fault) P Q goes p = goes fault p

pub some-there : (keys : List Key) → 0 < length keys → is_nothing keys ≡ false
some-there [] some = absurd (omega (arith, some))
some-there (key ∷ keys) some = refl

pub none-there : (keys : List Key) → length keys ≡ 0 → is_nothing keys ≡ true
none-there [] none = refl
none-there (key ∷ keys) none = absurd (omega (arith, none))

-- who runs is what is outstanding
pub nobody-runs : (plan : Plan) (past : List Record) (call_log : List Call) (keys : List Key) → reverse keys ≡ running call_log → length keys ≡ 0
    → AreInStep plan past call_log → is_nothing (outstanding plan past) ≡ true
nobody-runs plan past call_log [] is none step = ap is_nothing (sym step.same ∙ sym is)
nobody-runs plan past call_log (key ∷ keys) is none step = absurd (omega (arith, none))

pub somebody-runs : (plan : Plan) (past : List Record) (call_log : List Call) (keys : List Key) → reverse keys ≡ running call_log → 0 < length keys
    → AreInStep plan past call_log → is_nothing (outstanding plan past) ≡ false
somebody-runs plan past call_log keys is some step =
    let size = length-reverse keys in ap is_nothing (sym step.same ∙ sym is) ∙ some-there (reverse keys) (omega (arith, size, some))
