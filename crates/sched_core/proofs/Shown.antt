-- What a core keeps, record after record.
use Rattle.std.proofs.Common.{◌≡◌, ℕ, suc, ◌+◌, ◌<◌, Bool, true, false, not, ◌&&◌, ◌||◌, List, [], ◌∷◌, ◌++◌, length, map, ◌==◌, Option, Some, None, is_none, slice_set, refl, sym, ap, ◌∙◌, subst, arith, eq-eqb, eqb-true, length-set, if◌then◌else◌}
use Rattle.std.proofs.lemmas.Bool.{and_from, eqb-false}
use Rattle.std.proofs.lemmas.List.{length-map}
use Rattle.node_machine.specs.declared.Phase.{Phase}
use Rattle.node_machine.specs.declared.Outcome.{Outcome}
use Rattle.node_machine.specs.declared.Key.{Key}
use Rattle.node_machine.specs.declared.MachineState.{MachineState}
use Rattle.node_machine.specs.Story.{phase_number}
use Rattle.node_machine.specs.MachineState.{machine_before, machine_step, machine_after, next_of, attempts_ended}
use Rattle.node_machine.proofs.Standing.{steps-next, steps-good, steps-value, steps-ended}
use Rattle.node_machine.proofs.Trees.{got}
use Rattle.node_machine.proofs.Paces.{steps-push}
use Rattle.node_machine.proofs.Beginnings.{seen}
use Rattle.node_machine.specs.NodeRun.{counted_at, started, stopped, ended_with}
use Rattle.run_plan.specs.Plan.{Plan, node_at, count_of}
use Rattle.node_machine.specs.NodeProgress.{NodeProgress}
use Rattle.node_machine.specs.declared.Record.{Record}
use Rattle.node_machine.specs.declared.Record.TheVariants.{Life, Launch, End, Finish}
use Rattle.sched_core.specs.Run.{history, key_at, next, is_done, attempts_in, value_in, setting_is_met, has_abort_value, is_aborted, outstanding, without, may_follow, is_lawful}
use Rattle.sched_core.specs.Core.{Shows, node_progress, run_at, is_running, has_key_of, aborted_in, runs_after, aborted_after, jobs_after}
use Rattle.sched_core.proofs.Keys.{each_among}
use Rattle.sched_core.proofs.Sound.{Held, sound, end-among, next-parts}
use Rattle.sched_core.proofs.Held.{histories-are, without-own, without-other, end-within, launched-within}
use Rattle.sched_core.proofs.Sweeps.{all_below-same, run_at-same, run_at-other, run_at-stopped}

-- the phase of what comes next
phase-of : (machine : MachineState) (o : Option Phase) (i : ℕ) (phase : Phase) → next_of machine o ≡ Some (i, phase) → o ≡ Some phase
phase-of machine None i phase e = absurd cc
phase-of machine (Some other) i phase e =
    let left : ℕ × Phase = (machine.attempt, other) in
    let right : ℕ × Phase = (i, phase) in
    let k : left ≡ right = cc in
    λ j. Some (k j).1

-- what one node's stand says
module _ (plan : Plan) (past : List Record) (lawful : is_lawful plan past ≡ true) (node : ℕ) where
  abbrev machine : MachineState
  machine = machine_after (node_at plan node).course (history past node)

  pub machine-next : (if (node_at plan node).done then None else key_at node (next_of machine machine.phase)) ≡ next plan past node
  machine-next = λ j. if (node_at plan node).done then None else key_at node (sym (steps-next (node_at plan node).course (history past node) (histories-are plan past lawful node)) j)

  pub machine-done : ((node_at plan node).done || (is_none machine.phase && machine.good)) ≡ is_done plan past node
  machine-done = λ j. (node_at plan node).done || sym (steps-good (node_at plan node).course (history past node) (histories-are plan past lawful node)) j

  pub machine-value : machine.value ≡ value_in plan past node
  machine-value = sym (steps-value (node_at plan node).course (history past node) (histories-are plan past lawful node))

  pub machine-attempts : attempts_ended machine ≡ attempts_in plan past node
  machine-attempts = sym (steps-ended (node_at plan node).course (history past node) (histories-are plan past lawful node))

-- the phase that comes next is there
pub next-phase : (plan : Plan) (past : List Record) → is_lawful plan past ≡ true → (key : Key) → next plan past key.node ≡ Some key
    → (machine_after (node_at plan key.node).course (history past key.node)).phase ≡ Some key.phase
next-phase plan past lawful key is =
    phase-of (machine_after (node_at plan key.node).course (history past key.node)) (machine_after (node_at plan key.node).course (history past key.node)).phase key.attempt key.phase
    (sym (steps-next (node_at plan key.node).course (history past key.node) (histories-are plan past lawful key.node))
    ∙ (next-parts plan past key.node key is).1)

-- the states of these records show the abort
pub aborted-is : (plan : Plan) (past : List Record) → is_lawful plan past ≡ true → (runs : List NodeProgress)
    → ((node : ℕ) → node < suc (count_of plan) → (run_at runs node).machine ≡ machine_after (node_at plan node).course (history past node))
    → aborted_in plan runs ≡ is_aborted plan past
unfolding is_aborted
aborted-is plan past lawful runs stands =
    ap not (all_below-same (λ node. not (setting_is_met (node_at plan node).course.abort_on (run_at runs node).machine.value)) (λ node. not (has_abort_value plan past node)) (count_of plan)
    (λ node lt. λ j. not (setting_is_met (node_at plan node).course.abort_on ((ap (λ (s : MachineState). s.value) (stands node (omega arith)) ∙ machine-value plan past lawful node) j))))

pub silent-life : (plan : Plan) (past : List Record) → is_aborted plan past ≡ is_aborted plan (Life ∷ past)
unfolding is_aborted
silent-life plan past = refl

pub silent-launch : (plan : Plan) (past : List Record) (key : Key) (number : ℕ) → is_aborted plan past ≡ is_aborted plan (Launch key number ∷ past)
unfolding is_aborted
silent-launch plan past key number = refl

pub silent-finish : (plan : Plan) (past : List Record) (status : ℕ) → is_aborted plan past ≡ is_aborted plan (Finish status ∷ past)
unfolding is_aborted
silent-finish plan past status = refl

module _ (plan : Plan) (past : List Record) (runs : List NodeProgress) (aborted : Bool) (jobs : ℕ) (s : Shows plan past runs aborted jobs) where
  shows-life : may_follow plan past Life ≡ true → Shows plan (Life ∷ past) (map stopped runs) aborted jobs
  shows-life h = record {
    many = length-map runs stopped ∙ s.many;
    runs_are = λ node lt. run_at-stopped runs node ∙ ap stopped (s.runs_are node lt);
    aborted_is = s.aborted_is ∙ silent-life plan past;
    jobs_are = s.jobs_are;
    lawful = and_from _ _ s.lawful h;
  }

  shows-finish : (status : ℕ) → may_follow plan past (Finish status) ≡ true → Shows plan (Finish status ∷ past) runs aborted jobs
  shows-finish status h = record {
    many = s.many;
    runs_are = λ node lt. s.runs_are node lt;
    aborted_is = s.aborted_is ∙ silent-finish plan past status;
    jobs_are = s.jobs_are;
    lawful = and_from _ _ s.lawful h;
  }

  module _ (key : Key) (number : ℕ) (h : may_follow plan past (Launch key number) ≡ true) where
    launched-run : (node : ℕ) → node < suc (count_of plan) → run_at (slice_set runs key.node (started (run_at runs key.node))) node ≡ node_progress plan (Launch key number ∷ past) node
    launched-run node lt = go (key.node == node) refl
      where
        run : NodeProgress
        run = started (run_at runs key.node)

        within : key.node < suc (count_of plan)
        within = launched-within plan past key number h

        go : (b : Bool) → (key.node == node) ≡ b → run_at (slice_set runs key.node run) node ≡ node_progress plan (Launch key number ∷ past) node
        go true same =
            subst (λ n. run_at (slice_set runs key.node run) n ≡ node_progress plan (Launch key number ∷ past) n) (eqb-true key.node node same)
            (run_at-same runs key.node run (let m = s.many in let w : key.node < suc (count_of plan) = within in omega arith) ∙ ap started (s.runs_are key.node within)
            ∙ (λ j. record { course = (node_at plan key.node).course; machine = machine_after (node_at plan key.node).course (history past key.node); running = sym (eq-eqb key.node key.node refl) j || is_running plan past key.node }))
        go false ne =
            run_at-other runs key.node run node (eqb-false key.node node ne) ∙ s.runs_are node lt
            ∙ (λ j. record { course = (node_at plan node).course; machine = machine_after (node_at plan node).course (history past node); running = sym ne j || is_running plan past node })

    shows-launch : Shows plan (Launch key number ∷ past) (slice_set runs key.node (started (run_at runs key.node))) aborted (jobs_after jobs (Launch key number))
    shows-launch = record {
      many = length-set runs key.node (started (run_at runs key.node)) ∙ s.many;
      runs_are = launched-run;
      aborted_is = s.aborted_is ∙ silent-launch plan past key number;
      jobs_are = ap (λ n. (if phase_number key.phase == 1 then 1 else 0) + n) s.jobs_are;
      lawful = and_from _ _ s.lawful h;
    }

  module _ (key : Key) (outcome : Outcome) (h : may_follow plan past (End key outcome) ≡ true) where
    abbrev now : List Record
    now = End key outcome ∷ past

    abbrev after_end : NodeProgress
    after_end = ended_with (run_at runs key.node) outcome

    abbrev ended_runs : List NodeProgress
    ended_runs = slice_set runs key.node after_end

    within : key.node < suc (count_of plan)
    within = end-within plan past key outcome s.lawful h

    held : Held plan past key
    held = each_among (Held plan past) key (outstanding plan past) (sound plan past s.lawful).held (end-among plan past key outcome h).0

    lawful-now : is_lawful plan now ≡ true
    lawful-now = and_from _ _ s.lawful h

    abbrev own-machine : MachineState
    own-machine = machine_after (node_at plan key.node).course (history past key.node)

    own-phase : own-machine.phase ≡ Some key.phase
    own-phase = next-phase plan past s.lawful key held.is_next

    counted : counted_at (node_at plan key.node).course own-machine.phase outcome ≡ outcome
    counted =
        (λ j. counted_at (node_at plan key.node).course (own-phase j) outcome)
        ∙ seen (node_at plan key.node).course key.phase outcome outcome (end-among plan past key outcome h).1 (λ n. refl)

    own-run : run_at ended_runs key.node ≡ record { course = (node_at plan key.node).course; machine = machine_after (node_at plan key.node).course (history now key.node); running = false }
    own-run =
        run_at-same runs key.node after_end (let m = s.many in let w : key.node < suc (count_of plan) = within in omega arith)
        ∙ (λ j. ended_with (s.runs_are key.node within j) outcome)
        ∙ (λ j. record { course = (node_at plan key.node).course; machine = machine_step (node_at plan key.node).course own-machine (counted j); running = false })
        ∙ (λ j. record { course = (node_at plan key.node).course; machine = sym (steps-push (node_at plan key.node).course (machine_before (node_at plan key.node).course 0 None false) (history past key.node) (got key.attempt key.phase outcome)) j; running = false })
        ∙ (λ j. record { course = (node_at plan key.node).course; machine = machine_after (node_at plan key.node).course (if sym (eq-eqb key.node key.node refl) j then history past key.node ++ got key.attempt key.phase outcome ∷ [] else history past key.node); running = false })

    other-run : (node : ℕ) → node < suc (count_of plan) → (key.node == node) ≡ false
        → run_at ended_runs node ≡ record { course = (node_at plan node).course; machine = machine_after (node_at plan node).course (history now node); running = is_running plan past node }
    other-run node lt ne =
        run_at-other runs key.node after_end node (eqb-false key.node node ne) ∙ s.runs_are node lt
        ∙ (λ j. record { course = (node_at plan node).course; machine = machine_after (node_at plan node).course (if sym ne j then history past node ++ got key.attempt key.phase outcome ∷ [] else history past node); running = is_running plan past node })

    -- with what is outstanding but for this key
    end-run : (node : ℕ) → node < suc (count_of plan)
        → run_at ended_runs node ≡ record { course = (node_at plan node).course; machine = machine_after (node_at plan node).course (history now node); running = has_key_of node (without key (outstanding plan past)) }
    end-run node lt = go (key.node == node) refl
      where
        go : (b : Bool) → (key.node == node) ≡ b
            → run_at ended_runs node ≡ record { course = (node_at plan node).course; machine = machine_after (node_at plan node).course (history now node); running = has_key_of node (without key (outstanding plan past)) }
        go true same =
            subst (λ n. run_at ended_runs n ≡ record { course = (node_at plan n).course; machine = machine_after (node_at plan n).course (history now n); running = has_key_of n (without key (outstanding plan past)) }) (eqb-true key.node node same)
            (own-run ∙ (λ j. record { course = (node_at plan key.node).course; machine = machine_after (node_at plan key.node).course (history now key.node); running = sym (without-own plan past key held.is_next (outstanding plan past) (sound plan past s.lawful).held) j }))
        go false ne =
            other-run node lt ne
            ∙ (λ j. record { course = (node_at plan node).course; machine = machine_after (node_at plan node).course (history now node); running = sym (without-other plan past key node ne (outstanding plan past)) j })

    end-aborted : aborted_in plan ended_runs ≡ is_aborted plan now
    end-aborted = aborted-is plan now lawful-now ended_runs (λ node lt. ap (λ (r : NodeProgress). r.machine) (end-run node lt))

    end-many : (b : Bool) → length (if b then map stopped ended_runs else ended_runs) ≡ suc (count_of plan)
    end-many true = length-map ended_runs stopped ∙ length-set runs key.node after_end ∙ s.many
    end-many false = length-set runs key.node after_end ∙ s.many

    end-runs : (b : Bool) (node : ℕ) → node < suc (count_of plan)
        → run_at (if b then map stopped ended_runs else ended_runs) node
        ≡ record { course = (node_at plan node).course; machine = machine_after (node_at plan node).course (history now node); running = has_key_of node (if b then [] else without key (outstanding plan past)) }
    end-runs true node lt = run_at-stopped ended_runs node ∙ ap stopped (end-run node lt)
    end-runs false node lt = end-run node lt

    tests : (aborted_in plan ended_runs && not aborted) ≡ (is_aborted plan now && not (is_aborted plan past))
    tests = λ j. end-aborted j && not (s.aborted_is j)

    shows-end : Shows plan now (runs_after plan runs aborted (End key outcome)) (aborted_in plan ended_runs) jobs
    shows-end = record {
      many = end-many (aborted_in plan ended_runs && not aborted);
      runs_are = λ node lt.
          end-runs (aborted_in plan ended_runs && not aborted) node lt
          ∙ (λ j. record { course = (node_at plan node).course; machine = machine_after (node_at plan node).course (history now node); running = has_key_of node (if tests j then [] else without key (outstanding plan past)) });
      aborted_is = end-aborted;
      jobs_are = s.jobs_are;
      lawful = lawful-now;
    }

  -- what a core keeps follows its records
  pub shows-after : (entry : Record) → may_follow plan past entry ≡ true
      → Shows plan (entry ∷ past) (runs_after plan runs aborted entry) (aborted_after plan runs aborted entry) (jobs_after jobs entry)
  shows-after Life h = shows-life h
  shows-after (Launch key number) h = shows-launch key number h
  shows-after (End key outcome) h = shows-end key outcome h
  shows-after (Finish status) h = shows-finish status h
