-- Where nodes stand in a finished run.
use Rattle.std.proofs.Common.{◌≡◌, ℕ, zero, suc, ◌<◌, Bool, true, false, List, ◌++◌, Option, Some, None, is_some, is_none, refl, sym, ap, ◌∙◌, subst, arith, lt-ltb, ltb-true, ltb-false, if◌then◌else◌}
use Rattle.std.specs.Prelude.{nat_lt}
use Rattle.std.specs.List.{list_all}
use Rattle.node_machine.specs.declared.Key.{Key}
use Rattle.node_machine.specs.declared.State.TheVariants as states
use Rattle.node_machine.specs.Story.{Table}
use Rattle.run_plan.specs.Plan.{Plan, node_at, count_of, IsRankedBy}
use Rattle.node_machine.specs.declared.Record.{Record}
use Rattle.sched_core.specs.Run.{next, is_done, outstanding, is_final_ready, is_aborted, is_finished, attempts_in, value_in}
use Rattle.sched_core.specs.Fate.{Fate, AreFates, shown}
use Rattle.sched_core.specs.Lives.{IsRunBy}
use Rattle.sched_core.proofs.Finished as core
use Rattle.sched_core.proofs.LivesLemmas.{table-fates}
use Rattle.sched_core.proofs.Matching.{fates-unique}
use Rattle.status_report.specs.declared.status.Status.TheVariants.{Done, Error}
use Rattle.status_report.specs.Status.{phase_of, is_due, status_by, status_at, status_of_state}
use Rattle.status_report.specs.Text.{status_line, lines_of, reported, status_text_of, fate_line, fate_lines}
use Rattle.status_report.proofs.Running.{none-there}

module _ (plan : Plan) (past : List Record) (finished : is_finished plan past ≡ true) where
  pub final-status : is_some plan.final_node ≡ true → status_at plan past (count_of plan) ≡ status_of_state (shown plan past (count_of plan)).state
  final-status some = go (is_done plan past (count_of plan))
    where
      over : next plan past (count_of plan) ≡ None
      over = core.final-ended plan past finished some

      go : (d : Bool)
          → (if d then Done
          else if is_none (next plan past (count_of plan)) then Error
          else status_by (phase_of (count_of plan) (outstanding plan past)) (is_due plan past (count_of plan)))
          ≡ status_of_state (if d then states.Done else if is_none (next plan past (count_of plan)) then states.Error else states.NotRun)
      go true = refl
      go false =
          (λ j. if is_none (over j) then Error else status_by (phase_of (count_of plan) (outstanding plan past)) (is_due plan past (count_of plan)))
          ∙ (λ j. status_of_state (if is_none (sym over j) then states.Error else states.NotRun))

  module _ (abort_free : is_aborted plan past ≡ false) where
    pub ordinary-status : (node : ℕ) → node < count_of plan → status_at plan past node ≡ status_of_state (shown plan past node).state
    ordinary-status node lt = go (is_done plan past node) (next plan past node) refl
      where
        go : (d : Bool) (o : Option Key) → next plan past node ≡ o
            → (if d then Done
            else if is_none (next plan past node) then Error
            else status_by (phase_of node (outstanding plan past)) (is_due plan past node))
            ≡ status_of_state (if d then states.Done else if is_none (next plan past node) then states.Error else states.NotRun)
        go true o e = refl
        go false None e =
            (λ j. if is_none (e j) then Error else status_by (phase_of node (outstanding plan past)) (is_due plan past node))
            ∙ (λ j. status_of_state (if is_none (sym e j) then states.Error else states.NotRun))
        go false (Some key) e =
            let waits = core.finished-waits plan past finished abort_free node lt key e in
            (λ j. if is_none (e j) then Error else status_by (phase_of node (outstanding plan past)) (is_due plan past node))
            ∙ (λ j. status_by (none-there node (outstanding plan past) waits.0 j) (is_due plan past node))
            ∙ (λ j. status_by None (if lt-ltb node (count_of plan) lt j then list_all (is_done plan past) (node_at plan node).parents else is_final_ready plan past))
            ∙ ap (status_by None) waits.1
            ∙ (λ j. status_of_state (if is_none (sym e j) then states.Error else states.NotRun))

    lines : (n : ℕ) → ((node : ℕ) → node < n → status_at plan past node ≡ status_of_state (shown plan past node).state)
        → lines_of plan past n ≡ fate_lines plan (shown plan past) n
    lines zero same = refl
    lines (suc n) same =
        λ j. lines n (λ node lt. same node (omega arith)) j ++ status_line (node_at plan n).name (same n (omega arith) j) (attempts_in plan past n) (value_in plan past n)

    pub all-lines : status_text_of plan past ≡ fate_lines plan (shown plan past) (reported plan)
    all-lines = lines (reported plan) (λ node lt. go (is_some plan.final_node) refl node lt)
      where
        go : (b : Bool) → is_some plan.final_node ≡ b → (node : ℕ) → node < (if b then suc (count_of plan) else count_of plan)
            → status_at plan past node ≡ status_of_state (shown plan past node).state
        go false e node lt = ordinary-status node lt
        go true e node lt = last (nat_lt node (count_of plan)) refl
          where
            last : (b : Bool) → nat_lt node (count_of plan) ≡ b → status_at plan past node ≡ status_of_state (shown plan past node).state
            last true l = ordinary-status node (ltb-true node (count_of plan) l)
            last false l =
                let ge = ltb-false node (count_of plan) l in
                let n : count_of plan ≡ node = omega arith in
                subst (λ (k : ℕ). status_at plan past k ≡ status_of_state (shown plan past k).state) n (final-status e)

    pub ordinary-lines : lines_of plan past (count_of plan) ≡ fate_lines plan (shown plan past) (count_of plan)
    ordinary-lines = lines (count_of plan) ordinary-status

-- the same fates give the same lines
pub same-lines : (plan : Plan) (fates other : ℕ → Fate) (n : ℕ) → ((node : ℕ) → node < n → fates node ≡ other node) → fate_lines plan fates n ≡ fate_lines plan other n
same-lines plan fates other zero same = refl
same-lines plan fates other (suc n) same =
    λ j. same-lines plan fates other n (λ node lt. same node (omega arith)) j ++ fate_line (node_at plan n).name (same n (omega arith) j)

pub text-of-fates : (plan : Plan) (table : Table) (rank : ℕ → ℕ) → IsRankedBy rank plan → (past : List Record) → IsRunBy plan table past
    → (fates : ℕ → Fate) → AreFates plan table fates → lines_of plan past (count_of plan) ≡ fate_lines plan fates (count_of plan)
text-of-fates plan table rank ranked past run fates are =
    ordinary-lines plan past run.finished run.abort_free
    ∙ same-lines plan (shown plan past) fates (count_of plan) (fates-unique plan table rank ranked (shown plan past) fates (table-fates plan table past run) are)
