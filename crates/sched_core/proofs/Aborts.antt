-- Whether a run meets an abort follows from the plan and the table.
use Rattle.std.proofs.Common.{◌≡◌, ℕ, ◌<◌, Bool, true, false, not, List, [], None, inl, inr, refl, sym, ap, ◌∙◌, if◌then◌else◌}
use Rattle.std.proofs.lemmas.Bool.{false≢true, not-true}
use Rattle.std.specs.List.{list_all}
use Rattle.node_machine.specs.declared.Course.{Course}
use Rattle.node_machine.specs.Story.{Table, story, newest_attempt, value_if_any, next_after, value_after}
use Rattle.node_machine.specs.MachineState.{next_of, machine_after}
use Rattle.node_machine.proofs.Beginnings.{Fits, whole-value, nil-value}
use Rattle.node_machine.proofs.Standing.{steps-next}
use Rattle.run_plan.specs.Plan.{Plan, node_at, count_of, IsRankedBy}
use Rattle.node_machine.specs.declared.Record.{Record}
use Rattle.node_machine.specs.declared.State.TheVariants.{Done, NotRun}
use Rattle.sched_core.specs.Run.{history, value_in, setting_is_met, has_abort_value, is_aborted, is_lawful}
use Rattle.sched_core.specs.Fate.{Fate, is_done_state, without_attempts, fate_by_story, AreFates, shown}
use Rattle.sched_core.specs.Lives.{HasOutcomesOf, IsRunBy}
use Rattle.sched_core.proofs.Sweeps.{all_below-from}
use Rattle.sched_core.proofs.Tests.{all-from}
use Rattle.sched_core.proofs.Sound.{sound}
use Rattle.sched_core.proofs.Held.{histories-are}
use Rattle.sched_core.proofs.Shown.{machine-value}
use Rattle.sched_core.proofs.Finished.{all_below-at, begun-fates}
use Rattle.sched_core.proofs.LivesLemmas.{told-by, table-fates}
use Rattle.sched_core.proofs.Bounds.{Quiet, quiet-after, not-false}

-- no phase follows an attempt that has the abort value
pub over-at : (plan : Plan) (past : List Record) → is_lawful plan past ≡ true → (node : ℕ) → has_abort_value plan past node ≡ true
    → next_after (node_at plan node).course (history past node) ≡ None
unfolding Quiet
over-at plan past lawful node met =
    elim (quiet-after course (history past node)) [
      | inl none ↦ steps-next course (history past node) (histories-are plan past lawful node) ∙ ap (next_of (machine_after course (history past node))) none
      | inr abort_free ↦ absurd (false≢true (sym abort_free ∙ ap (setting_is_met course.abort_on) (machine-value plan past lawful node) ∙ met))
    ]
  where
    course : Course
    course = (node_at plan node).course

-- a node's fate that ends with its abort value
abbrev pub has_abort_fate : Plan → (ℕ → Fate) → ℕ → Bool
has_abort_fate plan fates node = setting_is_met (node_at plan node).course.abort_on (fates node).value

module _ (plan : Plan) (table : Table) (rank : ℕ → ℕ) (ranked : IsRankedBy rank plan) (fates : ℕ → Fate) (are : AreFates plan table fates)
    (abort_free : (node : ℕ) → node < count_of plan → has_abort_fate plan fates node ≡ false)
    (other : List Record) (lawful : is_lawful plan other ≡ true) (told : HasOutcomesOf plan table other) where
  fit : (node : ℕ) → Fits (node_at plan node).course (history other node) (table node)
  fit node = record { plays = ((sound plan other lawful).fits node).plays; told = told-by plan table other lawful told node }

  -- where an abort value ended a node's last attempt, it ends the node's fate
  met-too : (node : ℕ) → node < count_of plan → has_abort_value plan other node ≡ true → has_abort_fate plan fates node ≡ true
  met-too node lt met = (λ j. setting_is_met (node_at plan node).course.abort_on (same j)) ∙ met
    where
      begun : history other node ≡ [] → ⊥
      begun empty = false≢true ((λ j. setting_is_met (node_at plan node).course.abort_on (sym (ap (value_after (node_at plan node).course) empty ∙ nil-value (node_at plan node).course) j)) ∙ met)

      parents : list_all (λ parent. is_done_state (fates parent).state) (node_at plan node).parents ≡ true
      parents = all-from (λ parent. is_done_state (fates parent).state) (node_at plan node).parents
          (λ parent c. begun-fates plan other lawful table fit rank ranked fates are node lt begun parent c)

      theirs : value_in plan other node ≡ value_if_any (newest_attempt (story (node_at plan node).course (table node)))
      theirs = whole-value (node_at plan node).course (history other node) ((sound plan other lawful).fits node) (over-at plan other lawful node met) (table node) (fit node)

      undone : (b : Bool) → (node_at plan node).done ≡ b → (node_at plan node).done ≡ false
      undone false e = e
      undone true e = absurd (begun ((sound plan other lawful).idle node e))

      ours : (fates node).value ≡ value_if_any (newest_attempt (story (node_at plan node).course (table node)))
      ours =
          ap (λ (f : Fate). f.value) (are node lt)
          ∙ (λ j. (if undone (node_at plan node).done refl j then without_attempts Done
          else if parents j then fate_by_story (story (node_at plan node).course (table node)) else without_attempts NotRun).value)

      same : (fates node).value ≡ value_in plan other node
      same = ours ∙ sym theirs

  -- where no fate ends with an abort value, no run with these outcomes meets an abort
  pub abort_free-fates : is_aborted plan other ≡ false
  unfolding is_aborted
  abort_free-fates = ap not (all_below-from (λ node. not (has_abort_value plan other node)) (count_of plan) (λ node lt. go node lt (has_abort_value plan other node) refl))
    where
      go : (node : ℕ) → node < count_of plan → (b : Bool) → has_abort_value plan other node ≡ b → not (has_abort_value plan other node) ≡ true
      go node lt false e = ap not e
      go node lt true e = absurd (false≢true (sym (abort_free node lt) ∙ met-too node lt e))

-- a run without abort shows no fate that ends with an abort value
pub abort_free-shown : (plan : Plan) (records : List Record) → is_aborted plan records ≡ false → (node : ℕ) → node < count_of plan → has_abort_fate plan (shown plan records) node ≡ false
unfolding is_aborted
abort_free-shown plan records abort_free node lt = not-true _ (all_below-at (λ n. not (has_abort_value plan records n)) (count_of plan) (not-false _ abort_free) node lt)

-- where one finished run meets no abort, no other run does
pub no-abort : (plan : Plan) (table : Table) (rank : ℕ → ℕ) → IsRankedBy rank plan → (records other : List Record) → IsRunBy plan table records
    → is_lawful plan other ≡ true → HasOutcomesOf plan table other → is_aborted plan other ≡ false
no-abort plan table rank ranked records other run lawful told =
    abort_free-fates plan table rank ranked (shown plan records) (table-fates plan table records run) (abort_free-shown plan records run.abort_free) other lawful told
