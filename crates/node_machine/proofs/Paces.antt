-- Steps of a node, and how many attempts they allow.
use Rattle.std.proofs.Common.{◌≡◌, ℕ, suc, ◌≤◌, ℤ, pos, Bool, true, false, ◌||◌, List, [], ◌∷◌, ◌++◌, ◌==◌, Option, Some, None, refl, sym, subst, arith, append-nil, append_assoc, if◌then◌else◌}
use Rattle.std.proofs.lemmas.Bool.{and_parts, and_from, eqb-false}
use Rattle.std.specs.Ordering.{int_eq}
use Rattle.node_machine.specs.declared.Phase.{Phase}
use Rattle.node_machine.specs.declared.Phase.TheVariants.{Pre, Job, Post}
use Rattle.node_machine.specs.declared.Outcome.{Outcome}
use Rattle.node_machine.specs.declared.Ended.{Ended}
use Rattle.node_machine.specs.declared.Course.{Course}
use Rattle.node_machine.specs.declared.MachineState.{MachineState}
use Rattle.node_machine.specs.Story.{is_set_to, skips, is_exit_0, always_posts, value_of, next_after, may_end_with, is_that_phase, may_go_on}
use Rattle.node_machine.specs.MachineState.{machine_before, attempt_closed, pre_failed, machine_step_at, machine_step, steps, machine_after}

pub steps-push : (course : Course) (s : MachineState) (es : List Ended) (e : Ended) → steps course s (es ++ e ∷ []) ≡ machine_step course (steps course s es) e.outcome
steps-push course s [] e = refl
steps-push course s (x ∷ es) e = steps-push course (machine_step course s x.outcome) es e

-- one of two states
pick : (P : MachineState → Type 0) (b : Bool) (s t : MachineState) → P s → P t → P (if b then s else t)
pick P true s t p q = p
pick P false s t p q = q

closed-attempt : (course : Course) (i : ℕ) (value : ℤ) (good : Bool) → i ≤ course.retries → (attempt_closed course i value good).attempt ≤ course.retries
closed-attempt course i value good le = go (good || is_set_to course.unless_exit value || is_set_to course.abort_on value) (i == course.retries) refl
  where
    go : (a b : Bool) → (i == course.retries) ≡ b
        → (if a || b then record { attempt = i; phase = None; value = Some value; good = good } else machine_before course (suc i) (Some value) good).attempt ≤ course.retries
    go true b e = le
    go false true e = le
    go false false e = let ne = eqb-false i course.retries e in omega arith

pub step-attempt : (course : Course) (s : MachineState) (outcome : Outcome) → s.attempt ≤ course.retries → (machine_step course s outcome).attempt ≤ course.retries
step-attempt course s outcome le = go s.phase
  where
    decided-attempt : (attempt_closed course s.attempt (value_of outcome) (int_eq (value_of outcome) (pos 0))).attempt ≤ course.retries
    decided-attempt = closed-attempt course s.attempt (value_of outcome) (int_eq (value_of outcome) (pos 0)) le

    go : (o : Option Phase) → (machine_step_at course s o outcome).attempt ≤ course.retries
    go None = le
    go (Some Pre) =
        pick (λ t. t.attempt ≤ course.retries) (skips course outcome) (attempt_closed course s.attempt (pos 0) true)
        (if is_exit_0 outcome then record { attempt = s.attempt; phase = Some Job; value = s.value; good = s.good } else pre_failed course s outcome)
        (closed-attempt course s.attempt (pos 0) true le)
        (pick (λ t. t.attempt ≤ course.retries) (is_exit_0 outcome) (record { attempt = s.attempt; phase = Some Job; value = s.value; good = s.good }) (pre_failed course s outcome)
        le
        (pick (λ t. t.attempt ≤ course.retries) (always_posts course) (record { attempt = s.attempt; phase = Some Post; value = s.value; good = s.good })
        (attempt_closed course s.attempt (value_of outcome) false) le (closed-attempt course s.attempt (value_of outcome) false le)))
    go (Some Job) =
        pick (λ t. t.attempt ≤ course.retries) course.post (record { attempt = s.attempt; phase = Some Post; value = s.value; good = s.good })
        (attempt_closed course s.attempt (value_of outcome) (int_eq (value_of outcome) (pos 0))) le decided-attempt
    go (Some Post) = decided-attempt

steps-attempt : (course : Course) (s : MachineState) (es : List Ended) → s.attempt ≤ course.retries → (steps course s es).attempt ≤ course.retries
steps-attempt course s [] le = le
steps-attempt course s (e ∷ es) le = steps-attempt course (machine_step course s e.outcome) es (step-attempt course s e.outcome le)

pub machine-attempt : (course : Course) (es : List Ended) → (machine_after course es).attempt ≤ course.retries
machine-attempt course es = steps-attempt course (machine_before course 0 None false) es (omega arith)

-- one more phase of a history
pub may-go_on-push : (course : Course) (before es : List Ended) (e : Ended) → may_go_on course before es ≡ true
    → is_that_phase (next_after course (before ++ es)) e ≡ true → may_end_with course e.phase e.outcome ≡ true → may_go_on course before (es ++ e ∷ []) ≡ true
may-go_on-push course before [] e g n m =
    and_from _ _ (and_from _ _ (subst (λ es. is_that_phase (next_after course es) e ≡ true) (append-nil before) n) m) refl
may-go_on-push course before (x ∷ es) e g n m =
    let p = and_parts _ _ g in
    and_from _ _ p.0 (may-go_on-push course (before ++ x ∷ []) es e p.1
    (subst (λ t. is_that_phase (next_after course t) e ≡ true) (sym (append_assoc before (x ∷ []) es)) n) m)
