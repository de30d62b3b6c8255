-- What ended before a phase's turn.
use Rattle.std.proofs.Common.{◌≡◌, ℕ, zero, suc, ◌≤◌, Bool, true, false, not, ◌&&◌, ◌||◌, List, [], ◌∷◌, ◌++◌, ◌==◌, Option, Some, None, refl, sym, ap, ◌∙◌, subst, append_assoc, append-nil, eq-eqb, eqb-true, if◌then◌else◌}
use Rattle.std.proofs.lemmas.Bool.{and_parts, and_from, false≢true, or_right}
use Rattle.node_machine.specs.declared.Phase.{Phase}
use Rattle.node_machine.specs.declared.Phase.TheVariants.{Pre, Job, Post}
use Rattle.node_machine.specs.declared.Outcome.{Outcome}
use Rattle.node_machine.specs.declared.Outcome.TheVariants.{Exit}
use Rattle.node_machine.specs.declared.Ended.{Ended}
use Rattle.node_machine.specs.declared.Course.{Course}
use Rattle.node_machine.specs.Story.{Attempt, skips, is_exit_0, always_posts, is_final_attempt, phase_number, is_phase, outcome_in, has_ended, next_after, is_history}
use Rattle.node_machine.specs.MachineState.{next_of, machine_after}
use Rattle.sched_core.specs.AttemptValues.{is_without_job}
use Rattle.node_machine.proofs.Trees.{Tree, Over, Ask, got, job_tree, failed_tree, attempt_tree, tree_from, after, Plays, Told, one_of}
use Rattle.node_machine.proofs.Beginnings.{phase-eq, tree_of, masked}
use Rattle.node_machine.proofs.Paces.{machine-attempt}
use Rattle.node_machine.proofs.Standing.{steps-next}

-- what comes before this phase in its attempt has ended
abbrev pub HasBefore : Course → List Ended → ℕ → Phase → Type 0
HasBefore course es i Pre = Unit {0}
HasBefore course es i Job = course.pre ≡ true → has_ended es i Pre ≡ true
HasBefore course es i Post =
    ((told : ℕ → Phase → Outcome) → Told told es → is_without_job course (told i Pre) ≡ false → has_ended es i Job ≡ true)
    × (course.pre ≡ true → has_ended es i Pre ≡ true)

-- what was reported of the phase that ended last
told-last : (told : ℕ → Phase → Outcome) (es : List Ended) (e : Ended) → Told told (es ++ e ∷ []) → told e.attempt e.phase ≡ e.outcome
told-last told [] e t = t.0
told-last told (x ∷ es) e t = told-last told es e t.1

is-itself : (i : ℕ) (phase : Phase) (outcome : Outcome) → is_phase (got i phase outcome) i phase ≡ true
is-itself i phase outcome = and_from _ _ (eq-eqb i i refl) (eq-eqb (phase_number phase) (phase_number phase) refl)

ended-last : (es : List Ended) (i : ℕ) (phase : Phase) (outcome : Outcome) → has_ended (es ++ got i phase outcome ∷ []) i phase ≡ true
ended-last [] i phase outcome = λ j. is-itself i phase outcome j || false
ended-last (e ∷ es) i phase outcome = or_right (is_phase e i phase) _ (ended-last es i phase outcome)

ended-still : (es more : List Ended) (i : ℕ) (phase : Phase) → has_ended es i phase ≡ true → has_ended (es ++ more) i phase ≡ true
ended-still [] more i phase h = absurd (false≢true h)
ended-still (e ∷ es) more i phase h = go (is_phase e i phase) h (ended-still es more i phase)
  where
    go : (b : Bool) → (b || has_ended es i phase) ≡ true → (has_ended es i phase ≡ true → has_ended (es ++ more) i phase ≡ true)
        → (b || has_ended (es ++ more) i phase) ≡ true
    go true h rest = refl
    go false h rest = rest h

-- after these phases the tree asks for each phase after those that come before it in its attempt
abbrev AsksInOrder : Course → List Ended → Tree → Type 0
AsksInOrder course es (Over attempts) = Unit {0}
AsksInOrder course es (Ask i phase next) =
    HasBefore course es i phase × ((x : Outcome) → AsksInOrder course (es ++ got i phase x ∷ []) (next x))

by_case : (P : Tree → Type 0) (b : Bool) {t t' : Tree} → (b ≡ true → P t) → (b ≡ false → P t') → P (if b then t else t')
by_case P true h h' = h refl
by_case P false h h' = h' refl

module _ (course : Course) (i : ℕ) (next : Attempt → Tree) (later : (a : Attempt) (es : List Ended) → AsksInOrder course es (next a)) where
  order-job : (es before : List Ended) → (course.pre ≡ true → has_ended es i Pre ≡ true) → AsksInOrder course es (job_tree course i before next)
  order-job es before pre = (
    pre,
    λ y.
        let now = es ++ got i Job y ∷ [] in
        one_of (AsksInOrder course now) course.post
        ((λ told t runs. ended-last es i Job y, λ has. ended-still es (got i Job y ∷ []) i Pre (pre has)), λ z. later _ (now ++ got i Post z ∷ []))
        (later _ now),
  )

  order-failed : (es : List Ended) (x : Outcome) → course.pre ≡ true → is_exit_0 x ≡ false
      → AsksInOrder course (es ++ got i Pre x ∷ []) (failed_tree course i x next)
  order-failed es x has failed =
      let now = es ++ got i Pre x ∷ [] in
      one_of (AsksInOrder course now) (always_posts course) (
        (
          λ told t runs. absurd (false≢true (sym runs ∙ (λ j. has j && not (is_exit_0 (told-last told es (got i Pre x) t j))) ∙ (λ j. not (failed j)))),
          λ h. ended-last es i Pre x,
        ),
        λ z. later _ (now ++ got i Post z ∷ []),
      )
      (later _ now)

  order-attempt : (es : List Ended) → AsksInOrder course es (attempt_tree course i next)
  order-attempt es =
      by_case (AsksInOrder course es) course.pre
      (λ has. (
        tt,
        λ x.
            let now = es ++ got i Pre x ∷ [] in
            one_of (AsksInOrder course now) (skips course x) (later _ now)
            (by_case (AsksInOrder course now) (is_exit_0 x) (λ is. order-job now (got i Pre x ∷ []) (λ h. ended-last es i Pre x)) (λ failed. order-failed es x has failed)),
      ))
      (λ none. order-job es [] (λ h. absurd (false≢true (sym none ∙ h))))

order-from : (course : Course) (done : List Attempt) (i left : ℕ) (es : List Ended) → AsksInOrder course es (tree_from course done i left)
order-from course done i zero es = order-attempt course i (λ a. Over (done ++ a ∷ [])) (λ a es. tt) es
order-from course done i (suc left) es =
    order-attempt course i (λ a. if is_final_attempt course a then Over (done ++ a ∷ []) else tree_from course (done ++ a ∷ []) (suc i) left)
    (λ a es. one_of (AsksInOrder course es) (is_final_attempt course a) tt (order-from course (done ++ a ∷ []) (suc i) left es)) es

-- what the tree asks for after what was played
order-played : (course : Course) (tree : Tree) (es before : List Ended) (i : ℕ) (phase : Phase) (next : Outcome → Tree)
    → AsksInOrder course before tree → Plays tree es → after tree es ≡ Ask i phase next → HasBefore course (before ++ es) i phase
order-played course tree [] before i phase next o p h =
    subst (λ t. HasBefore course t i phase) (sym (append-nil before))
    (let P : Tree → Type 0 = AsksInOrder course before in subst P h o).0
order-played course (Over attempts) (e ∷ es) before i phase next o p h = elim p [ ]
order-played course (Ask j q more) (e ∷ es) before i phase next o p h =
    let same : got j q e.outcome ≡ e = λ k. got (sym p.0 k) (sym p.1 k) e.outcome in
    subst (λ t. HasBefore course t i phase) (append_assoc before (e ∷ []) es)
    (order-played course (more e.outcome) es (before ++ e ∷ []) i phase next
    (subst (λ x. AsksInOrder course (before ++ x ∷ []) (more e.outcome)) same (o.1 e.outcome)) p.2 h)

pub turn-order : (course : Course) (es : List Ended) (i : ℕ) (phase : Phase) (next : Outcome → Tree) → Plays (tree_of course) es
    → after (tree_of course) es ≡ Ask i phase next → HasBefore course es i phase
turn-order course es i phase next p h = order-played course (tree_of course) es [] i phase next (order-from course [] 0 course.retries []) p h

-- a phase that ended has the outcome that was reported
pub told-outcome : (told : ℕ → Phase → Outcome) (es : List Ended) (i : ℕ) (phase : Phase) → Told told es → has_ended es i phase ≡ true → outcome_in es i phase ≡ told i phase
told-outcome told [] i phase t h = absurd (false≢true h)
told-outcome told (e ∷ es) i phase t h = go (is_phase e i phase) refl h (told-outcome told es i phase t.1)
  where
    go : (b : Bool) → is_phase e i phase ≡ b → (b || has_ended es i phase) ≡ true → (has_ended es i phase ≡ true → outcome_in es i phase ≡ told i phase)
        → (if b then e.outcome else outcome_in es i phase) ≡ told i phase
    go true same h rest =
        let p = and_parts (e.attempt == i) (phase_number e.phase == phase_number phase) same in
        sym t.0 ∙ (λ j. told (eqb-true e.attempt i p.0 j) (phase-eq e.phase phase (eqb-true (phase_number e.phase) (phase_number phase) p.1) j))
    go false same h rest = rest h

-- a NOOP changes no outcome of PRE
pub pre-kept : (course : Course) (column : ℕ → Phase → Outcome) (i : ℕ) → masked course column i Pre ≡ column i Pre
pre-kept course column i = go course.noop
  where
    go : (b : Bool) → (if b && (phase_number Pre == 1) then Exit 0 else column i Pre) ≡ column i Pre
    go true = refl
    go false = refl

-- no attempt comes after the last that is allowed
pub turn-allowed : (course : Course) (es : List Ended) → is_history course es ≡ true → (next : ℕ × Phase) → next_after course es ≡ Some next → next.0 ≤ course.retries
turn-allowed course es h next n = go (machine_after course es).phase refl
  where
    stands : next_of (machine_after course es) (machine_after course es).phase ≡ Some next
    stands = sym (steps-next course es h) ∙ n

    go : (o : Option Phase) → (machine_after course es).phase ≡ o → next.0 ≤ course.retries
    go None is =
        let bad : None ≡ Some next = sym (ap (next_of (machine_after course es)) is) ∙ stands in
        absurd cc
    go (Some phase) is =
        let one : Some ((machine_after course es).attempt, phase) ≡ Some next = sym (ap (next_of (machine_after course es)) is) ∙ stands in
        let same : ((machine_after course es).attempt, phase) ≡ next = cc in
        subst (λ k. k ≤ course.retries) (ap (λ (p : ℕ × Phase). p.0) same) (machine-attempt course es)
