-- Launches and endings lower the number of records that a life can still add.
use Rattle.std.proofs.Common.{◌≡◌, ℕ, zero, suc, ◌+◌, ◌-◌, ◌*◌, ◌<◌, ◌≤◌, ℤ, pos, Bool, true, false, not, ◌&&◌, ◌||◌, List, [], ◌∷◌, ◌++◌, ◌==◌, length, Option, Some, None, is_some, ◌⊎◌, inl, inr, refl, sym, ap, ◌∙◌, subst, arith, eq-eqb, eqb-true, if◌then◌else◌}
use Rattle.std.specs.Prelude.{nat_lt}
use Rattle.std.proofs.Math.Nat.{mul-suc}
use Rattle.std.proofs.lemmas.Bool.{eqb-false, not-true, false≢true, and_parts, and_from, ltb-true, ltb-false}
use Rattle.sched_core.proofs.Sweeps.{all_below-not}
use Rattle.std.specs.Ordering.{int_eq}
use Rattle.node_machine.specs.declared.Phase.{Phase}
use Rattle.node_machine.specs.declared.Phase.TheVariants.{Pre, Job, Post}
use Rattle.node_machine.specs.declared.Outcome.{Outcome}
use Rattle.node_machine.specs.declared.Key.{Key}
use Rattle.node_machine.specs.declared.Course.{Course}
use Rattle.node_machine.specs.declared.MachineState.{MachineState}
use Rattle.node_machine.specs.declared.Ended.{Ended}
use Rattle.node_machine.specs.Story.{is_set_to, skips, is_exit_0, always_posts, value_of, value_after}
use Rattle.node_machine.specs.MachineState.{machine_before, attempt_closed, pre_failed, machine_step_at, machine_step, steps, machine_after}
use Rattle.node_machine.proofs.Paces.{steps-push, step-attempt, machine-attempt}
use Rattle.node_machine.proofs.Trees.{got}
use Rattle.run_plan.specs.Plan.{Plan, node_at, count_of, all_below}
use Rattle.node_machine.specs.declared.Record.{Record}
use Rattle.node_machine.specs.declared.Record.TheVariants.{Life, Launch, End, Finish}
use Rattle.sched_core.specs.Run.{history, next, outstanding, without, setting_is_met, has_abort_value, is_aborted, is_open, is_over, may_follow, may_launch, is_ready, is_final_ready, is_lawful}
use Rattle.sched_core.specs.Core.{node_progress, is_running, has_key_of}
use Rattle.sched_core.specs.Bound.{phases_in, phases_from, phases_left, records_to_come, sum_below, may_still_run, node_records_left, records_left, phases_of_node, all_phases, has_no_life}
use Rattle.sched_core.proofs.Keys.{each_among}
use Rattle.sched_core.proofs.Sound.{Held, sound, end-among, launch-held, next-parts}
use Rattle.sched_core.proofs.Held.{launched-within, launched-idle, end-within, ended-runs, without-own, without-other}
use Rattle.sched_core.proofs.Shown.{silent-launch, next-phase, machine-value}
use Rattle.sched_core.proofs.Alone.{Alone, alone, among-ordinary, launched-turn}

-- one part of a sum is less, and no other is more
sum-less : (f g : ℕ → ℕ) (n i : ℕ) → i < n → g i < f i → ((k : ℕ) → k < n → (k ≡ i → ⊥) → g k ≤ f k) → sum_below g n < sum_below f n
sum-less f g zero i lt less same = absurd (omega arith)
sum-less f g (suc n) i lt less same = go (n == i) refl (λ l. sum-less f g n i l less (λ k m ne. same k (omega arith) ne))
  where
    at-most : (m : ℕ) → ((k : ℕ) → k < m → g k ≤ f k) → sum_below g m ≤ sum_below f m
    at-most zero h = omega arith
    at-most (suc m) h = let a = h m (omega arith) in let b = at-most m (λ k l. h k (omega arith)) in omega arith

    go : (b : Bool) → (n == i) ≡ b → (i < n → sum_below g n < sum_below f n) → g n + sum_below g n < f n + sum_below f n
    go true e rest =
        let is : n ≡ i = eqb-true n i e in
        let here : g n < f n = subst (λ m. g m < f m) (sym is) less in
        let others = at-most n (λ k l. same k (omega arith) (λ w. omega arith)) in
        omega arith
    go false e rest =
        let ne = eqb-false n i e in
        let here : g n ≤ f n = same n (omega arith) ne in
        let before : sum_below g n < sum_below f n = rest (omega arith) in
        omega arith

sum-most : (f g : ℕ → ℕ) (n : ℕ) → ((k : ℕ) → k < n → g k ≤ f k) → sum_below g n ≤ sum_below f n
sum-most f g zero h = omega arith
sum-most f g (suc n) h = let a = h n (omega arith) in let b = sum-most f g n (λ k l. h k (omega arith)) in omega arith

sum-twice : (f : ℕ → ℕ) (n : ℕ) → sum_below (λ k. 2 * f k) n ≡ 2 * sum_below f n
sum-twice f zero = omega arith
sum-twice f (suc n) = let h = sum-twice f n in omega arith

-- one of two holds
pick : (P : MachineState → Type 0) (b : Bool) (s t : MachineState) → P s → P t → P (if b then s else t)
pick P true s t p q = p
pick P false s t p q = q

abbrev pub left : Course → MachineState → ℕ
left course machine = phases_left course machine.attempt machine.phase

some-from : (course : Course) (phase : Phase) → 1 ≤ phases_from course phase
some-from course Pre = go course.pre (if course.post then 1 else 0)
  where
    go : (b : Bool) (post : ℕ) → 1 ≤ (if b then 1 else 0) + 1 + post
    go true post = omega arith
    go false post = omega arith
some-from course Job = omega arith
some-from course Post = omega arith

-- an attempt begins with all its phases to come
first-from : (course : Course) → phases_from course (if course.pre then Pre else Job) ≡ phases_in course
first-from course = go course.pre refl
  where
    nothing : (post : ℕ) → 1 + post ≡ 0 + 1 + post
    nothing post = omega arith

    go : (b : Bool) → course.pre ≡ b → phases_from course (if b then Pre else Job) ≡ phases_in course
    go true e = refl
    go false e = nothing (if course.post then 1 else 0) ∙ (λ j. (if sym e j then 1 else 0) + 1 + (if course.post then 1 else 0))

-- one attempt less
product-step : (p r i : ℕ) → i < r → p * (r - i) ≡ p + p * (r - suc i)
product-step p r i lt =
    let e : r - i ≡ suc (r - suc i) = omega arith in
    ap (λ k. p * k) e ∙ mul-suc p (r - suc i) ∙ swap (p * (r - suc i)) p
  where
    swap : (a b : ℕ) → a + b ≡ b + a
    swap a b = omega arith

less-by : (f p x y n : ℕ) → f ≡ p → y ≡ p + x → 0 < n → f + x < n + y
less-by f p x y n e e' some = omega arith

-- an attempt that ends leaves less than it had
closed-left : (course : Course) (i : ℕ) (value : ℤ) (good : Bool) (n : ℕ) → i ≤ course.retries → 0 < n
    → left course (attempt_closed course i value good) < n + phases_in course * (course.retries - i)
closed-left course i value good n le some = go (good || is_set_to course.unless_exit value || is_set_to course.abort_on value) (i == course.retries) refl
  where
    over : (n y : ℕ) → 0 < n → 0 < n + y
    over n y h = omega arith

    go : (a b : Bool) → (i == course.retries) ≡ b
        → left course (if a || b then record { attempt = i; phase = None; value = Some value; good = good } else machine_before course (suc i) (Some value) good)
        < n + phases_in course * (course.retries - i)
    go true b e = over n (phases_in course * (course.retries - i)) some
    go false true e = over n (phases_in course * (course.retries - i)) some
    go false false e =
        let ne = eqb-false i course.retries e in
        less-by (phases_from course (if course.pre then Pre else Job)) (phases_in course) (phases_in course * (course.retries - suc i)) (phases_in course * (course.retries - i)) n
        (first-from course) (product-step (phases_in course) course.retries i (omega arith)) some

-- PRE comes next only where there is one
abbrev pub HasPre : Course → MachineState → Type 0
HasPre course machine = machine.phase ≡ Some Pre → course.pre ≡ true

pre-closed : (course : Course) (i : ℕ) (value : ℤ) (good : Bool) → HasPre course (attempt_closed course i value good)
pre-closed course i value good = go (good || is_set_to course.unless_exit value || is_set_to course.abort_on value) (i == course.retries)
  where
    none : None ≡ Some Pre → course.pre ≡ true
    none bad = absurd cc

    go : (a b : Bool) → HasPre course (if a || b then record { attempt = i; phase = None; value = Some value; good = good } else machine_before course (suc i) (Some value) good)
    go true b = none
    go false true = none
    go false false = first course.pre refl
      where
        first : (p : Bool) → course.pre ≡ p → Some (if p then Pre else Job) ≡ Some Pre → course.pre ≡ true
        first true e is = e
        first false e bad = absurd cc

pre-first : (course : Course) (i : ℕ) (value : Option ℤ) (good : Bool) → HasPre course (machine_before course i value good)
pre-first course i value good = first course.pre refl
  where
    first : (p : Bool) → course.pre ≡ p → Some (if p then Pre else Job) ≡ Some Pre → course.pre ≡ true
    first true e is = e
    first false e bad = absurd cc

pre-step : (course : Course) (machine : MachineState) (outcome : Outcome) → HasPre course machine → HasPre course (machine_step course machine outcome)
pre-step course machine outcome has = go machine.phase refl
  where
    job-later : HasPre course (record { attempt = machine.attempt; phase = Some Job; value = machine.value; good = machine.good })
    job-later bad = absurd cc

    post-later : HasPre course (record { attempt = machine.attempt; phase = Some Post; value = machine.value; good = machine.good })
    post-later bad = absurd cc

    go : (o : Option Phase) → machine.phase ≡ o → HasPre course (machine_step_at course machine o outcome)
    go None e = has
    go (Some Pre) e =
        pick (HasPre course) (skips course outcome) (attempt_closed course machine.attempt (pos 0) true)
        (if is_exit_0 outcome then record { attempt = machine.attempt; phase = Some Job; value = machine.value; good = machine.good } else pre_failed course machine outcome)
        (pre-closed course machine.attempt (pos 0) true)
        (pick (HasPre course) (is_exit_0 outcome)
        (record { attempt = machine.attempt; phase = Some Job; value = machine.value; good = machine.good }) (pre_failed course machine outcome)
        job-later
        (pick (HasPre course) (always_posts course)
        (record { attempt = machine.attempt; phase = Some Post; value = machine.value; good = machine.good }) (attempt_closed course machine.attempt (value_of outcome) false)
        post-later (pre-closed course machine.attempt (value_of outcome) false)))
    go (Some Job) e =
        pick (HasPre course) course.post
        (record { attempt = machine.attempt; phase = Some Post; value = machine.value; good = machine.good })
        (attempt_closed course machine.attempt (value_of outcome) (int_eq (value_of outcome) (pos 0)))
        post-later (pre-closed course machine.attempt (value_of outcome) (int_eq (value_of outcome) (pos 0)))
    go (Some Post) e = pre-closed course machine.attempt (value_of outcome) (int_eq (value_of outcome) (pos 0))

pre-steps : (course : Course) (machine : MachineState) (es : List Ended) → HasPre course machine → HasPre course (steps course machine es)
pre-steps course machine [] has = has
pre-steps course machine (e ∷ es) has = pre-steps course (machine_step course machine e.outcome) es (pre-step course machine e.outcome has)

pub pre-after : (course : Course) (es : List Ended) → HasPre course (machine_after course es)
pre-after course es = pre-steps course (machine_before course 0 None false) es (pre-first course 0 None false)

-- one phase less
next-less : (post x : ℕ) → (1 + post + x < 2 + post + x)
next-less post x = omega arith

-- two less, where POST comes after PRE
post-less : (post x : ℕ) → (1 + x < 2 + post + x)
post-less post x = omega arith

-- an ending leaves fewer phases
pub step-left : (course : Course) (machine : MachineState) (outcome : Outcome) (phase : Phase) → HasPre course machine → machine.phase ≡ Some phase → machine.attempt ≤ course.retries
    → left course (machine_step course machine outcome) < left course machine
step-left course machine outcome phase has is le =
    subst (λ o. left course (machine_step_at course machine o outcome) < phases_left course machine.attempt o) (sym is) (go phase is)
  where
    x : ℕ
    x = phases_in course * (course.retries - machine.attempt)

    decided : (n : ℕ) → 0 < n → left course (attempt_closed course machine.attempt (value_of outcome) (int_eq (value_of outcome) (pos 0))) < n + phases_in course * (course.retries - machine.attempt)
    decided n some = closed-left course machine.attempt (value_of outcome) (int_eq (value_of outcome) (pos 0)) n le some

    some-more : (post : ℕ) → 0 < 2 + post
    some-more post = omega arith

    job-left : (b : Bool) → course.post ≡ b
        → left course (if b then record { attempt = machine.attempt; phase = Some Post; value = machine.value; good = machine.good }
        else attempt_closed course machine.attempt (value_of outcome) (int_eq (value_of outcome) (pos 0))) < 1 + (if b then 1 else 0) + phases_in course * (course.retries - machine.attempt)
    job-left true e = next-less 0 (phases_in course * (course.retries - machine.attempt))
    job-left false e = decided 1 (omega arith)

    two : machine.phase ≡ Some Pre → 2 + (if course.post then 1 else 0) ≡ phases_in course
    two e = from (if course.post then 1 else 0) ∙ (λ j. (if sym (has e) j then 1 else 0) + 1 + (if course.post then 1 else 0))
      where
        from : (post : ℕ) → 2 + post ≡ 1 + 1 + post
        from post = omega arith

    go : (p : Phase) → machine.phase ≡ Some p → left course (machine_step_at course machine (Some p) outcome) < phases_from course p + phases_in course * (course.retries - machine.attempt)
    go Pre e =
        subst (λ n. left course (machine_step_at course machine (Some Pre) outcome) < n + phases_in course * (course.retries - machine.attempt)) (two e) (
        pick (λ t. left course t < 2 + (if course.post then 1 else 0) + phases_in course * (course.retries - machine.attempt)) (skips course outcome) (attempt_closed course machine.attempt (pos 0) true)
        (if is_exit_0 outcome then record { attempt = machine.attempt; phase = Some Job; value = machine.value; good = machine.good } else pre_failed course machine outcome)
        (closed-left course machine.attempt (pos 0) true (2 + (if course.post then 1 else 0)) le (some-more (if course.post then 1 else 0)))
        (pick (λ t. left course t < 2 + (if course.post then 1 else 0) + phases_in course * (course.retries - machine.attempt)) (is_exit_0 outcome)
        (record { attempt = machine.attempt; phase = Some Job; value = machine.value; good = machine.good }) (pre_failed course machine outcome)
        (next-less (if course.post then 1 else 0) (phases_in course * (course.retries - machine.attempt)))
        (pick (λ t. left course t < 2 + (if course.post then 1 else 0) + phases_in course * (course.retries - machine.attempt)) (always_posts course)
        (record { attempt = machine.attempt; phase = Some Post; value = machine.value; good = machine.good }) (attempt_closed course machine.attempt (value_of outcome) false)
        (post-less (if course.post then 1 else 0) (phases_in course * (course.retries - machine.attempt)))
        (closed-left course machine.attempt (value_of outcome) false (2 + (if course.post then 1 else 0)) le (some-more (if course.post then 1 else 0))))))
    go Job e = job-left course.post refl
    go Post e = decided 1 (omega arith)

-- so a node never has more phases to come than all its attempts have
steps-left : (course : Course) (machine : MachineState) (es : List Ended) → HasPre course machine → machine.attempt ≤ course.retries → left course (steps course machine es) ≤ left course machine
steps-left course machine [] has le = omega arith
steps-left course machine (e ∷ es) has le =
    let rest : left course (steps course (machine_step course machine e.outcome) es) ≤ left course (machine_step course machine e.outcome) =
    steps-left course (machine_step course machine e.outcome) es (pre-step course machine e.outcome has) (step-attempt course machine e.outcome le) in
    let here : left course (machine_step course machine e.outcome) ≤ left course machine = go machine.phase refl in
    through _ _ _ rest here
  where
    through : (a b c : ℕ) → a ≤ b → b ≤ c → a ≤ c
    through a b c h h' = omega arith

    weaker : (a b : ℕ) → a < b → a ≤ b
    weaker a b h = omega arith

    same : (a b : ℕ) → a ≡ b → a ≤ b
    same a b h = omega arith

    go : (o : Option Phase) → machine.phase ≡ o → left course (machine_step course machine e.outcome) ≤ left course machine
    go None is = same _ _ (ap (left course) (ap (λ o. machine_step_at course machine o e.outcome) is))
    go (Some phase) is = weaker _ _ (step-left course machine e.outcome phase has is le)

begun-left : (course : Course) → left course (machine_before course 0 None false) ≡ phases_in course * suc course.retries
begun-left course =
    (λ j. first-from course j + phases_in course * (course.retries - 0))
    ∙ ap (λ r. phases_in course + phases_in course * r) (less-nothing course.retries)
    ∙ swap (phases_in course) (phases_in course * course.retries) ∙ sym (mul-suc (phases_in course) course.retries)
  where
    less-nothing : (r : ℕ) → r - 0 ≡ r
    less-nothing r = omega arith

    swap : (a b : ℕ) → a + b ≡ b + a
    swap a b = omega arith

pub not-false : (b : Bool) → not b ≡ false → b ≡ true
not-false true e = refl
not-false false e = absurd cc

-- no phase comes after an attempt of the abort value
unfoldable pub Quiet : Course → MachineState → Type 0
Quiet course machine = (machine.phase ≡ None) ⊎ (setting_is_met course.abort_on machine.value ≡ false)

or-false : (a b : Bool) → (a || b) ≡ false → b ≡ false
or-false true b e = absurd cc
or-false false b e = e

quiet-closed : (course : Course) (i : ℕ) (value : ℤ) (good : Bool) → Quiet course (attempt_closed course i value good)
unfolding Quiet
quiet-closed course i value good = go (good || is_set_to course.unless_exit value || is_set_to course.abort_on value) refl (i == course.retries)
  where
    go : (a : Bool) → (good || is_set_to course.unless_exit value || is_set_to course.abort_on value) ≡ a → (b : Bool)
        → Quiet course (if a || b then record { attempt = i; phase = None; value = Some value; good = good } else machine_before course (suc i) (Some value) good)
    go true e b = inl refl
    go false e true = inl refl
    go false e false = inr (or-false (good || is_set_to course.unless_exit value) (is_set_to course.abort_on value) e)

quiet-step : (course : Course) (machine : MachineState) (outcome : Outcome) → Quiet course machine → Quiet course (machine_step course machine outcome)
unfolding Quiet
quiet-step course machine outcome q = go machine.phase refl
  where
    -- the value of the attempt before
    kept : (p : Phase) → machine.phase ≡ Some p → (later : Phase) → Quiet course (record { attempt = machine.attempt; phase = Some later; value = machine.value; good = machine.good })
    kept p e later = elim q [ inl none ↦ (let bad : None ≡ Some p = sym none ∙ e in absurd cc) | inr abort_free ↦ inr abort_free ]

    go : (o : Option Phase) → machine.phase ≡ o → Quiet course (machine_step_at course machine o outcome)
    go None e = inl e
    go (Some Pre) e =
        pick (Quiet course) (skips course outcome) (attempt_closed course machine.attempt (pos 0) true)
        (if is_exit_0 outcome then record { attempt = machine.attempt; phase = Some Job; value = machine.value; good = machine.good } else pre_failed course machine outcome)
        (quiet-closed course machine.attempt (pos 0) true)
        (pick (Quiet course) (is_exit_0 outcome)
        (record { attempt = machine.attempt; phase = Some Job; value = machine.value; good = machine.good }) (pre_failed course machine outcome)
        (kept Pre e Job)
        (pick (Quiet course) (always_posts course)
        (record { attempt = machine.attempt; phase = Some Post; value = machine.value; good = machine.good }) (attempt_closed course machine.attempt (value_of outcome) false)
        (kept Pre e Post) (quiet-closed course machine.attempt (value_of outcome) false)))
    go (Some Job) e =
        pick (Quiet course) course.post
        (record { attempt = machine.attempt; phase = Some Post; value = machine.value; good = machine.good })
        (attempt_closed course machine.attempt (value_of outcome) (int_eq (value_of outcome) (pos 0)))
        (kept Job e Post) (quiet-closed course machine.attempt (value_of outcome) (int_eq (value_of outcome) (pos 0)))
    go (Some Post) e = quiet-closed course machine.attempt (value_of outcome) (int_eq (value_of outcome) (pos 0))

quiet-steps : (course : Course) (machine : MachineState) (es : List Ended) → Quiet course machine → Quiet course (steps course machine es)
quiet-steps course machine [] q = q
quiet-steps course machine (e ∷ es) q = quiet-steps course (machine_step course machine e.outcome) es (quiet-step course machine e.outcome q)

quiet-first : (course : Course) → Quiet course (machine_before course 0 None false)
unfolding Quiet
quiet-first course = inr refl

pub quiet-after : (course : Course) (es : List Ended) → Quiet course (machine_after course es)
quiet-after course es = quiet-steps course (machine_before course 0 None false) es (quiet-first course)

all_below-some : (test : ℕ → Bool) (n : ℕ) → all_below test n ≡ false → (k : ℕ) × (k < n) × (test k ≡ false)
all_below-some test zero e = absurd cc
all_below-some test (suc n) e = go (test n) refl (λ below. all_below-some test n below)
  where
    go : (b : Bool) → test n ≡ b → (all_below test n ≡ false → (k : ℕ) × (k < n) × (test k ≡ false)) → (k : ℕ) × (k < suc n) × (test k ≡ false)
    go false h rest = (n, omega arith, h)
    go true h rest =
        let r = rest (sym (λ j. h j && all_below test n) ∙ e) in
        (r.0, (let lt : r.0 < n = r.1 in omega arith), r.2)

pub opened : (plan : Plan) (past : List Record) (node : ℕ) (m : Bool) → may_still_run plan past node ≡ m
    → node_records_left plan past node ≡ (if m then records_to_come (node_progress plan past node) else 0)
opened plan past node m e = λ j. if e j then records_to_come (node_progress plan past node) else 0

-- a node whose phase is next, or runs, can go on
goes : (plan : Plan) (past : List Record) (key : Key) → next plan past key.node ≡ Some key → (key.node < count_of plan → is_aborted plan past ≡ false)
    → (key.node ≡ count_of plan → is_some plan.final_node ≡ true) → key.node < suc (count_of plan) → may_still_run plan past key.node ≡ true
goes plan past key is abort_free some within = and_from _ _ (ap not (next-parts plan past key.node key is).0) (go (nat_lt key.node (count_of plan)) refl)
  where
    go : (b : Bool) → nat_lt key.node (count_of plan) ≡ b → (if b then not (is_aborted plan past) else is_some plan.final_node) ≡ true
    go true lt = ap not (abort_free (ltb-true key.node (count_of plan) lt))
    go false ge = let g = ltb-false key.node (count_of plan) ge in some (omega arith)

module _ (plan : Plan) (past : List Record) (lawful : is_lawful plan past ≡ true) where
  abbrev machine_of : ℕ → MachineState
  machine_of node = machine_after (node_at plan node).course (history past node)

  abbrev course_of : ℕ → Course
  course_of node = (node_at plan node).course

  -- what is next leaves at least itself
  some-left : (node : ℕ) (phase : Phase) → (machine_of node).phase ≡ Some phase → 0 < left (course_of node) (machine_of node)
  some-left node phase is =
      subst (λ o. 0 < phases_left (course_of node) (machine_of node).attempt o) (sym is)
      (more (phases_from (course_of node) phase) (phases_in (course_of node) * ((course_of node).retries - (machine_of node).attempt)) (some-from (course_of node) phase))
    where
      more : (a b : ℕ) → 1 ≤ a → 0 < a + b
      more a b h = omega arith

  launch-goes : (key : Key) (number : ℕ) → may_follow plan past (Launch key number) ≡ true → may_still_run plan past key.node ≡ true
  unfolding may_launch is_ready is_final_ready
  launch-goes key number h = go (nat_lt key.node (count_of plan)) refl
    where
      turn : may_launch plan past key.node ≡ true
      turn = launched-turn plan past key number h

      within : key.node < suc (count_of plan)
      within = launched-within plan past key number h

      go : (b : Bool) → nat_lt key.node (count_of plan) ≡ b → may_still_run plan past key.node ≡ true
      go true lt =
          let ready = (λ j. if sym lt j then is_ready plan past key.node else (key.node == count_of plan) && is_final_ready plan past) ∙ turn in
          let l = ltb-true key.node (count_of plan) lt in
          goes plan past key (launch-held plan past key number h).is_next (λ less. not-true _ (and_parts _ _ (and_parts _ _ ready).0).0) (λ is. absurd (omega arith)) within
      go false ge =
          let ready = (λ j. if sym ge j then is_ready plan past key.node else (key.node == count_of plan) && is_final_ready plan past) ∙ turn in
          let l = ltb-false key.node (count_of plan) ge in
          goes plan past key (launch-held plan past key number h).is_next (λ less. absurd (omega arith))
          (λ is. (and_parts _ _ (and_parts _ _ (and_parts _ _ (and_parts _ _ ready).1).0).0).0) within

  module _ (key : Key) (number : ℕ) (h : may_follow plan past (Launch key number) ≡ true) where
    abbrev launched : List Record
    launched = Launch key number ∷ past

    same-goes : (k : ℕ) → may_still_run plan launched k ≡ may_still_run plan past k
    same-goes k = ap (λ b. not (node_at plan k).done && (if nat_lt k (count_of plan) then not b else is_some plan.final_node)) (sym (silent-launch plan past key number))

    n : ℕ
    n = left (course_of key.node) (machine_of key.node)

    idle : is_running plan past key.node ≡ false
    idle = launched-idle plan past key number lawful h

    some : 0 < left (course_of key.node) (machine_of key.node)
    some = some-left key.node key.phase (next-phase plan past lawful key (launch-held plan past key number h).is_next)

    own-run : records_to_come (node_progress plan launched key.node) < records_to_come (node_progress plan past key.node)
    own-run =
        subst (λ b. 2 * left (course_of key.node) (machine_of key.node) - (if b || is_running plan past key.node then 1 else 0) < 2 * left (course_of key.node) (machine_of key.node) - (if is_running plan past key.node then 1 else 0))
        (sym (eq-eqb key.node key.node refl))
        (subst (λ b. 2 * left (course_of key.node) (machine_of key.node) - 1 < 2 * left (course_of key.node) (machine_of key.node) - (if b then 1 else 0)) (sym idle)
        (fewer (left (course_of key.node) (machine_of key.node)) some))
      where
        fewer : (m : ℕ) → 0 < m → 2 * m - 1 < 2 * m - 0
        fewer m h = omega arith

    own : node_records_left plan launched key.node < node_records_left plan past key.node
    own =
        let e = launch-goes key number h in
        subst (λ (p : ℕ × ℕ). p.0 < p.1) (λ j. (sym (opened plan launched key.node true (same-goes key.node ∙ e)) j, sym (opened plan past key.node true e) j)) own-run

    other : (k : ℕ) → k < suc (count_of plan) → (k ≡ key.node → ⊥) → node_records_left plan launched k ≤ node_records_left plan past k
    other k lt ne = go (may_still_run plan past k) refl
      where
        runs : (b : Bool) → (key.node == k) ≡ b → records_to_come (node_progress plan launched k) ≤ records_to_come (node_progress plan past k)
        runs true e = absurd (ne (sym (eqb-true key.node k e)))
        runs false e =
            subst (λ b. 2 * left (course_of k) (machine_of k) - (if b || is_running plan past k then 1 else 0) ≤ 2 * left (course_of k) (machine_of k) - (if is_running plan past k then 1 else 0))
            (sym e) (itself _)
          where
            itself : (m : ℕ) → m ≤ m
            itself m = omega arith

        go : (m : Bool) → may_still_run plan past k ≡ m → node_records_left plan launched k ≤ node_records_left plan past k
        go true e = subst (λ (p : ℕ × ℕ). p.0 ≤ p.1) (λ j. (sym (opened plan launched k true (same-goes k ∙ e)) j, sym (opened plan past k true e) j)) (runs (key.node == k) refl)
        go false e = subst (λ m. m ≤ node_records_left plan past k) (sym (opened plan launched k false (same-goes k ∙ e))) (omega arith)

    pub launch-lowers : records_left plan (Launch key number ∷ past) < records_left plan past
    unfolding records_left
    launch-lowers =
        sum-less (node_records_left plan past) (node_records_left plan launched) (suc (count_of plan)) key.node (launched-within plan past key number h) own other

  module _ (key : Key) (outcome : Outcome) (h : may_follow plan past (End key outcome) ≡ true) where
    abbrev now : List Record
    now = End key outcome ∷ past

    held : Held plan past key
    held = each_among (Held plan past) key (outstanding plan past) (sound plan past lawful).held (end-among plan past key outcome h).0

    within : key.node < suc (count_of plan)
    within = end-within plan past key outcome lawful h

    own-machine : machine_after (course_of key.node) (history now key.node) ≡ machine_step (course_of key.node) (machine_of key.node) outcome
    own-machine =
        (λ j. machine_after (course_of key.node) (if eq-eqb key.node key.node refl j then history past key.node ++ got key.attempt key.phase outcome ∷ [] else history past key.node))
        ∙ steps-push (course_of key.node) (machine_before (course_of key.node) 0 None false) (history past key.node) (got key.attempt key.phase outcome)

    other-machine : (k : ℕ) → (key.node == k) ≡ false → machine_after (course_of k) (history now k) ≡ machine_of k
    other-machine k e = λ j. machine_after (course_of k) (if e j then history past k ++ got key.attempt key.phase outcome ∷ [] else history past k)

    -- the own node has records less, whatever an abort stops
    own-less : (b : Bool) → records_to_come (record { course = course_of key.node; machine = machine_after (course_of key.node) (history now key.node); running = has_key_of key.node (if b then [] else without key (outstanding plan past)) })
        < records_to_come (node_progress plan past key.node)
    own-less b =
        let less : left (course_of key.node) (machine_step (course_of key.node) (machine_of key.node) outcome) < left (course_of key.node) (machine_of key.node) =
        step-left (course_of key.node) (machine_of key.node) outcome key.phase (pre-after (course_of key.node) (history past key.node)) (next-phase plan past lawful key held.is_next) (machine-attempt (course_of key.node) (history past key.node)) in
        let e : left (course_of key.node) (machine_after (course_of key.node) (history now key.node)) ≡ left (course_of key.node) (machine_step (course_of key.node) (machine_of key.node) outcome) = ap (left (course_of key.node)) own-machine in
        subst (λ t. 2 * left (course_of key.node) (machine_after (course_of key.node) (history now key.node)) - (if t then 1 else 0) < 2 * left (course_of key.node) (machine_of key.node) - (if is_running plan past key.node then 1 else 0)) (sym (own-stopped b))
        (subst (λ t. 2 * left (course_of key.node) (machine_after (course_of key.node) (history now key.node)) - 0 < 2 * left (course_of key.node) (machine_of key.node) - (if t then 1 else 0)) (sym (ended-runs plan past key outcome lawful h))
        (fewer _ _ _ e less))
      where
        fewer : (a b c : ℕ) → a ≡ b → b < c → 2 * a - 0 < 2 * c - 1
        fewer a b c e l = omega arith

        own-stopped : (b : Bool) → has_key_of key.node (if b then [] else without key (outstanding plan past)) ≡ false
        own-stopped true = refl
        own-stopped false = without-own plan past key held.is_next (outstanding plan past) (sound plan past lawful).held

    -- another node keeps its records, where an abort does not stop it
    other-kept : (k : ℕ) → (key.node == k) ≡ false → (b : Bool) → (b ≡ true → is_running plan past k ≡ false)
        → records_to_come (record { course = course_of k; machine = machine_after (course_of k) (history now k); running = has_key_of k (if b then [] else without key (outstanding plan past)) }) ≤ records_to_come (node_progress plan past k)
    other-kept k e b idle =
        let n : left (course_of k) (machine_after (course_of k) (history now k)) ≡ left (course_of k) (machine_of k) = ap (left (course_of k)) (other-machine k e) in
        subst (λ t. 2 * left (course_of k) (machine_after (course_of k) (history now k)) - (if t then 1 else 0) ≤ 2 * left (course_of k) (machine_of k) - (if is_running plan past k then 1 else 0))
        (sym (runs b idle)) (same _ _ (if is_running plan past k then 1 else 0) n)
      where
        same : (a b c : ℕ) → a ≡ b → 2 * a - c ≤ 2 * b - c
        same a b c e = omega arith

        runs : (b : Bool) → (b ≡ true → is_running plan past k ≡ false) → has_key_of k (if b then [] else without key (outstanding plan past)) ≡ is_running plan past k
        runs true idle = sym (idle refl)
        runs false idle = without-other plan past key k e (outstanding plan past)

    apart : (k : ℕ) → (k ≡ key.node → ⊥) → (key.node == k) ≡ false
    apart k ne = go (key.node == k) refl
      where
        go : (b : Bool) → (key.node == k) ≡ b → (key.node == k) ≡ false
        go true e = absurd (ne (sym (eqb-true key.node k e)))
        go false e = e

    -- the node whose attempt ends has not the abort value yet
    own-abort_free : has_abort_value plan past key.node ≡ false
    unfolding Quiet
    own-abort_free =
        elim (quiet-after (course_of key.node) (history past key.node)) [
          | inl none ↦ (let bad : None ≡ Some key.phase = sym none ∙ next-phase plan past lawful key held.is_next in absurd cc)
          | inr abort_free ↦ (λ j. setting_is_met (course_of key.node).abort_on (sym (machine-value plan past lawful key.node) j)) ∙ abort_free
        ]

    -- so a run that was aborted stays so
    stays-aborted : is_aborted plan past ≡ true → is_aborted plan now ≡ true
    unfolding is_aborted
    stays-aborted aborted =
        let some = all_below-some (λ node. not (has_abort_value plan past node)) (count_of plan) (not-true _ aborted) in
        let met : has_abort_value plan past some.0 ≡ true = not-false _ some.2 in
        let ne : (key.node == some.0) ≡ false = apart some.0 (λ same. false≢true (sym own-abort_free ∙ ap (has_abort_value plan past) (sym same) ∙ met)) in
        let kept : has_abort_value plan now some.0 ≡ true =
        (λ j. setting_is_met (course_of some.0).abort_on (value_after (course_of some.0) (if ne j then history past some.0 ++ got key.attempt key.phase outcome ∷ [] else history past some.0))) ∙ met in
        ap not (all_below-not (λ node. not (has_abort_value plan now node)) (count_of plan) some.0 some.1 (ap not kept))

    seat : Alone plan past
    seat = alone plan past lawful

    -- a phase that ends is of a node that can go on
    end-goes : may_still_run plan past key.node ≡ true
    end-goes =
        goes plan past key held.is_next
        (λ less. go less (is_aborted plan past) refl)
        (λ is. seat.some (ap (is_running plan past) (sym is) ∙ ended-runs plan past key outcome lawful h)) within
      where
        go : key.node < count_of plan → (b : Bool) → is_aborted plan past ≡ b → is_aborted plan past ≡ false
        go less false e = e
        go less true e = let low : count_of plan ≤ key.node = among-ordinary plan key (outstanding plan past) (seat.aborted e) (end-among plan past key outcome h).0 in absurd (omega arith)

    own-end : node_records_left plan now key.node < node_records_left plan past key.node
    own-end = subst (λ m. node_records_left plan now key.node < m) (sym (opened plan past key.node true end-goes)) (go (may_still_run plan now key.node) refl)
      where
        less : records_to_come (node_progress plan now key.node) < records_to_come (node_progress plan past key.node)
        less = own-less (is_aborted plan now && not (is_aborted plan past))

        some : (a b : ℕ) → a < b → 0 < b
        some a b l = omega arith

        go : (m : Bool) → may_still_run plan now key.node ≡ m → node_records_left plan now key.node < records_to_come (node_progress plan past key.node)
        go true e = subst (λ m. m < records_to_come (node_progress plan past key.node)) (sym (opened plan now key.node true e)) less
        go false e = subst (λ m. m < records_to_come (node_progress plan past key.node)) (sym (opened plan now key.node false e)) (some _ _ less)

    -- what can go on could before, and it does not run where an abort stops all
    could : (k : ℕ) → may_still_run plan now k ≡ true → may_still_run plan past k ≡ true
    could k e = and_from _ _ (and_parts (not (node_at plan k).done) _ e).0 (go (nat_lt k (count_of plan)) refl)
      where
        go : (b : Bool) → nat_lt k (count_of plan) ≡ b → (if b then not (is_aborted plan past) else is_some plan.final_node) ≡ true
        go false lt = (λ j. if sym lt j then not (is_aborted plan now) else is_some plan.final_node) ∙ (and_parts (not (node_at plan k).done) _ e).1
        go true lt = on (is_aborted plan past) refl
          where
            abort_free : is_aborted plan now ≡ false
            abort_free = not-true _ ((λ j. if sym lt j then not (is_aborted plan now) else is_some plan.final_node) ∙ (and_parts (not (node_at plan k).done) _ e).1)

            on : (b : Bool) → is_aborted plan past ≡ b → not (is_aborted plan past) ≡ true
            on false x = ap not x
            on true x = absurd (false≢true (sym abort_free ∙ stays-aborted x))

    stopped-idle : (k : ℕ) → k < suc (count_of plan) → (k ≡ key.node → ⊥) → may_still_run plan now k ≡ true → (is_aborted plan now && not (is_aborted plan past)) ≡ true → is_running plan past k ≡ false
    stopped-idle k lt ne e stops = go (nat_lt k (count_of plan)) refl
      where
        go : (b : Bool) → nat_lt k (count_of plan) ≡ b → is_running plan past k ≡ false
        go true low =
            let abort_free : not (is_aborted plan now) ≡ true = (λ j. if sym low j then not (is_aborted plan now) else is_some plan.final_node) ∙ (and_parts (not (node_at plan k).done) _ e).1 in
            absurd (false≢true (sym (not-true _ abort_free) ∙ (and_parts _ _ stops).0))
        go false high =
            let g : count_of plan ≤ k = ltb-false k (count_of plan) high in
            let is : k ≡ count_of plan = omega arith in
            on is (is_running plan past k) refl
          where
            on : k ≡ count_of plan → (b : Bool) → is_running plan past k ≡ b → is_running plan past k ≡ false
            on is false r = r
            on is true r =
                let w = within in
                let low : count_of plan ≤ key.node = among-ordinary plan key (outstanding plan past) (seat.others (ap (is_running plan past) (sym is) ∙ r)) (end-among plan past key outcome h).0 in
                absurd (ne (omega arith))

    other-end : (k : ℕ) → k < suc (count_of plan) → (k ≡ key.node → ⊥) → node_records_left plan now k ≤ node_records_left plan past k
    other-end k lt ne = go (may_still_run plan now k) refl
      where
        go : (m : Bool) → may_still_run plan now k ≡ m → node_records_left plan now k ≤ node_records_left plan past k
        go false e = subst (λ m. m ≤ node_records_left plan past k) (sym (opened plan now k false e)) (omega arith)
        go true e =
            subst (λ (p : ℕ × ℕ). p.0 ≤ p.1) (λ j. (sym (opened plan now k true e) j, sym (opened plan past k true (could k e)) j))
            (other-kept k (apart k ne) (is_aborted plan now && not (is_aborted plan past)) (stopped-idle k lt ne e))

    pub end-lowers : records_left plan (End key outcome ∷ past) < records_left plan past
    unfolding records_left
    end-lowers = sum-less (node_records_left plan past) (node_records_left plan now) (suc (count_of plan)) key.node within own-end other-end

-- a node has at most two records to come for each phase of each attempt
node-most : (plan : Plan) (past : List Record) (node : ℕ) → node_records_left plan past node ≤ 2 * phases_of_node plan node
node-most plan past node =
    let h : left (node_at plan node).course (machine_after (node_at plan node).course (history past node)) ≤ left (node_at plan node).course (machine_before (node_at plan node).course 0 None false) =
    steps-left (node_at plan node).course (machine_before (node_at plan node).course 0 None false) (history past node) (pre-first (node_at plan node).course 0 None false) (omega arith) in
    go (may_still_run plan past node) (left (node_at plan node).course (machine_after (node_at plan node).course (history past node))) (left (node_at plan node).course (machine_before (node_at plan node).course 0 None false)) (phases_of_node plan node) (if is_running plan past node then 1 else 0) h (begun-left (node_at plan node).course)
  where
    go : (m : Bool) (a b c r : ℕ) → a ≤ b → b ≡ c → (if m then 2 * a - r else 0) ≤ 2 * c
    go true a b c r h e = omega arith
    go false a b c r h e = omega arith

-- and so has a life as a whole
life-most : (plan : Plan) (past : List Record) → records_left plan past ≤ 2 * all_phases plan
unfolding records_left
life-most plan past = go (is_some plan.final_node) refl
  where
    most : (n : ℕ) → sum_below (node_records_left plan past) n ≤ sum_below (λ k. 2 * phases_of_node plan k) n
    most n = sum-most (λ k. 2 * phases_of_node plan k) (node_records_left plan past) n (λ k lt. node-most plan past k)

    through : (a b c : ℕ) → a ≤ b → b ≡ c → a ≤ c
    through a b c h e = omega arith

    none : is_some plan.final_node ≡ false → node_records_left plan past (count_of plan) ≡ 0
    none e = opened plan past (count_of plan) false (closed-off (not (node_at plan (count_of plan)).done) (nat_lt (count_of plan) (count_of plan)) refl)
      where
        closed-off : (a b : Bool) → nat_lt (count_of plan) (count_of plan) ≡ b → (a && (if b then not (is_aborted plan past) else is_some plan.final_node)) ≡ false
        closed-off a true lt = let bad = ltb-true (count_of plan) (count_of plan) lt in absurd (omega arith)
        closed-off true false lt = e
        closed-off false false lt = refl

    dropped : (a b c : ℕ) → a ≡ 0 → b ≤ c → a + b ≤ c
    dropped a b c e h = omega arith

    go : (b : Bool) → is_some plan.final_node ≡ b → sum_below (node_records_left plan past) (suc (count_of plan)) ≤ 2 * all_phases plan
    go true e =
        subst (λ (n : ℕ). sum_below (node_records_left plan past) (suc (count_of plan)) ≤ 2 * sum_below (phases_of_node plan) n) (λ j. if sym e j then suc (count_of plan) else count_of plan)
        (through _ _ _ (most (suc (count_of plan))) (sum-twice (phases_of_node plan) (suc (count_of plan))))
    go false e =
        subst (λ (n : ℕ). sum_below (node_records_left plan past) (suc (count_of plan)) ≤ 2 * sum_below (phases_of_node plan) n) (λ j. if sym e j then suc (count_of plan) else count_of plan)
        (dropped (node_records_left plan past (count_of plan)) (sum_below (node_records_left plan past) (count_of plan)) (2 * sum_below (phases_of_node plan) (count_of plan)) (none e)
        (through _ _ _ (most (count_of plan)) (sum-twice (phases_of_node plan) (count_of plan))))

-- what goes on is not over
open-launch : (plan : Plan) (past : List Record) (key : Key) (number : ℕ) → may_follow plan past (Launch key number) ≡ true → is_open past ≡ true
unfolding may_follow
open-launch plan past key number h = (and_parts _ _ (and_parts _ _ (and_parts _ _ h).0).0).0

open-end : (plan : Plan) (past : List Record) (key : Key) (outcome : Outcome) → may_follow plan past (End key outcome) ≡ true → is_open past ≡ true
unfolding may_follow
open-end plan past key outcome h = (and_parts _ _ (and_parts _ _ h).0).0

open-finish : (plan : Plan) (past : List Record) (status : ℕ) → may_follow plan past (Finish status) ≡ true → is_open past ≡ true
unfolding may_follow
open-finish plan past status h = (and_parts _ _ (and_parts _ _ (and_parts _ _ h).0).0).0

finish-keeps : (plan : Plan) (past : List Record) (status : ℕ) → records_left plan (Finish status ∷ past) ≡ records_left plan past
unfolding records_left is_aborted
finish-keeps plan past status = refl

module _ (plan : Plan) (begun : List Record) where
  abbrev whole : List Record → List Record
  whole added = added ++ Life ∷ begun

  abbrev extra : List Record → ℕ
  extra added = if is_over added then 1 else 0

  not-over : (added : List Record) → is_open (whole added) ≡ true → is_over added ≡ false
  not-over [] h = refl
  not-over (Life ∷ added) h = refl
  not-over (Launch key number ∷ added) h = refl
  not-over (End key outcome ∷ added) h = refl
  not-over (Finish status ∷ added) h = absurd (false≢true h)

  adds : (added : List Record) → is_lawful plan (whole added) ≡ true → has_no_life added ≡ true → length added + records_left plan (whole added) ≤ records_left plan (Life ∷ begun) + extra added
  adds [] h one = omega arith
  adds (Life ∷ added) h one = absurd (false≢true one)
  adds (Launch key number ∷ added) h one =
      let p = and_parts (is_lawful plan (whole added)) (may_follow plan (whole added) (Launch key number)) h in
      step-on (length added) _ _ _ (extra added) (adds added p.0 one) (ap (λ b. if b then 1 else 0) (not-over added (open-launch plan (whole added) key number p.1)))
      (launch-lowers plan (whole added) p.0 key number p.1)
    where
      step-on : (l a b c x : ℕ) → l + a ≤ c + x → x ≡ 0 → b < a → suc l + b ≤ c + 0
      step-on l a b c x h e less = omega arith
  adds (End key outcome ∷ added) h one =
      let p = and_parts (is_lawful plan (whole added)) (may_follow plan (whole added) (End key outcome)) h in
      step-on (length added) _ _ _ (extra added) (adds added p.0 one) (ap (λ b. if b then 1 else 0) (not-over added (open-end plan (whole added) key outcome p.1)))
      (end-lowers plan (whole added) p.0 key outcome p.1)
    where
      step-on : (l a b c x : ℕ) → l + a ≤ c + x → x ≡ 0 → b < a → suc l + b ≤ c + 0
      step-on l a b c x h e less = omega arith
  adds (Finish status ∷ added) h one =
      let p = and_parts (is_lawful plan (whole added)) (may_follow plan (whole added) (Finish status)) h in
      step-on (length added) _ _ _ (extra added) (adds added p.0 one) (ap (λ b. if b then 1 else 0) (not-over added (open-finish plan (whole added) status p.1))) (finish-keeps plan (whole added) status)
    where
      step-on : (l a b c x : ℕ) → l + a ≤ c + x → x ≡ 0 → b ≡ a → suc l + b ≤ c + 1
      step-on l a b c x h e same = omega arith

  -- two records for each phase, a Life and a Finish
  pub life-short : (added : List Record) → is_lawful plan (whole added) ≡ true → has_no_life added ≡ true → length (added ++ Life ∷ []) ≤ 2 * all_phases plan + 2
  life-short added h one =
      finally (length added) (records_left plan (whole added)) (records_left plan (Life ∷ begun)) (2 * all_phases plan) (is_over added) _ (adds added h one) (life-most plan (Life ∷ begun)) (pushed added)
    where
      pushed : (xs : List Record) → length (xs ++ Life ∷ []) ≡ suc (length xs)
      pushed [] = refl
      pushed (x ∷ xs) = ap suc (pushed xs)

      finally : (l a c m : ℕ) (b : Bool) (n : ℕ) → l + a ≤ c + (if b then 1 else 0) → c ≤ m → n ≡ suc l → n ≤ m + 2
      finally l a c m true n h h' e = omega arith
      finally l a c m false n h h' e = omega arith
