-- The steps lead where the story does.
use Rattle.std.proofs.Common.{append_assoc, append-nil, ◌-◌, length, length-append, le-leb, ◌≡◌, ℕ, zero, suc, ◌+◌, ◌<◌, ℤ, pos, Bool, true, false, ◌&&◌, ◌||◌, List, [], ◌∷◌, ◌++◌, ◌==◌, Option, Some, None, is_none, refl, sym, ap, ◌∙◌, subst, arith, eq-eqb, ne_eqb, if◌then◌else◌}
use Rattle.std.proofs.lemmas.Bool.{or_right, lt-leb}
use Rattle.node_machine.specs.declared.Phase.{Phase}
use Rattle.node_machine.specs.declared.Phase.TheVariants.{Pre, Job, Post}
use Rattle.node_machine.specs.declared.Outcome.{Outcome}
use Rattle.node_machine.specs.declared.Ended.{Ended}
use Rattle.node_machine.specs.declared.Course.{Course}
use Rattle.node_machine.specs.declared.MachineState.{MachineState}
use Rattle.node_machine.specs.Story.{story, phases_of, attempts_within, attempts_from, value_after, Attempt, value_of, skips, is_exit_0, always_posts, is_final_attempt, decided_by, newest_attempt, is_good, value_if_any, outcome_in, attempts_after, attempts_ended_after, next_after, is_good_after, is_history}
use Rattle.node_machine.specs.MachineState.{machine_before, attempt_closed, pre_failed, machine_step, steps, machine_after, next_of, attempts_ended}
use Rattle.node_machine.proofs.Trees.{end_of, end_from, end-split, one_of, within-whole, Tree, Over, Ask, got, play, job_tree, failed_tree, attempt_tree, tree_from, after, Plays, both}
use Rattle.node_machine.proofs.Beginnings.{first_phase, Fits, tree_of, masked, story-end, next-first, history-fits, fits-nil}

-- the attempts that ended, where the first n phases end within the attempt a
within-done : (done : List Attempt) (a : Attempt) (rest : List Attempt) (n k : ℕ) → n ≡ length (phases_of done) + k → k < length a.ended
    → attempts_within n (done ++ a ∷ rest) ≡ done
within-done [] a rest n k e lt = λ j. if lt-leb (length a.ended) n (omega arith) j then a ∷ attempts_within (n - length a.ended) rest else []
within-done (d ∷ done) a rest n k e lt =
    let m = length d.ended in
    let total : n ≡ (m + length (phases_of done)) + k = e ∙ ap (λ t. t + k) (length-append d.ended (phases_of done)) in
    (λ j. if le-leb m n (omega arith) j then d ∷ attempts_within (n - m) (done ++ a ∷ rest) else [])
    ∙ ap (λ t. d ∷ t) (within-done done a rest (n - m) k (omega arith) lt)

-- whatever follows, these attempts come first, and then one with more than k phases
abbrev Inside : List Attempt → ℕ → List Attempt → Type 0
Inside done k attempts = (a : Attempt) × (rest : List Attempt) × (attempts ≡ done ++ a ∷ rest) × (k < length a.ended)

-- a tree and a state that say the same after n phases
abbrev Root : ℕ → Tree → MachineState → Type 0
Root n (Over attempts) s = (s.phase ≡ None) × (s.good ≡ is_good (newest_attempt attempts)) × (s.value ≡ value_if_any (newest_attempt attempts)) × (attempts_within n attempts ≡ attempts)
    × (length attempts ≡ suc s.attempt)
Root n (Ask i phase more) s =
    (s.attempt ≡ i) × (s.phase ≡ Some phase) × ((told : ℕ → Phase → Outcome) → value_if_any (newest_attempt (attempts_within n (end_of (Ask i phase more) told))) ≡ s.value)
    × ((told : ℕ → Phase → Outcome) → length (attempts_within n (end_of (Ask i phase more) told)) ≡ s.attempt)

-- n more than the phases
abbrev count_on : ℕ → List Ended → ℕ
count_on n [] = n
count_on n (e ∷ es) = count_on (suc n) es

count_on-length : (n : ℕ) (es : List Ended) → count_on n es ≡ n + length es
count_on-length n [] = omega arith
count_on-length n (e ∷ es) = count_on-length (suc n) es ∙ omega arith

module _ (course : Course) where
  -- and go on doing so
  abbrev Same : ℕ → Tree → MachineState → Type 0
  Same n tree s = (es : List Ended) → Plays tree es → Root (count_on n es) (after tree es) (steps course s es)

  same-ask : (done : List Attempt) (n k : ℕ) → n ≡ length (phases_of done) + k
      → (i : ℕ) → length done ≡ i → (phase : Phase) (more : Outcome → Tree) (value : Option ℤ) (good : Bool) → value_if_any (newest_attempt done) ≡ value
      → ((told : ℕ → Phase → Outcome) → Inside done k (end_of (Ask i phase more) told))
      → ((x : Outcome) → Same (suc n) (more x) (machine_step course (record { attempt = i; phase = Some phase; value = value; good = good }) x))
      → Same n (Ask i phase more) (record { attempt = i; phase = Some phase; value = value; good = good })
  same-ask done n k total i many phase more value good v inside h [] p = (
    refl,
    refl,
    λ told.
        let w = inside told in
        ap (λ t. value_if_any (newest_attempt (attempts_within n t))) w.2 ∙ ap (λ t. value_if_any (newest_attempt t)) (within-done done w.0 w.1 n k total w.3) ∙ v,
    λ told.
        let w = inside told in
        ap (λ t. length (attempts_within n t)) w.2 ∙ ap (λ t. length t) (within-done done w.0 w.1 n k total w.3) ∙ many,
  )
  same-ask done n k total i many phase more value good v inside h (e ∷ es) p = h e.outcome es p.2

  same-over : (n : ℕ) (attempts : List Attempt) (s : MachineState) → Root n (Over attempts) s → Same n (Over attempts) s
  same-over n attempts s r [] p = r
  same-over n attempts s r (e ∷ es) p = elim p [ ]

  last-push : (done : List Attempt) (a : Attempt) → newest_attempt (done ++ a ∷ []) ≡ Some a
  last-push [] a = refl
  last-push (x ∷ []) a = refl
  last-push (x ∷ y ∷ done) a = last-push (y ∷ done) a

  phases-push : (done : List Attempt) (a : Attempt) → length (phases_of (done ++ a ∷ [])) ≡ length (phases_of done) + length a.ended
  phases-push [] a = ap length (append-nil a.ended) ∙ omega arith
  phases-push (d ∷ done) a =
      let r = phases-push done a in
      let l = length-append d.ended (phases_of (done ++ a ∷ [])) in
      let m = length-append d.ended (phases_of done) in
      omega arith

  ended-over : (done : List Attempt) (a : Attempt) (i n : ℕ) → length done ≡ i → n ≡ length (phases_of done) + length a.ended
      → Same n (Over (done ++ a ∷ [])) (record { attempt = i; phase = None; value = Some a.value; good = a.good })
  ended-over done a i n many total =
      same-over n (done ++ a ∷ []) _ (
        refl,
        sym (ap is_good (last-push done a)),
        sym (ap value_if_any (last-push done a)),
        ap (λ t. attempts_within t (done ++ a ∷ [])) (total ∙ sym (phases-push done a)) ∙ within-whole (done ++ a ∷ []),
        (let l = length-append done (a ∷ []) in omega arith),
      )

  -- an attempt, with what may follow it
  module _ (done : List Attempt) (i : ℕ) (next : Attempt → Tree)
      (begins : (a : Attempt) (told : ℕ → Phase → Outcome) → (rest : List Attempt) × (end_of (next a) told ≡ done ++ a ∷ rest))
      (later : (a : Attempt) (n : ℕ) → n ≡ length (phases_of done) + length a.ended → Same n (next a) (attempt_closed course i a.value a.good))
      (value : Option ℤ) (good : Bool) (v : value_if_any (newest_attempt done) ≡ value) (many : length done ≡ i) where
    inside-next : (a : Attempt) (k : ℕ) → k < length a.ended → (told : ℕ → Phase → Outcome) → Inside done k (end_of (next a) told)
    inside-next a k lt told = let b = begins a told in (a, b.0, b.1, lt)

    same-job : (n : ℕ) (before : List Ended) → n ≡ length (phases_of done) + length before → Same n (job_tree course i before next) (record { attempt = i; phase = Some Job; value = value; good = good })
    same-job n before total =
        same-ask done n (length before) total i many Job _ value good v
        (λ told. one_of (λ tree. Inside done (length before) (end_of tree told)) course.post
        (inside-next (decided_by (told i Post) (before ++ got i Job (told i Job) ∷ got i Post (told i Post) ∷ [])) (length before)
        (let l = length-append before (got i Job (told i Job) ∷ got i Post (told i Post) ∷ []) in omega arith) told)
        (inside-next (decided_by (told i Job) (before ++ got i Job (told i Job) ∷ [])) (length before)
        (let l = length-append before (got i Job (told i Job) ∷ []) in omega arith) told))
        (λ y. both (Same (suc n)) course.post
        (same-ask done (suc n) (suc (length before)) (omega arith) i many Post _ value good v
        (λ told. inside-next (decided_by (told i Post) (before ++ got i Job y ∷ got i Post (told i Post) ∷ [])) (suc (length before))
        (let l = length-append before (got i Job y ∷ got i Post (told i Post) ∷ []) in omega arith) told)
        (λ z. later (decided_by z (before ++ got i Job y ∷ got i Post z ∷ [])) (suc (suc n))
        (let l = length-append before (got i Job y ∷ got i Post z ∷ []) in omega arith)))
        (later (decided_by y (before ++ got i Job y ∷ [])) (suc n) (let l = length-append before (got i Job y ∷ []) in omega arith)))

    same-failed : (n : ℕ) (x : Outcome) → n ≡ length (phases_of done)
        → Same (suc n) (failed_tree course i x next) (pre_failed course (record { attempt = i; phase = Some Pre; value = value; good = good }) x)
    same-failed n x total =
        both (Same (suc n)) (always_posts course)
        (same-ask done (suc n) 1 (omega arith) i many Post _ value good v
        (λ told. inside-next (decided_by (told i Post) (got i Pre x ∷ got i Post (told i Post) ∷ [])) 1 (omega arith) told)
        (λ z. later (decided_by z (got i Pre x ∷ got i Post z ∷ [])) (suc (suc n)) (omega arith)))
        (later (record { ended = got i Pre x ∷ []; value = value_of x; good = false }) (suc n) (omega arith))

    same-attempt : (n : ℕ) → n ≡ length (phases_of done) → Same n (attempt_tree course i next) (machine_before course i value good)
    same-attempt n total =
        elim course.pre as (λ b. Same n (if b then Ask i Pre (λ x. if skips course x then next (record { ended = got i Pre x ∷ []; value = pos 0; good = true }) else if is_exit_0 x then job_tree course i (got i Pre x ∷ []) next else failed_tree course i x next) else job_tree course i [] next)
        (record { attempt = i; phase = Some (if b then Pre else Job); value = value; good = good })) [
          | true ↦ same-ask done n 0 (omega arith) i many Pre _ value good v
              (λ told. one_of (λ tree. Inside done 0 (end_of tree told)) (skips course (told i Pre))
              (inside-next (record { ended = got i Pre (told i Pre) ∷ []; value = pos 0; good = true }) 0 (omega arith) told)
              (one_of (λ tree. Inside done 0 (end_of tree told)) (is_exit_0 (told i Pre))
              (one_of (λ tree. Inside done 0 (end_of tree told)) course.post
              (inside-next (decided_by (told i Post) (got i Pre (told i Pre) ∷ got i Job (told i Job) ∷ got i Post (told i Post) ∷ [])) 0 (omega arith) told)
              (inside-next (decided_by (told i Job) (got i Pre (told i Pre) ∷ got i Job (told i Job) ∷ [])) 0 (omega arith) told))
              (one_of (λ tree. Inside done 0 (end_of tree told)) (always_posts course)
              (inside-next (decided_by (told i Post) (got i Pre (told i Pre) ∷ got i Post (told i Post) ∷ [])) 0 (omega arith) told)
              (inside-next (record { ended = got i Pre (told i Pre) ∷ []; value = value_of (told i Pre); good = false }) 0 (omega arith) told))))
              (λ x. both (Same (suc n)) (skips course x)
              (later (record { ended = got i Pre x ∷ []; value = pos 0; good = true }) (suc n) (omega arith))
              (both (Same (suc n)) (is_exit_0 x) (same-job (suc n) (got i Pre x ∷ []) (omega arith)) (same-failed n x total)))
          | false ↦ same-job n [] (omega arith)
        ]

  value-push : (done : List Attempt) (a : Attempt) → value_if_any (newest_attempt (done ++ a ∷ [])) ≡ Some a.value
  value-push done a = ap value_if_any (last-push done a)

  same-from : (done : List Attempt) (i left : ℕ) → i + left ≡ course.retries → (n : ℕ) → n ≡ length (phases_of done) → (value : Option ℤ) (good : Bool) → value_if_any (newest_attempt done) ≡ value
      → length done ≡ i → Same n (tree_from course done i left) (machine_before course i value good)
  same-from done i zero total n size value good v many =
      same-attempt done i (λ a. Over (done ++ a ∷ [])) (λ a told. ([], refl)) (λ a m all.
      subst (λ b. Same m (Over (done ++ a ∷ [])) (if b then record { attempt = i; phase = None; value = Some a.value; good = a.good } else machine_before course (suc i) (Some a.value) a.good))
      (sym (or_right (is_final_attempt course a) (i == course.retries) (eq-eqb i course.retries (omega arith))))
      (ended-over done a i m many all))
      value good v many n size
  same-from done i (suc left) total n size value good v many =
      same-attempt done i (λ a. if is_final_attempt course a then Over (done ++ a ∷ []) else tree_from course (done ++ a ∷ []) (suc i) left)
      (λ a told. one_of (λ tree. (rest : List Attempt) × (end_of tree told ≡ done ++ a ∷ rest)) (is_final_attempt course a)
      ([], refl)
      (attempts_from course told (suc i) left, end_from told course (done ++ a ∷ []) (suc i) left ∙ append_assoc done (a ∷ []) (attempts_from course told (suc i) left)))
      (λ a m all.
      elim (is_final_attempt course a) as (λ b. Same m (if b then Over (done ++ a ∷ []) else tree_from course (done ++ a ∷ []) (suc i) left)
      (if b || (i == course.retries) then record { attempt = i; phase = None; value = Some a.value; good = a.good } else machine_before course (suc i) (Some a.value) a.good)) [
        | true ↦ ended-over done a i m many all
        | false ↦
            subst (λ b. Same m (tree_from course (done ++ a ∷ []) (suc i) left) (if b then record { attempt = i; phase = None; value = Some a.value; good = a.good } else machine_before course (suc i) (Some a.value) a.good))
            (sym (ne_eqb i course.retries (λ e. omega arith)))
            (same-from (done ++ a ∷ []) (suc i) left (omega arith) m (all ∙ sym (phases-push done a)) (Some a.value) a.good (value-push done a) (let l = length-append done (a ∷ []) in omega arith))
      ])
      value good v many n size

  module _ (es : List Ended) (h : is_history course es ≡ true) where
    fits : Fits course es (outcome_in es)
    fits = history-fits course [] es (fits-nil course (outcome_in [])) h

    root : Root (length es) (after (tree_of course) es) (machine_after course es)
    root = subst (λ n. Root n (after (tree_of course) es) (machine_after course es)) (count_on-length 0 es ∙ omega arith)
        (same-from [] 0 course.retries (omega arith) 0 refl None false refl refl es fits.plays)

    pub steps-next : next_after course es ≡ next_of (machine_after course es) (machine_after course es).phase
    steps-next = next-first course es fits ∙ go (after (tree_of course) es) root
      where
        go : (tree : Tree) → Root (length es) tree (machine_after course es) → first_phase (play tree (masked course (outcome_in es))) ≡ next_of (machine_after course es) (machine_after course es).phase
        go (Over attempts) r = ap (next_of (machine_after course es)) (sym r.0)
        go (Ask i phase more) r = (λ j. Some (sym r.0 j, phase)) ∙ ap (next_of (machine_after course es)) (sym r.1)

    pub steps-good : is_good_after course es ≡ (is_none (machine_after course es).phase && (machine_after course es).good)
    unfolding is_good_after attempts_after
    steps-good = go (after (tree_of course) es) refl root
      where
        go : (tree : Tree) → after (tree_of course) es ≡ tree → Root (length es) tree (machine_after course es)
            → (is_none (next_after course es) && is_good (newest_attempt (attempts_after course es))) ≡ (is_none (machine_after course es).phase && (machine_after course es).good)
        go (Over attempts) e r =
            (λ j. is_none ((steps-next ∙ ap (next_of (machine_after course es)) r.0) j) && is_good (newest_attempt (story-end course es (outcome_in es) fits attempts e j)))
            ∙ (λ j. is_none (sym r.0 j) && sym r.1 j)
        go (Ask i phase more) e r =
            (λ j. is_none ((steps-next ∙ ap (next_of (machine_after course es)) r.1) j) && is_good (newest_attempt (attempts_after course es)))
            ∙ (λ j. is_none (sym r.1 j) && (machine_after course es).good)

    -- the story is what the tree ends with, from where it is after the phases
    story-after : attempts_after course es ≡ end_of (after (tree_of course) es) (masked course (outcome_in es))
    unfolding attempts_after story
    story-after =
        sym (end_from (masked course (outcome_in es)) course [] 0 course.retries) ∙ end-split (masked course (outcome_in es)) (tree_of course) es fits.plays fits.told

    pub steps-value : value_after course es ≡ (machine_after course es).value
    unfolding value_after
    steps-value = ap (λ t. value_if_any (newest_attempt (attempts_within (length es) t))) story-after ∙ go (after (tree_of course) es) root
      where
        go : (tree : Tree) → Root (length es) tree (machine_after course es)
            → value_if_any (newest_attempt (attempts_within (length es) (end_of tree (masked course (outcome_in es))))) ≡ (machine_after course es).value
        go (Over attempts) r = ap (λ t. value_if_any (newest_attempt t)) r.3 ∙ sym r.2
        go (Ask i phase more) r = r.2 (masked course (outcome_in es))

    pub steps-ended : attempts_ended_after course es ≡ attempts_ended (machine_after course es)
    unfolding attempts_ended_after
    steps-ended = ap (λ t. length (attempts_within (length es) t)) story-after ∙ go (after (tree_of course) es) root
      where
        go : (tree : Tree) → Root (length es) tree (machine_after course es)
            → length (attempts_within (length es) (end_of tree (masked course (outcome_in es)))) ≡ attempts_ended (machine_after course es)
        go (Over attempts) r =
            ap (λ t. length t) r.3 ∙ r.4
            ∙ (λ j. if is_none (sym r.0 j) then suc (machine_after course es).attempt else (machine_after course es).attempt)
        go (Ask i phase more) r =
            r.3 (masked course (outcome_in es))
            ∙ (λ j. if is_none (sym r.1 j) then suc (machine_after course es).attempt else (machine_after course es).attempt)
