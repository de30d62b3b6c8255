-- What a core notes of attempts, record after record.
use Rattle.std.proofs.Common.{◌≡◌, ℕ, ℤ, pos, zero, suc, ◌<◌, ◌≤◌, Bool, true, false, not, ◌&&◌, ◌||◌, List, [], ◌∷◌, ◌++◌, length, ◌==◌, Option, Some, None, is_none, slice_set, refl, sym, ap, ◌∙◌, subst, arith, eq-eqb, eqb-true, length-set, if◌then◌else◌}
use Rattle.std.specs.Ordering.{int_eq}
use Rattle.std.proofs.lemmas.Bool.{and_parts, eqb-false, false_from_ne_true}
use Rattle.node_machine.specs.declared.Phase.{Phase}
use Rattle.node_machine.specs.declared.Phase.TheVariants.{Pre, Job, Post}
use Rattle.node_machine.specs.declared.Outcome.{Outcome}
use Rattle.node_machine.specs.declared.Key.{Key}
use Rattle.node_machine.specs.declared.MachineState.{MachineState}
use Rattle.node_machine.specs.declared.Course.{Course}
use Rattle.node_machine.specs.Story.{phase_number, is_exit_0, skips, always_posts, value_of, is_set_to}
use Rattle.node_machine.specs.MachineState.{machine_before, pre_failed, machine_step_at, machine_after, next_of, attempt_closed}
use Rattle.node_machine.proofs.Standing.{steps-next}
use Rattle.node_machine.proofs.Trees.{got}
use Rattle.node_machine.proofs.Paces.{steps-push}
use Rattle.run_plan.specs.Plan.{Plan, node_at, count_of}
use Rattle.node_machine.specs.declared.Record.{Record}
use Rattle.node_machine.specs.declared.Record.TheVariants.{Life, Launch, End, Finish}
use Rattle.sched_core.specs.declared.notes.AttemptNotes.{AttemptNotes}
use Rattle.sched_core.specs.Run.{history, outstanding, without, is_same, is_aborted, is_lawful, may_follow}
use Rattle.sched_core.specs.Core.{has_key_of}
use Rattle.sched_core.specs.Commands.{newest_launch}
use Rattle.sched_core.specs.Notes.{ended_by, first_ended, newest_launch_attempt, last_launch, phase_key, notes_in, notes_of, no_notes, notes_at, launched_in, with_launch, with_phase_outcome, notes_after, AreNotes}
use Rattle.sched_core.proofs.FactsLemmas.{keep}
use Rattle.sched_core.proofs.Keys.{same-self, Each, each_among, each_without}
use Rattle.sched_core.proofs.Sound.{Held, next-parts, end-among, launch-held}
use Rattle.sched_core.proofs.Held.{histories-are, launched-idle, launched-within, end-within}

-- the attempt of what comes next
attempt-of : (machine : MachineState) (o : Option Phase) (i : ℕ) (phase : Phase) → next_of machine o ≡ Some (i, phase) → machine.attempt ≡ i
attempt-of machine None i phase e = absurd cc
attempt-of machine (Some other) i phase e =
    let left : ℕ × Phase = (machine.attempt, other) in
    let right : ℕ × Phase = (i, phase) in
    let k : left ≡ right = cc in
    λ j. (k j).0

-- a step leads to no earlier attempt
closed-later : (course : Course) (i : ℕ) (value : ℤ) (good : Bool) → i ≤ (attempt_closed course i value good).attempt
closed-later course i value good = go (good || is_set_to course.unless_exit value || is_set_to course.abort_on value) (i == course.retries)
  where
    go : (a b : Bool) → i ≤ (if a || b then record { attempt = i; phase = None; value = Some value; good = good } else machine_before course (suc i) (Some value) good).attempt
    go true b = omega arith
    go false true = omega arith
    go false false = omega arith

step-later : (course : Course) (machine : MachineState) (o : Option Phase) (outcome : Outcome) → machine.attempt ≤ (machine_step_at course machine o outcome).attempt
step-later course machine None outcome = omega arith
step-later course machine (Some Pre) outcome = go (skips course outcome) (is_exit_0 outcome)
  where
    failed : (c : Bool) → machine.attempt ≤ (if c then record machine { phase = Some Post } else attempt_closed course machine.attempt (value_of outcome) false).attempt
    failed true = omega arith
    failed false = closed-later course machine.attempt (value_of outcome) false

    go : (a b : Bool) → machine.attempt ≤ (if a then attempt_closed course machine.attempt (pos 0) true else if b then record machine { phase = Some Job } else pre_failed course machine outcome).attempt
    go true b = closed-later course machine.attempt (pos 0) true
    go false true = omega arith
    go false false = failed (always_posts course)
step-later course machine (Some Job) outcome = go course.post
  where
    go : (a : Bool) → machine.attempt ≤ (if a then record machine { phase = Some Post } else attempt_closed course machine.attempt (value_of outcome) (int_eq (value_of outcome) (pos 0))).attempt
    go true = omega arith
    go false = closed-later course machine.attempt (value_of outcome) (int_eq (value_of outcome) (pos 0))
step-later course machine (Some Post) outcome = closed-later course machine.attempt (value_of outcome) (int_eq (value_of outcome) (pos 0))

abbrev standing : Plan → List Record → ℕ → MachineState
standing plan past node = machine_after (node_at plan node).course (history past node)

-- what is launched is of the attempt where its node is
held-attempt : (plan : Plan) (past : List Record) → is_lawful plan past ≡ true → (key : Key) → Held plan past key → (standing plan past key.node).attempt ≡ key.attempt
held-attempt plan past lawful key held =
    attempt-of (standing plan past key.node) (standing plan past key.node).phase key.attempt key.phase
    (sym (steps-next (node_at plan key.node).course (history past key.node) (histories-are plan past lawful key.node))
    ∙ (next-parts plan past key.node key held.is_next).1)

-- no node has been launched beyond where it is
reached : (plan : Plan) (past : List Record) → is_lawful plan past ≡ true → (node : ℕ) → newest_launch_attempt past node ≤ (standing plan past node).attempt
reached plan [] h node = omega arith
reached plan (Life ∷ past) h node = reached plan past (and_parts _ _ h).0 node
reached plan (Finish status ∷ past) h node = reached plan past (and_parts _ _ h).0 node
reached plan (Launch key number ∷ past) h node = go (key.node == node) refl (reached plan past (and_parts _ _ h).0 node)
  where
    p : (is_lawful plan past ≡ true) × (may_follow plan past (Launch key number) ≡ true)
    p = and_parts _ _ h

    go : (b : Bool) → (key.node == node) ≡ b → newest_launch_attempt past node ≤ (standing plan past node).attempt
        → (if b then key.attempt else newest_launch_attempt past node) ≤ (standing plan past node).attempt
    go true e before =
        subst (λ n. key.attempt ≤ (standing plan past n).attempt) (eqb-true key.node node e)
        (let a = held-attempt plan past p.0 key (launch-held plan past key number p.1) in omega arith)
    go false e before = before
reached plan (End key outcome ∷ past) h node = go (key.node == node) (reached plan past (and_parts _ _ h).0 node)
  where
    go : (b : Bool) → newest_launch_attempt past node ≤ (standing plan past node).attempt
        → newest_launch_attempt past node ≤ (machine_after (node_at plan node).course (if b then history past node ++ got key.attempt key.phase outcome ∷ [] else history past node)).attempt
    go true before =
        let later = step-later (node_at plan node).course (standing plan past node) (standing plan past node).phase outcome in
        let push = ap (λ (s : MachineState). s.attempt) (steps-push (node_at plan node).course (machine_before (node_at plan node).course 0 None false) (history past node) (got key.attempt key.phase outcome)) in
        omega (arith, before, later, push)
    go false before = before

-- a key of another node, or of another attempt
apart-node : (key : Key) (node attempt : ℕ) (phase : Phase) → (key.node == node) ≡ false → is_same key (phase_key node attempt phase) ≡ false
apart-node key node attempt phase ne = λ j. ne j && (key.attempt == attempt) && (phase_number key.phase == phase_number phase)

apart-attempt : (key : Key) (node attempt : ℕ) (phase : Phase) → (key.attempt == attempt) ≡ false → is_same key (phase_key node attempt phase) ≡ false
apart-attempt key node attempt phase ne = go (key.node == node) ne
  where
    go : (b : Bool) → (key.attempt == attempt) ≡ false → (b && (key.attempt == attempt) && (phase_number key.phase == phase_number phase)) ≡ false
    go true e = λ j. e j && (phase_number key.phase == phase_number phase)
    go false e = refl

-- an outstanding key is that of its node's newest launch
abbrev pub IsNewest : List Record → Key → Type 0
IsNewest past key = (newest_launch_attempt past key.node ≡ key.attempt) × (last_launch past key.node ≡ newest_launch past key)

or-parts : (a b : Bool) → (a || b) ≡ false → (a ≡ false) × (b ≡ false)
or-parts true b h = absurd cc
or-parts false b h = (refl, h)

newest-kept : (past : List Record) (key : Key) (number : ℕ) (keys : List Key) → has_key_of key.node keys ≡ false → Each (IsNewest past) keys → Each (IsNewest (Launch key number ∷ past)) keys
newest-kept past key number [] none e = tt
newest-kept past key number (other ∷ keys) none e =
    let apart = or-parts (other.node == key.node) (has_key_of key.node keys) none in
    let ne : (key.node == other.node) ≡ false = false_from_ne_true _ (λ t. let o = eqb-false other.node key.node apart.0 in o (sym (eqb-true key.node other.node t))) in (
      (
        (λ j. if ne j then key.attempt else newest_launch_attempt past other.node) ∙ e.0.0,
        (λ j. if ne j then number else last_launch past other.node) ∙ e.0.1
            ∙ sym (λ j. if apart-node key other.node other.attempt other.phase ne j then number else newest_launch past other),
      ),
      newest-kept past key number keys apart.1 e.1,
    )

pub outstanding-newest : (plan : Plan) (past : List Record) → is_lawful plan past ≡ true → Each (IsNewest past) (outstanding plan past)
outstanding-newest plan [] h = tt
outstanding-newest plan (Life ∷ past) h = tt
outstanding-newest plan (Finish status ∷ past) h = same (outstanding plan past) (outstanding-newest plan past (and_parts _ _ h).0)
  where
    same : (keys : List Key) → Each (IsNewest past) keys → Each (IsNewest (Finish status ∷ past)) keys
    same [] e = tt
    same (key ∷ keys) e = (e.0, same keys e.1)
outstanding-newest plan (Launch key number ∷ past) h =
    let p = and_parts _ _ h in (
      (
        (λ j. if eq-eqb key.node key.node refl j then key.attempt else newest_launch_attempt past key.node),
        (λ j. if eq-eqb key.node key.node refl j then number else last_launch past key.node)
            ∙ sym (λ j. if same-self key j then number else newest_launch past key),
      ),
      newest-kept past key number (outstanding plan past) (launched-idle plan past key number p.0 p.1) (outstanding-newest plan past p.0),
    )
outstanding-newest plan (End key outcome ∷ past) h = go (is_aborted plan (End key outcome ∷ past) && not (is_aborted plan past)) (outstanding-newest plan past (and_parts _ _ h).0)
  where
    go : (b : Bool) → Each (IsNewest past) (outstanding plan past) → Each (IsNewest (End key outcome ∷ past)) (if b then [] else without key (outstanding plan past))
    go true e = tt
    go false e = each_without (IsNewest past) (IsNewest (End key outcome ∷ past)) key (λ other s w. w) (outstanding plan past) e

-- nothing is launched of a later attempt than a node's newest, and nothing of one has ended
abbrev Nothing : List Record → ℕ → Type 0
Nothing past node = (attempt : ℕ) (phase : Phase) → newest_launch_attempt past node < attempt
    → (newest_launch past (phase_key node attempt phase) ≡ 0) × (first_ended past (phase_key node attempt phase) ≡ None)

end-newest : (plan : Plan) (past : List Record) (key : Key) (outcome : Outcome) → is_lawful plan past ≡ true → may_follow plan past (End key outcome) ≡ true → newest_launch_attempt past key.node ≡ key.attempt
end-newest plan past key outcome lawful may =
    (each_among (IsNewest past) key (outstanding plan past) (outstanding-newest plan past lawful) (end-among plan past key outcome may).0).0

nothing-later : (plan : Plan) (past : List Record) → is_lawful plan past ≡ true → (node : ℕ) → Nothing past node
nothing-later plan [] h node attempt phase lt = (refl, refl)
nothing-later plan (Life ∷ past) h node attempt phase lt =
    let n = nothing-later plan past (and_parts _ _ h).0 node attempt phase lt in (n.0, sym (keep _) ∙ n.1)
nothing-later plan (Finish status ∷ past) h node attempt phase lt =
    let n = nothing-later plan past (and_parts _ _ h).0 node attempt phase lt in (n.0, sym (keep _) ∙ n.1)
nothing-later plan (Launch key number ∷ past) h node attempt phase lt =
    go (λ less. nothing-later plan past (and_parts _ _ h).0 node attempt phase less) (key.node == node) refl lt
  where
    p : (is_lawful plan past ≡ true) × (may_follow plan past (Launch key number) ≡ true)
    p = and_parts _ _ h

    Older : Type 0
    Older = newest_launch_attempt past node < attempt → (newest_launch past (phase_key node attempt phase) ≡ 0) × (first_ended past (phase_key node attempt phase) ≡ None)

    other : Older → is_same key (phase_key node attempt phase) ≡ false → newest_launch_attempt past node < attempt
        → (newest_launch (Launch key number ∷ past) (phase_key node attempt phase) ≡ 0) × (first_ended (Launch key number ∷ past) (phase_key node attempt phase) ≡ None)
    other older ne less =
        let n = older less in
        ((λ j. if ne j then number else newest_launch past (phase_key node attempt phase)) ∙ n.0, sym (keep _) ∙ n.1)

    go : Older → (b : Bool) → (key.node == node) ≡ b → (if b then key.attempt else newest_launch_attempt past node) < attempt
        → (newest_launch (Launch key number ∷ past) (phase_key node attempt phase) ≡ 0) × (first_ended (Launch key number ∷ past) (phase_key node attempt phase) ≡ None)
    go older false e less = other older (apart-node key node attempt phase e) less
    go older true e less =
        let same = eqb-true key.node node e in
        let stands = held-attempt plan past p.0 key (launch-held plan past key number p.1) in
        let old = subst (λ n. newest_launch_attempt past n ≤ (standing plan past key.node).attempt) same (reached plan past p.0 key.node) in
        other older (apart-attempt key node attempt phase (false_from_ne_true _ (λ t. let a = eqb-true key.attempt attempt t in omega (arith, a, less)))) (omega (arith, stands, old, less))
nothing-later plan (End key outcome ∷ past) h node attempt phase lt = go (nothing-later plan past (and_parts _ _ h).0 node attempt phase lt) (key.node == node) refl
  where
    p : (is_lawful plan past ≡ true) × (may_follow plan past (End key outcome) ≡ true)
    p = and_parts _ _ h

    Older : Type 0
    Older = (newest_launch past (phase_key node attempt phase) ≡ 0) × (first_ended past (phase_key node attempt phase) ≡ None)

    other : Older → is_same key (phase_key node attempt phase) ≡ false
        → (newest_launch past (phase_key node attempt phase) ≡ 0) × (first_ended (End key outcome ∷ past) (phase_key node attempt phase) ≡ None)
    other n ne = (
      n.0,
      (λ j. if is_none (first_ended past (phase_key node attempt phase)) then (if ne j then Some outcome else None) else first_ended past (phase_key node attempt phase)) ∙ sym (keep _) ∙ n.1,
    )

    go : Older → (b : Bool) → (key.node == node) ≡ b
        → (newest_launch past (phase_key node attempt phase) ≡ 0) × (first_ended (End key outcome ∷ past) (phase_key node attempt phase) ≡ None)
    go n false e = other n (apart-node key node attempt phase e)
    go n true e =
        let same = eqb-true key.node node e in
        let a = subst (λ m. newest_launch_attempt past m ≡ key.attempt) same (end-newest plan past key outcome p.0 p.1) in
        other n (apart-attempt key node attempt phase (false_from_ne_true _ (λ t. let b = eqb-true key.attempt attempt t in omega (arith, a, b, lt))))

-- notes of a record that says nothing of the node
quiet : (past : List Record) (node : ℕ) (newest : Record) → newest_launch_attempt (newest ∷ past) node ≡ newest_launch_attempt past node → last_launch (newest ∷ past) node ≡ last_launch past node
    → ((attempt : ℕ) (phase : Phase) → newest_launch (newest ∷ past) (phase_key node attempt phase) ≡ newest_launch past (phase_key node attempt phase))
    → ((attempt : ℕ) (phase : Phase) → first_ended (newest ∷ past) (phase_key node attempt phase) ≡ first_ended past (phase_key node attempt phase))
    → notes_of past node ≡ notes_of (newest ∷ past) node
quiet past node newest attempt launch launched ended =
    (λ j. record {
      attempt = newest_launch_attempt past node;
      launch = newest_number j;
      job_launch = sym (launched (newest_launch_attempt past node) Job) j;
      pre = sym (ended (newest_launch_attempt past node) Pre) j;
      job = sym (ended (newest_launch_attempt past node) Job) j;
    })
    ∙ (λ j. notes_in (newest ∷ past) node (sym attempt j) (last_launch (newest ∷ past) node))
  where
    newest_number : last_launch past node ≡ last_launch (newest ∷ past) node
    newest_number = sym launch

module _ (plan : Plan) (past : List Record) (lawful : is_lawful plan past ≡ true) where
  ended-silent : (newest : Record) (key : Key) → ended_by newest key ≡ None → first_ended (newest ∷ past) key ≡ first_ended past key
  ended-silent newest key none =
      (λ j. if is_none (first_ended past key) then none j else first_ended past key) ∙ sym (keep (first_ended past key))

  module _ (key : Key) (number : ℕ) (may : may_follow plan past (Launch key number) ≡ true) where
    abbrev launched : List Record
    launched = Launch key number ∷ past

    launch-other : (node : ℕ) → (key.node == node) ≡ false → notes_of past node ≡ notes_of launched node
    launch-other node ne =
        quiet past node (Launch key number) (λ j. if ne j then key.attempt else newest_launch_attempt past node) (λ j. if ne j then number else last_launch past node)
        (λ attempt phase j. if apart-node key node attempt phase ne j then number else newest_launch past (phase_key node attempt phase))
        (λ attempt phase. ended-silent (Launch key number) (phase_key node attempt phase) refl)

    -- what was noted of the attempt that is launched
    abbrev before : AttemptNotes
    before = notes_in past key.node key.attempt (last_launch past key.node)

    same-node : (key.node == key.node) ≡ true
    same-node = eq-eqb key.node key.node refl

    same-attempt : (key.attempt == key.attempt) ≡ true
    same-attempt = eq-eqb key.attempt key.attempt refl

    -- a launch writes its number over
    over : (notes : AttemptNotes) → notes.attempt ≡ key.attempt → notes.job_launch ≡ newest_launch past (phase_key key.node key.attempt Job)
        → notes.pre ≡ first_ended past (phase_key key.node key.attempt Pre) → notes.job ≡ first_ended past (phase_key key.node key.attempt Job)
        → launched_in notes key.phase number ≡ notes_of launched key.node
    over notes attempt job_launch pre job =
        (λ j. record {
          attempt = attempt j;
          launch = number;
          job_launch = if phase_number key.phase == 1 then number else job_launch j;
          pre = (pre ∙ sym (ended-silent (Launch key number) (phase_key key.node key.attempt Pre) refl)) j;
          job = (job ∙ sym (ended-silent (Launch key number) (phase_key key.node key.attempt Job) refl)) j;
        })
        ∙ (λ j. record {
          attempt = key.attempt;
          launch = number;
          job_launch = if sym same-node j && sym same-attempt j && (phase_number key.phase == 1) then number else newest_launch past (phase_key key.node key.attempt Job);
          pre = first_ended launched (phase_key key.node key.attempt Pre);
          job = first_ended launched (phase_key key.node key.attempt Job);
        })
        ∙ (λ j. notes_in launched key.node (if sym same-node j then key.attempt else newest_launch_attempt past key.node) (if sym same-node j then number else last_launch past key.node))

    launch-own : with_launch (notes_of past key.node) key number ≡ notes_of launched key.node
    launch-own = go (key.attempt == newest_launch_attempt past key.node) refl
      where
        go : (b : Bool) → (key.attempt == newest_launch_attempt past key.node) ≡ b → launched_in (if b then notes_of past key.node else no_notes key.attempt) key.phase number ≡ notes_of launched key.node
        go true e =
            let same : newest_launch_attempt past key.node ≡ key.attempt = sym (eqb-true key.attempt (newest_launch_attempt past key.node) e) in
            over (notes_of past key.node) same (ap (λ a. newest_launch past (phase_key key.node a Job)) same)
            (ap (λ a. first_ended past (phase_key key.node a Pre)) same) (ap (λ a. first_ended past (phase_key key.node a Job)) same)
        go false e =
            let r = reached plan past lawful key.node in
            let stands = held-attempt plan past lawful key (launch-held plan past key number may) in
            let differs = eqb-false key.attempt (newest_launch_attempt past key.node) e in
            let none = λ (phase : Phase). nothing-later plan past lawful key.node key.attempt phase (less (newest_launch_attempt past key.node) key.attempt (omega (arith, r, stands)) differs) in
            over (no_notes key.attempt) refl (sym (none Job).0) (sym (none Pre).1) (sym (none Job).1)
          where
            less : (a b : ℕ) → a ≤ b → (b ≡ a → ⊥) → a < b
            less a b le ne = by_lt a b (λ lt. lt) (λ ge. absurd (ne (omega (arith, le, ge))))
              where
                by_lt : (a b : ℕ) → (a < b → a < b) → (b ≤ a → a < b) → a < b
                by_lt a b below above = grind arith

  module _ (key : Key) (outcome : Outcome) (may : may_follow plan past (End key outcome) ≡ true) where
    abbrev ended : List Record
    ended = End key outcome ∷ past

    end-other : (node : ℕ) → (key.node == node) ≡ false → notes_of past node ≡ notes_of ended node
    end-other node ne =
        quiet past node (End key outcome) refl refl (λ attempt phase. refl)
        (λ attempt phase. ended-silent (End key outcome) (phase_key node attempt phase) (λ j. if apart-node key node attempt phase ne j then Some outcome else None))

    attempt-is : newest_launch_attempt past key.node ≡ key.attempt
    attempt-is = end-newest plan past key outcome lawful may

    -- of the same attempt
    abbrev said : Phase → Option Outcome
    said phase = if phase_number key.phase == phase_number phase then Some outcome else None

    said-is : (phase : Phase) → ended_by (End key outcome) (phase_key key.node (newest_launch_attempt past key.node) phase) ≡ said phase
    said-is phase = λ j. if eq-eqb key.node key.node refl j && (eq-eqb key.attempt (newest_launch_attempt past key.node) (sym attempt-is)) j && (phase_number key.phase == phase_number phase) then Some outcome else None

    abbrev first : Phase → Option Outcome
    first phase = first_ended past (phase_key key.node (newest_launch_attempt past key.node) phase)

    now-is : (phase : Phase) → first_ended ended (phase_key key.node (newest_launch_attempt past key.node) phase) ≡ (if is_none (first phase) then said phase else first phase)
    now-is phase = λ j. if is_none (first phase) then said-is phase j else first phase

    with-first : (pre job : Option Outcome) → first_ended ended (phase_key key.node (newest_launch_attempt past key.node) Pre) ≡ pre
        → first_ended ended (phase_key key.node (newest_launch_attempt past key.node) Job) ≡ job
        → record { attempt = newest_launch_attempt past key.node; launch = last_launch past key.node; job_launch = newest_launch past (phase_key key.node (newest_launch_attempt past key.node) Job); pre = pre; job = job }
        ≡ notes_of ended key.node
    with-first pre job p q = λ j. record {
      attempt = newest_launch_attempt past key.node;
      launch = last_launch past key.node;
      job_launch = newest_launch past (phase_key key.node (newest_launch_attempt past key.node) Job);
      pre = sym p j;
      job = sym q j;
    }

    end-own : with_phase_outcome (notes_of past key.node) key.phase outcome ≡ notes_of ended key.node
    end-own = go key.phase refl
      where
        at : (own phase : Phase) → key.phase ≡ own → first_ended ended (phase_key key.node (newest_launch_attempt past key.node) phase)
            ≡ (if is_none (first phase) then (if phase_number own == phase_number phase then Some outcome else None) else first phase)
        at own phase e = now-is phase ∙ (λ j. if is_none (first phase) then (if phase_number (e j) == phase_number phase then Some outcome else None) else first phase)

        go : (own : Phase) → key.phase ≡ own → with_phase_outcome (notes_of past key.node) own outcome ≡ notes_of ended key.node
        go Pre e = with-first _ _ (at Pre Pre e) (at Pre Job e ∙ sym (keep (first Job)))
        go Job e = with-first _ _ (at Job Pre e ∙ sym (keep (first Pre))) (at Job Job e)
        go Post e = with-first _ _ (at Post Pre e ∙ sym (keep (first Pre))) (at Post Job e ∙ sym (keep (first Job)))

-- a node's notes after its own change, and after another's
at-same : (notes : List AttemptNotes) (i : ℕ) (now : AttemptNotes) → i < length notes → notes_at (slice_set notes i now) i ≡ now
at-same [] i now lt = absurd (omega arith)
at-same (n ∷ notes) zero now lt = refl
at-same (n ∷ notes) (suc i) now lt = at-same notes i now (omega arith)

at-other : (notes : List AttemptNotes) (i : ℕ) (now : AttemptNotes) (node : ℕ) → (i ≡ node → ⊥) → notes_at (slice_set notes i now) node ≡ notes_at notes node
at-other [] i now node ne = refl
at-other (n ∷ notes) zero now zero ne = absurd (ne refl)
at-other (n ∷ notes) zero now (suc node) ne = refl
at-other (n ∷ notes) (suc i) now zero ne = refl
at-other (n ∷ notes) (suc i) now (suc node) ne = at-other notes i now node (λ e. ne (ap suc e))

module _ (plan : Plan) (past : List Record) (lawful : is_lawful plan past ≡ true) (notes : List AttemptNotes) (are : AreNotes plan past notes) where
  set-notes : (entry : Record) (i : ℕ) (now : AttemptNotes) → i < suc (count_of plan) → now ≡ notes_of (entry ∷ past) i
      → ((node : ℕ) → (i == node) ≡ false → notes_of past node ≡ notes_of (entry ∷ past) node) → AreNotes plan (entry ∷ past) (slice_set notes i now)
  set-notes entry i now within is others = record {
    many = length-set notes i now ∙ are.many;
    each = λ node lt. go node lt (i == node) refl;
  }
    where
      go : (node : ℕ) → node < suc (count_of plan) → (b : Bool) → (i == node) ≡ b → notes_at (slice_set notes i now) node ≡ notes_of (entry ∷ past) node
      go node lt true e =
          subst (λ n. notes_at (slice_set notes i now) n ≡ notes_of (entry ∷ past) n) (eqb-true i node e)
          (at-same notes i now (let m = are.many in let w : i < suc (count_of plan) = within in omega arith) ∙ is)
      go node lt false e = at-other notes i now node (eqb-false i node e) ∙ are.each node lt ∙ others node e

  silent-notes : (entry : Record) → ((node : ℕ) → notes_of past node ≡ notes_of (entry ∷ past) node) → AreNotes plan (entry ∷ past) notes
  silent-notes entry same = record { many = are.many; each = λ node lt. are.each node lt ∙ same node }

  pub notes-next : (entry : Record) → may_follow plan past entry ≡ true → AreNotes plan (entry ∷ past) (notes_after notes entry)
  notes-next Life may = silent-notes Life (λ node. quiet past node Life refl refl (λ attempt phase. refl) (λ attempt phase. ended-silent plan past lawful Life (phase_key node attempt phase) refl))
  notes-next (Finish status) may =
      silent-notes (Finish status) (λ node. quiet past node (Finish status) refl refl (λ attempt phase. refl) (λ attempt phase. ended-silent plan past lawful (Finish status) (phase_key node attempt phase) refl))
  notes-next (Launch key number) may =
      let within = launched-within plan past key number may in
      set-notes (Launch key number) key.node _ within
      (ap (λ (n : AttemptNotes). with_launch n key number) (are.each key.node within) ∙ launch-own plan past lawful key number may)
      (launch-other plan past lawful key number may)
  notes-next (End key outcome) may =
      let within = end-within plan past key outcome lawful may in
      set-notes (End key outcome) key.node _ within
      (ap (λ (n : AttemptNotes). with_phase_outcome n key.phase outcome) (are.each key.node within) ∙ end-own plan past lawful key outcome may)
      (end-other plan past lawful key outcome may)
