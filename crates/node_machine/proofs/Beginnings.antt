-- A node's phases that ended, as the beginning of its story.
use Rattle.std.proofs.Common.{◌≡◌, ℕ, ◌+◌, ◌*◌, ◌<◌, Bool, true, false, not, ◌&&◌, ◌||◌, List, [], ◌∷◌, ◌++◌, length, ◌==◌, Option, Some, None, is_none, refl, sym, ap, ◌∙◌, subst, arith, append-nil, append_assoc, eq-eqb, eqb-true, if◌then◌else◌}
use Rattle.std.proofs.lemmas.Bool.{and_parts, and_from, false_from_ne_true, false≢true}
use Rattle.node_machine.specs.declared.Phase.{Phase}
use Rattle.node_machine.specs.declared.Phase.TheVariants.{Pre, Job, Post}
use Rattle.node_machine.specs.declared.Outcome.{Outcome}
use Rattle.node_machine.specs.declared.Outcome.TheVariants.{Exit, Signal, NoStart, Untold}
use Rattle.node_machine.specs.declared.Ended.{Ended}
use Rattle.node_machine.specs.declared.Course.{Course}
use Rattle.node_machine.specs.Story.{Attempt, story, phases_of, ends_with, is_exit_0, newest_attempt, is_good, value_if_any, attempts_within, phase_number, is_phase, outcome_in, attempts_after, has_ended, first_to_come, next_after, is_good_after, value_after, attempts_ended_after, may_end_with, is_noop_job, is_that_phase, may_go_on, is_history, BeginsWith}
use Rattle.node_machine.proofs.Trees.{Tree, Over, Ask, play, tree_from, play_from, end_of, end_from, end-split, after, Plays, Told, play-split, Plays-push, Told-push, place, from_tree, Before, played-before, Told-same, asks, within-whole, within-none}

abbrev pub tree_of : Course → Tree
tree_of course = tree_from course [] 0 course.retries

-- a column of the table, with a NOOP's job at Exit 0
abbrev pub masked : Course → (ℕ → Phase → Outcome) → ℕ → Phase → Outcome
masked course column i phase = ends_with course phase (column i phase)

-- the phases are a play of the story's tree at the outcomes of this column
pub record Fits (course : Course) (es : List Ended) (column : ℕ → Phase → Outcome) : Type 0 where
  pub plays : Plays (tree_of course) es
  pub told : Told (masked course column) es

pub phase-eq : (p q : Phase) → phase_number p ≡ phase_number q → p ≡ q
phase-eq Pre Pre h = refl
phase-eq Pre Job h = cc
phase-eq Pre Post h = cc
phase-eq Job Pre h = cc
phase-eq Job Job h = refl
phase-eq Job Post h = cc
phase-eq Post Pre h = cc
phase-eq Post Job h = cc
phase-eq Post Post h = refl

pub exit_0 : (outcome : Outcome) → is_exit_0 outcome ≡ true → Exit 0 ≡ outcome
exit_0 (Exit code) h = ap Exit (sym (eqb-true code 0 h))
exit_0 (Signal number) h = cc
exit_0 NoStart h = cc
exit_0 Untold h = cc

-- what a phase ends with, where the table has its outcome but perhaps not for a NOOP's job
pub seen : (course : Course) (phase : Phase) (told outcome : Outcome) → may_end_with course phase outcome ≡ true
    → (is_noop_job course phase ≡ false → told ≡ outcome) → ends_with course phase told ≡ outcome
seen course phase told outcome h is = go (is_noop_job course phase) refl
  where
    go : (b : Bool) → is_noop_job course phase ≡ b → (if b then Exit 0 else told) ≡ outcome
    go true e = exit_0 outcome ((λ j. not (sym e j) || is_exit_0 outcome) ∙ h)
    go false e = is e

-- phases that fit come first in the story
pub story-split : (course : Course) (es : List Ended) (column : ℕ → Phase → Outcome) → Fits course es column
    → phases_of (story course column) ≡ es ++ play (after (tree_of course) es) (masked course column)
unfolding story
story-split course es column f =
    sym (play_from (masked course column) course [] 0 course.retries)
    ∙ play-split (masked course column) (tree_of course) es f.plays f.told

-- where they are the whole story, its attempts are those that the tree ends with
pub story-end : (course : Course) (es : List Ended) (column : ℕ → Phase → Outcome) → Fits course es column
    → (attempts : List Attempt) → after (tree_of course) es ≡ Over attempts → story course column ≡ attempts
unfolding story
story-end course es column f attempts e =
    sym (end_from (masked course column) course [] 0 course.retries)
    ∙ end-split (masked course column) (tree_of course) es f.plays f.told
    ∙ ap (λ t. end_of t (masked course column)) e

-- an earlier or a later place is another phase
not_phase : (e : Ended) (i : ℕ) (phase : Phase) → (place e.attempt e.phase ≡ place i phase → ⊥) → is_phase e i phase ≡ false
not_phase e i phase ne = false_from_ne_true _ (λ h.
    let p = and_parts (e.attempt == i) (phase_number e.phase == phase_number phase) h in
    ne (λ j. 3 * eqb-true e.attempt i p.0 j + eqb-true (phase_number e.phase) (phase_number phase) p.1 j))

is_phase-self : (e : Ended) → is_phase e e.attempt e.phase ≡ true
is_phase-self e = and_from _ _ (eq-eqb e.attempt e.attempt refl) (eq-eqb (phase_number e.phase) (phase_number e.phase) refl)

outcome-before : (es : List Ended) (e : Ended) (i : ℕ) (phase : Phase) → place i phase < place e.attempt e.phase
    → outcome_in (es ++ e ∷ []) i phase ≡ outcome_in es i phase
outcome-before [] e i phase lt = λ j. if not_phase e i phase (λ same. omega arith) j then e.outcome else Exit 0
outcome-before (x ∷ es) e i phase lt = ap (λ o. if is_phase x i phase then x.outcome else o) (outcome-before es e i phase lt)

outcome-last : (es : List Ended) (e : Ended) → Before (place e.attempt e.phase) es → outcome_in (es ++ e ∷ []) e.attempt e.phase ≡ e.outcome
outcome-last [] e b = λ j. if is_phase-self e j then e.outcome else Exit 0
outcome-last (x ∷ es) e b =
    (λ j. if not_phase x e.attempt e.phase (λ same. (let lt = b.0 in omega arith)) j then x.outcome else outcome_in (es ++ e ∷ []) e.attempt e.phase)
    ∙ outcome-last es e b.1

-- one phase more
pub fits-push : (course : Course) (es : List Ended) (e : Ended) (more : Outcome → Tree)
    → Fits course es (outcome_in es) → after (tree_of course) es ≡ Ask e.attempt e.phase more
    → may_end_with course e.phase e.outcome ≡ true → Fits course (es ++ e ∷ []) (outcome_in (es ++ e ∷ []))
fits-push course es e more f asks ends =
    let first = played-before 0 (tree_of course) es e.attempt e.phase more (from_tree course [] 0 course.retries) f.plays asks in
    let kept = Told-same (masked course (outcome_in es)) (masked course (outcome_in (es ++ e ∷ []))) (place e.attempt e.phase)
    (λ i phase lt. ap (ends_with course phase) (outcome-before es e i phase lt)) es first.1 f.told in
    record {
      plays = Plays-push (tree_of course) es e.attempt e.phase more e f.plays asks refl refl;
      told = Told-push (masked course (outcome_in (es ++ e ∷ []))) es e kept
          (ap (ends_with course e.phase) (outcome-last es e first.1) ∙ seen course e.phase e.outcome e.outcome ends (λ n. refl));
    }

-- the phases that ended are passed over
has_ended-front : (front es : List Ended) (e : Ended) → has_ended (front ++ e ∷ es) e.attempt e.phase ≡ true
has_ended-front [] es e = λ j. is_phase-self e j || has_ended es e.attempt e.phase
has_ended-front (x ∷ front) es e =
    ap (λ b. is_phase x e.attempt e.phase || b) (has_ended-front front es e) ∙ or_true (is_phase x e.attempt e.phase)
  where
    or_true : (b : Bool) → (b || true) ≡ true
    or_true true = refl
    or_true false = refl

passed-over : (front es later : List Ended) → first_to_come (front ++ es) (es ++ later) ≡ first_to_come (front ++ es) later
passed-over front [] later = refl
passed-over front (e ∷ es) later =
    (λ j. if has_ended-front front es e j then first_to_come (front ++ e ∷ es) (es ++ later) else Some (e.attempt, e.phase))
    ∙ subst (λ t. first_to_come t (es ++ later) ≡ first_to_come t later) (append_assoc front (e ∷ []) es)
    (passed-over (front ++ e ∷ []) es later)

-- and a phase of a later place is still to come
not_ended : (es : List Ended) (i : ℕ) (phase : Phase) → Before (place i phase) es → has_ended es i phase ≡ false
not_ended [] i phase b = refl
not_ended (e ∷ es) i phase b =
    (λ j. not_phase e i phase (λ same. (let lt = b.0 in omega arith)) j || has_ended es i phase) ∙ not_ended es i phase b.1

-- the attempt and the phase of the first of these
abbrev pub first_phase : List Ended → Option (ℕ × Phase)
first_phase [] = None
first_phase (e ∷ later) = Some (e.attempt, e.phase)

module _ (course : Course) (es : List Ended) (f : Fits course es (outcome_in es)) where
  pub next-first : next_after course es ≡ first_phase (play (after (tree_of course) es) (masked course (outcome_in es)))
  unfolding next_after attempts_after
  next-first =
      ap (first_to_come es) (story-split course es (outcome_in es) f)
      ∙ passed-over [] es (play (after (tree_of course) es) (masked course (outcome_in es)))
      ∙ go (after (tree_of course) es) refl
    where
      go : (tree : Tree) → after (tree_of course) es ≡ tree
          → first_to_come es (play tree (masked course (outcome_in es))) ≡ first_phase (play tree (masked course (outcome_in es)))
      go (Over attempts) e = refl
      go (Ask i phase more) e =
          let b = played-before 0 (tree_of course) es i phase more (from_tree course [] 0 course.retries) f.plays e in
          let later : List Ended = play (more (masked course (outcome_in es) i phase)) (masked course (outcome_in es)) in
          λ j. if not_ended es i phase b.1 j then first_to_come es later else Some (i, phase)

  -- where no phase follows, the story is over
  pub next-none : next_after course es ≡ None → (attempts : List Attempt) × (after (tree_of course) es ≡ Over attempts)
  next-none none = go (after (tree_of course) es) refl
    where
      go : (tree : Tree) → after (tree_of course) es ≡ tree → (attempts : List Attempt) × (after (tree_of course) es ≡ Over attempts)
      go (Over attempts) e = (attempts, e)
      go (Ask i phase more) e =
          let bad : None ≡ first_phase (play (Ask i phase more) (masked course (outcome_in es))) =
          sym none ∙ next-first ∙ ap (λ t. first_phase (play t (masked course (outcome_in es)))) e in
          absurd cc

  -- the next phase is what the story's tree asks for
  pub next-some : (next : ℕ × Phase) → next_after course es ≡ Some next → (more : Outcome → Tree) × (after (tree_of course) es ≡ Ask next.0 next.1 more)
  next-some next some = go (after (tree_of course) es) refl
    where
      go : (tree : Tree) → after (tree_of course) es ≡ tree → (more : Outcome → Tree) × (after (tree_of course) es ≡ Ask next.0 next.1 more)
      go (Over attempts) e =
          let bad : None ≡ Some next = ap (λ t. first_phase (play t (masked course (outcome_in es)))) (sym e) ∙ sym next-first ∙ some in
          absurd cc
      go (Ask i phase more) e =
          let same : Some (i, phase) ≡ Some next = ap (λ t. first_phase (play t (masked course (outcome_in es)))) (sym e) ∙ sym next-first ∙ some in
          let k : (i, phase) ≡ next = cc in
          (more, e ∙ (λ j. Ask (k j).0 (k j).1 more))

  pub fits-next : (e : Ended) → next_after course es ≡ Some (e.attempt, e.phase) → may_end_with course e.phase e.outcome ≡ true
      → Fits course (es ++ e ∷ []) (outcome_in (es ++ e ∷ []))
  fits-next e some ends = let n = next-some (e.attempt, e.phase) some in fits-push course es e n.0 f n.1 ends

  -- a story that is over, by any column that the phases fit
  module _ (none : next_after course es ≡ None) (column : ℕ → Phase → Outcome) (g : Fits course es column) where
    pub whole-attempts : attempts_after course es ≡ story course column
    unfolding attempts_after
    whole-attempts =
        let over = next-none none in
        story-end course es (outcome_in es) f over.0 over.1 ∙ sym (story-end course es column g over.0 over.1)

    pub whole-phases : es ≡ phases_of (story course column)
    whole-phases =
        let over = next-none none in
        sym (story-split course es column g ∙ ap (λ t. es ++ play t (masked course column)) over.1 ∙ append-nil es)

    pub whole-good : is_good_after course es ≡ is_good (newest_attempt (story course column))
    unfolding is_good_after
    whole-good = λ j. is_none (none j) && is_good (newest_attempt (whole-attempts j))

    pub whole-value : value_after course es ≡ value_if_any (newest_attempt (story course column))
    unfolding value_after
    whole-value =
        (λ j. value_if_any (newest_attempt (attempts_within (length (whole-phases j)) (whole-attempts j))))
        ∙ ap (λ t. value_if_any (newest_attempt t)) (within-whole (story course column))

    pub whole-count : attempts_ended_after course es ≡ length (story course column)
    unfolding attempts_ended_after
    whole-count =
        (λ j. length (attempts_within (length (whole-phases j)) (whole-attempts j)))
        ∙ ap (λ t. length t) (within-whole (story course column))

pub fits-nil : (course : Course) (column : ℕ → Phase → Outcome) → Fits course [] column
fits-nil course column = record { plays = tt; told = tt }

-- before the first phase
pub nil-next : (course : Course) → is_none (next_after course []) ≡ false
nil-next course =
    let a = asks course [] 0 course.retries in
    ap is_none (next-first course [] (fits-nil course (outcome_in [])) ∙ ap (λ t. first_phase (play t (masked course (outcome_in [])))) a.3)

pub nil-good : (course : Course) → is_good_after course [] ≡ false
unfolding is_good_after
nil-good course = λ j. nil-next course j && is_good (newest_attempt (attempts_after course []))

pub nil-value : (course : Course) → value_after course [] ≡ None
unfolding value_after attempts_after story
nil-value course = ap (λ t. value_if_any (newest_attempt t)) (within-none course (masked course (outcome_in [])) 0 course.retries)

pub nil-count : (course : Course) → attempts_ended_after course [] ≡ 0
unfolding attempts_ended_after attempts_after story
nil-count course = ap (λ t. length t) (within-none course (masked course (outcome_in [])) 0 course.retries)

-- every history fits
pub history-fits : (course : Course) (before es : List Ended) → Fits course before (outcome_in before) → may_go_on course before es ≡ true
    → Fits course (before ++ es) (outcome_in (before ++ es))
history-fits course before [] f h = subst (λ t. Fits course t (outcome_in t)) (sym (append-nil before)) f
history-fits course before (e ∷ es) f h =
    subst (λ t. Fits course t (outcome_in t)) (append_assoc before (e ∷ []) es)
    (history-fits course (before ++ e ∷ []) es (fits-next course before f e (go (next_after course before) refl) q.1) p.1)
  where
    p : ((is_that_phase (next_after course before) e && may_end_with course e.phase e.outcome) ≡ true) × (may_go_on course (before ++ e ∷ []) es ≡ true)
    p = and_parts _ _ h

    q : (is_that_phase (next_after course before) e ≡ true) × (may_end_with course e.phase e.outcome ≡ true)
    q = and_parts _ _ p.0

    go : (o : Option (ℕ × Phase)) → next_after course before ≡ o → next_after course before ≡ Some (e.attempt, e.phase)
    go None n = absurd (false≢true (ap (λ o. is_that_phase o e) (sym n) ∙ q.0))
    go (Some next) n =
        let t = and_parts (e.attempt == next.0) (phase_number e.phase == phase_number next.1) (ap (λ o. is_that_phase o e) (sym n) ∙ q.0) in
        let i = eqb-true e.attempt next.0 t.0 in
        let ph = phase-eq e.phase next.1 (eqb-true (phase_number e.phase) (phase_number next.1) t.1) in
        n ∙ (λ j. Some (sym i j, sym ph j))

pub history-begins : (course : Course) (es : List Ended) → is_history course es ≡ true → BeginsWith (phases_of (attempts_after course es)) es
unfolding attempts_after
history-begins course es h = (_, story-split course es (outcome_in es) (history-fits course [] es (fits-nil course (outcome_in [])) h))
