-- What comes next is a phase that the node has; so what starts no child is the job of a NOOP.
use Rattle.std.proofs.Common.{◌≡◌, ℕ, zero, suc, pos, Bool, true, false, not, ◌&&◌, List, [], ◌∷◌, ◌++◌, Some, refl, sym, ap, ◌∙◌, subst, if◌then◌else◌}
use Rattle.std.specs.List.{list_all}
use Rattle.std.proofs.lemmas.Bool.{and_parts, and_from, false≢true}
use Rattle.node_machine.specs.declared.Key.{Key}
use Rattle.node_machine.specs.declared.Phase.{Phase}
use Rattle.node_machine.specs.declared.Phase.TheVariants.{Pre, Job, Post}
use Rattle.node_machine.specs.declared.Outcome.{Outcome}
use Rattle.node_machine.specs.declared.Ended.{Ended}
use Rattle.node_machine.specs.declared.Course.{Course}
use Rattle.node_machine.specs.Story.{ended, decided_by, with_job, always_posts, with_failed_pre, with_pre, attempt, attempts_from, is_final_attempt, skips, is_exit_0, is_noop_job, value_of, ends_with, phases_of, story, attempts_after, outcome_in, has_ended, first_to_come, next_after}
use Rattle.run_plan_node.specs.Node.{NodeSpec}
use Rattle.run_plan.specs.Plan.{Plan, node_at}
use Rattle.run_plan_node.specs.Commands.{starts_child}
use Rattle.node_machine.specs.declared.Record.{Record}
use Rattle.sched_core.specs.Run.{next, history}
use Rattle.sched_core.proofs.Sound.{next-parts}

-- a course has this phase
abbrev has : Course → Phase → Bool
has course Pre = course.pre
has course Job = true
has course Post = course.post

module _ (course : Course) where
  abbrev All : List Ended → Type 0
  All es = list_all (λ (e : Ended). has course e.phase) es ≡ true

  all_then : (es later : List Ended) → All es → All later → All (es ++ later)
  all_then [] later first second = second
  all_then (e ∷ es) later first second = let p = and_parts _ _ first in and_from _ _ p.0 (all_then es later p.1 second)

  job-has : (i : ℕ) (outcomes : Phase → Outcome) (before : List Ended) → All before → All ((with_job course i outcomes before).ended)
  job-has i outcomes before first = go course.post refl
    where
      go : (b : Bool) → course.post ≡ b
          → All ((if b then decided_by (outcomes Post) (before ++ ended i outcomes Job ∷ ended i outcomes Post ∷ []) else decided_by (outcomes Job) (before ++ ended i outcomes Job ∷ [])).ended)
      go true is = all_then before (ended i outcomes Job ∷ ended i outcomes Post ∷ []) first (λ j. is j && true)
      go false is = all_then before (ended i outcomes Job ∷ []) first refl

  attempt-has : (i : ℕ) (outcomes : Phase → Outcome) → All ((attempt course i outcomes).ended)
  attempt-has i outcomes = go course.pre refl
    where
      pre : List Ended
      pre = ended i outcomes Pre ∷ []

      failed : All pre → All ((with_failed_pre course i outcomes).ended)
      failed first = post (always_posts course) refl
        where
          post : (b : Bool) → always_posts course ≡ b
              → All ((if b then decided_by (outcomes Post) (ended i outcomes Pre ∷ ended i outcomes Post ∷ []) else record { ended = pre; value = value_of (outcomes Pre); good = false }).ended)
          post true is = all_then pre (ended i outcomes Post ∷ []) first (and_from _ _ (and_parts course.always_post course.post is).1 refl)
          post false is = first

      two : (skipped good : Bool) → All pre
          → All ((if skipped then record { ended = pre; value = pos 0; good = true } else if good then with_job course i outcomes pre else with_failed_pre course i outcomes).ended)
      two true good first = first
      two false true first = job-has i outcomes pre first
      two false false first = failed first

      go : (b : Bool) → course.pre ≡ b → All ((if b then with_pre course i outcomes else with_job course i outcomes []).ended)
      go true is = two (skips course (outcomes Pre)) (is_exit_0 (outcomes Pre)) (λ j. is j && true)
      go false is = job-has i outcomes [] refl

  attempts-have : (outcomes : ℕ → Phase → Outcome) (i left : ℕ) → All (phases_of (attempts_from course outcomes i left))
  attempts-have outcomes i zero = all_then (attempt course i (outcomes i)).ended [] (attempt-has i (outcomes i)) refl
  attempts-have outcomes i (suc left) = go (is_final_attempt course (attempt course i (outcomes i))) (attempts-have outcomes (suc i) left)
    where
      go : (b : Bool) → All (phases_of (attempts_from course outcomes (suc i) left)) → All (phases_of (if b then attempt course i (outcomes i) ∷ [] else attempt course i (outcomes i) ∷ attempts_from course outcomes (suc i) left))
      go true rest = all_then (attempt course i (outcomes i)).ended [] (attempt-has i (outcomes i)) refl
      go false rest =
          all_then (attempt course i (outcomes i)).ended (phases_of (attempts_from course outcomes (suc i) left)) (attempt-has i (outcomes i)) rest

  first-has : (es later : List Ended) (next : ℕ × Phase) → All later → first_to_come es later ≡ Some next → has course next.1 ≡ true
  first-has es [] next all is = absurd cc
  first-has es (e ∷ later) next all is = go (has_ended es e.attempt e.phase) is (first-has es later next (and_parts _ _ all).1)
    where
      go : (b : Bool) → (if b then first_to_come es later else Some (e.attempt, e.phase)) ≡ Some next
          → (first_to_come es later ≡ Some next → has course next.1 ≡ true) → has course next.1 ≡ true
      go true rest later_has = later_has rest
      go false here later_has = let same : (e.attempt, e.phase) ≡ next = cc in subst (λ (n : ℕ × Phase). has course n.1 ≡ true) same (and_parts _ _ all).0

  next-has : (es : List Ended) (next : ℕ × Phase) → next_after course es ≡ Some next → has course next.1 ≡ true
  unfolding next_after attempts_after story
  next-has es next is = first-has es (phases_of (attempts_after course es)) next (attempts-have (λ i phase. ends_with course phase (outcome_in es i phase)) 0 course.retries) is

-- a phase that comes next and starts no child is the job of a NOOP
pub quiet-noop : (plan : Plan) (past : List Record) (key : Key) → next plan past key.node ≡ Some key
    → starts_child (node_at plan key.node) key.phase ≡ false → is_noop_job (node_at plan key.node).course key.phase ≡ true
quiet-noop plan past key is_next quiet = go key.phase (next-has (node_at plan key.node).course (history past key.node) (key.attempt, key.phase) (next-parts plan past key.node key is_next).1) quiet
  where
    noop : (b : Bool) → not b ≡ false → (b && true) ≡ true
    noop true is = refl
    noop false is = absurd (false≢true (sym is))

    go : (phase : Phase) → has (node_at plan key.node).course phase ≡ true → starts_child (node_at plan key.node) phase ≡ false
        → is_noop_job (node_at plan key.node).course phase ≡ true
    go Pre there none = absurd (false≢true (sym none ∙ there))
    go Job there none = noop (node_at plan key.node).course.noop none
    go Post there none = absurd (false≢true (sym none ∙ there))

-- the job of a NOOP starts no child
pub noop-quiet : (node : NodeSpec) (phase : Phase) → is_noop_job node.course phase ≡ true → starts_child node phase ≡ false
noop-quiet node Pre is = absurd (false≢true (and_parts _ _ is).1)
noop-quiet node Job is = ap not (and_parts _ _ is).0
noop-quiet node Post is = absurd (false≢true (and_parts _ _ is).1)
