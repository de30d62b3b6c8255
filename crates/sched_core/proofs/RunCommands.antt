-- The commands of a run are those that are read from the table.
use Rattle.std.proofs.Common.{◌≡◌, ℕ, zero, suc, ◌+◌, ◌≤◌, pos, negsuc, Bool, true, false, not, ◌&&◌, List, [], ◌∷◌, ◌++◌, refl, ap, ◌∙◌, arith, if◌then◌else◌}
use Rattle.std.specs.List.{list_all}
use Rattle.std.proofs.lemmas.Bool.{and_parts}
use Rattle.node_machine.specs.declared.Phase.{Phase}
use Rattle.node_machine.specs.declared.Phase.TheVariants.{Pre, Job, Post}
use Rattle.node_machine.specs.declared.Ended.{Ended}
use Rattle.node_machine.specs.declared.Course.{Course}
use Rattle.node_machine.specs.declared.Outcome.{Outcome}
use Rattle.node_machine.specs.declared.Key.{Key}
use Rattle.node_machine.specs.Story.{Table, value_of, ends_with, outcome_in, has_ended, ended, decided_by, with_job, with_failed_pre, with_pre, attempt, skips, is_exit_0, always_posts, is_final_attempt, attempts_from, story, phases_of}
use Rattle.node_machine.specs.declared.State.TheVariants.{Done, NotRun}
use Rattle.node_machine.proofs.Trees.{Told}
use Rattle.node_machine.proofs.Beginnings.{masked, next-some}
use Rattle.run_plan_node.specs.declared.command.PhaseFacts.{PhaseFacts}
use Rattle.run_plan_node.specs.Node.{NodeSpec}
use Rattle.run_plan.specs.Plan.{Plan, node_at}
use Rattle.run_plan_node.specs.Commands.{phase_command, starts_child, is_expandable, uses_whole_run, HaveSameEnds}
use Rattle.run_plan_node.proofs.PlainCommands.{plain_command_same}
use Rattle.node_machine.specs.declared.Record.{Record}
use Rattle.node_machine.specs.declared.Record.TheVariants.{Launch}
use Rattle.sched_core.specs.Run.{history, is_lawful, may_follow}
use Rattle.sched_core.specs.Fate.{Fate, is_done_state, without_attempts, fate_by_story, fate_by}
use Rattle.sched_core.specs.Lives.{HasOutcomesOf}
use Rattle.sched_core.specs.AttemptValues.{is_without_job, job_value_of, pre_value_of}
use Rattle.sched_core.specs.Commands.{plain_facts, command_by, facts_in}
use Rattle.sched_core.proofs.Held.{histories-are}
use Rattle.sched_core.proofs.LivesLemmas.{told-by, lawful-tail}
use Rattle.sched_core.proofs.Sound.{sound, launch-held, next-parts}
use Rattle.sched_core.proofs.Turns.{HasBefore, turn-order, told-outcome, pre-kept, turn-allowed}

-- what a node's outcomes say of an attempt; the job of a NOOP has the value 0
abbrev pub facts_by : Course → (ℕ → Phase → Outcome) → ℕ → PhaseFacts
facts_by course column attempt =
    plain_facts (job_value_of course (column attempt Pre) (ends_with course Job (column attempt Job)))
    (pre_value_of course (column attempt Pre))

-- the values of the job and of PRE after these phases, and those by the outcomes of a column
module _ (course : Course) (es : List Ended) (column : ℕ → Phase → Outcome) (told : Told (masked course column) es) (i : ℕ) where
  job-value : has_ended es i Job ≡ true → value_of (outcome_in es i Job) ≡ value_of (ends_with course Job (column i Job))
  job-value ended = ap value_of (told-outcome (masked course column) es i Job told ended)

  pre-value : (course.pre ≡ true → has_ended es i Pre ≡ true) → pre_value_of course (outcome_in es i Pre) ≡ pre_value_of course (column i Pre)
  pre-value ended = go course.pre refl
    where
      go : (b : Bool) → course.pre ≡ b
          → (if b then value_of (outcome_in es i Pre) else negsuc 0) ≡ (if b then value_of (column i Pre) else negsuc 0)
      go true has = ap value_of (told-outcome (masked course column) es i Pre told (ended has) ∙ pre-kept course column i)
      go false has = refl

  -- no job runs by these phases where none does by the column
  without-job : (course.pre ≡ true → has_ended es i Pre ≡ true) → is_without_job course (outcome_in es i Pre) ≡ is_without_job course (column i Pre)
  without-job ended = go course.pre refl
    where
      go : (b : Bool) → course.pre ≡ b → (b && not (is_exit_0 (outcome_in es i Pre))) ≡ (b && not (is_exit_0 (column i Pre)))
      go true has = ap (λ o. not (is_exit_0 o)) (told-outcome (masked course column) es i Pre told (ended has) ∙ pre-kept course column i)
      go false has = refl

  job-value-is : HasBefore course es i Post
      → job_value_of course (outcome_in es i Pre) (outcome_in es i Job) ≡ job_value_of course (column i Pre) (ends_with course Job (column i Job))
  job-value-is before =
      (λ j. if without-job before.1 j then negsuc 1003 else value_of (outcome_in es i Job))
      ∙ go (is_without_job course (column i Pre)) refl
    where
      go : (b : Bool) → is_without_job course (column i Pre) ≡ b
          → (if b then negsuc 1003 else value_of (outcome_in es i Job)) ≡ (if b then negsuc 1003 else value_of (ends_with course Job (column i Job)))
      go true is = refl
      go false is = job-value (before.0 (masked course column) told (ap (is_without_job course) (pre-kept course column i) ∙ is))

  same-ends : (phase : Phase) → HasBefore course es i phase → (facts : PhaseFacts)
      → facts.job_value ≡ job_value_of course (outcome_in es i Pre) (outcome_in es i Job) → facts.pre_value ≡ pre_value_of course (outcome_in es i Pre)
      → HaveSameEnds phase facts (facts_by course column i)
  same-ends Pre before facts job pre = tt
  same-ends Job before facts job pre = tt
  same-ends Post before facts job pre = (job ∙ job-value-is before, pre ∙ pre-value before.1)

-- At a launch the phases before it in its attempt have ended as the table says.
pub launch-ends : (plan : Plan) (table : Table) (newer past : List Record) (key : Key) (number : ℕ)
    → is_lawful plan (newer ++ Launch key number ∷ past) ≡ true → HasOutcomesOf plan table past
    → HaveSameEnds key.phase (facts_in plan (Launch key number ∷ past) key) (facts_by (node_at plan key.node).course (table key.node) key.attempt)
launch-ends plan table newer past key number h o =
    let lawful = lawful-tail plan newer (Launch key number ∷ past) h in
    let p = and_parts (is_lawful plan past) (may_follow plan past (Launch key number)) lawful in
    let fits = (sound plan past p.0).fits key.node in
    let course = (node_at plan key.node).course in
    let es = history past key.node in
    let n = (next-parts plan past key.node key (launch-held plan past key number p.1).is_next).1 in
    let a = next-some course es fits (key.attempt, key.phase) n in
    let before = turn-order course es key.attempt key.phase a.0 fits.plays a.1 in
    same-ends course es (table key.node) (told-by plan table past p.0 o key.node) key.attempt key.phase before
    (facts_in plan (Launch key number ∷ past) key) refl refl

-- and in an attempt that is allowed
pub launch-allowed : (plan : Plan) (newer past : List Record) (key : Key) (number : ℕ) → is_lawful plan (newer ++ Launch key number ∷ past) ≡ true
    → key.attempt ≤ (node_at plan key.node).course.retries
launch-allowed plan newer past key number h =
    let p = and_parts (is_lawful plan past) (may_follow plan past (Launch key number)) (lawful-tail plan newer (Launch key number ∷ past) h) in
    turn-allowed (node_at plan key.node).course (history past key.node) (histories-are plan past p.0 key.node) (key.attempt, key.phase)
    (next-parts plan past key.node key (launch-held plan past key number p.1).is_next).1

-- so it is started by the command of the table
pub launch-command : (plan : Plan) (table : Table) (newer past : List Record) (key : Key) (number : ℕ)
    → is_lawful plan (newer ++ Launch key number ∷ past) ≡ true → HasOutcomesOf plan table past
    → is_expandable (node_at plan key.node) ≡ true → uses_whole_run (node_at plan key.node) ≡ false
    → phase_command (node_at plan key.node) key.attempt key.phase (facts_in plan (Launch key number ∷ past) key)
    ≡ command_by plan table key.node key.attempt key.phase
launch-command plan table newer past key number h o sound_texts plain =
    plain_command_same (node_at plan key.node) key.attempt key.phase
    (facts_in plan (Launch key number ∷ past) key) (facts_by (node_at plan key.node).course (table key.node) key.attempt) sound_texts plain
    (launch-allowed plan newer past key number h) (launch-ends plan table newer past key number h o)

pub same-starts : (one other : NodeSpec) → one.course ≡ other.course → (phase : Phase) → starts_child one phase ≡ starts_child other phase
same-starts one other same Pre = ap (λ (c : Course). c.pre) same
same-starts one other same Job = ap (λ (c : Course). not c.noop) same
same-starts one other same Post = ap (λ (c : Course). c.post) same

-- a fact of each of these phases
abbrev pub EachOf : (Ended → Type 0) → List Ended → Type 0
EachOf P [] = Unit {0}
EachOf P (e ∷ es) = P e × EachOf P es

each-append : (P : Ended → Type 0) (es others : List Ended) → EachOf P es → EachOf P others → EachOf P (es ++ others)
each-append P [] others h k = k
each-append P (e ∷ es) others h k = (h.0, each-append P es others h.1 k)

-- the phases of an attempt are of its number
of-attempt : (P : Ended → Type 0) (course : Course) (i : ℕ) (outcomes : Phase → Outcome) → ((phase : Phase) → P (ended i outcomes phase)) → EachOf P (attempt course i outcomes).ended
of-attempt P course i outcomes own = pre course.pre
  where
    job : (before : List Ended) → EachOf P before → EachOf P (with_job course i outcomes before).ended
    job before h = go course.post
      where
        go : (b : Bool) → EachOf P (if b then decided_by (outcomes Post) (before ++ ended i outcomes Job ∷ ended i outcomes Post ∷ []) else decided_by (outcomes Job) (before ++ ended i outcomes Job ∷ [])).ended
        go true = each-append P before (ended i outcomes Job ∷ ended i outcomes Post ∷ []) h (own Job, (own Post, tt))
        go false = each-append P before (ended i outcomes Job ∷ []) h (own Job, tt)

    pre : (b : Bool) → EachOf P (if b then with_pre course i outcomes else with_job course i outcomes []).ended
    pre false = job [] tt
    pre true = go (skips course (outcomes Pre)) (is_exit_0 (outcomes Pre))
      where
        failed : (c : Bool) → EachOf P (if c then decided_by (outcomes Post) (ended i outcomes Pre ∷ ended i outcomes Post ∷ [])
            else record { ended = ended i outcomes Pre ∷ []; value = value_of (outcomes Pre); good = false }).ended
        failed true = (own Pre, (own Post, tt))
        failed false = (own Pre, tt)

        go : (a b : Bool) → EachOf P (if a then record { ended = ended i outcomes Pre ∷ []; value = pos 0; good = true }
            else if b then with_job course i outcomes (ended i outcomes Pre ∷ []) else with_failed_pre course i outcomes).ended
        go true b = (own Pre, tt)
        go false true = job (ended i outcomes Pre ∷ []) (own Pre, tt)
        go false false = failed (always_posts course)

-- no attempt passes the retries
from-allowed : (course : Course) (outcomes : ℕ → Phase → Outcome) (n i left : ℕ) → i + left ≤ n → EachOf (λ e. e.attempt ≤ n) (phases_of (attempts_from course outcomes i left))
from-allowed course outcomes n i zero fits =
    each-append (λ e. e.attempt ≤ n) (attempt course i (outcomes i)).ended [] (of-attempt (λ e. e.attempt ≤ n) course i (outcomes i) (λ phase. omega (arith, fits))) tt
from-allowed course outcomes n i (suc left) fits = go (is_final_attempt course (attempt course i (outcomes i))) (from-allowed course outcomes n (suc i) left (omega (arith, fits)))
  where
    own : EachOf (λ e. e.attempt ≤ n) (attempt course i (outcomes i)).ended
    own = of-attempt (λ e. e.attempt ≤ n) course i (outcomes i) (λ phase. omega (arith, fits))

    go : (b : Bool) → EachOf (λ e. e.attempt ≤ n) (phases_of (attempts_from course outcomes (suc i) left))
        → EachOf (λ e. e.attempt ≤ n) (phases_of (if b then attempt course i (outcomes i) ∷ [] else attempt course i (outcomes i) ∷ attempts_from course outcomes (suc i) left))
    go true rest = each-append (λ e. e.attempt ≤ n) (attempt course i (outcomes i)).ended [] own tt
    go false rest = each-append (λ e. e.attempt ≤ n) (attempt course i (outcomes i)).ended _ own rest

story-allowed : (course : Course) (outcomes : ℕ → Phase → Outcome) → EachOf (λ e. e.attempt ≤ course.retries) (phases_of (story course outcomes))
unfolding story
story-allowed course outcomes = from-allowed course (λ i phase. ends_with course phase (outcomes i phase)) course.retries 0 course.retries (omega arith)

pub fate-allowed : (plan : Plan) (table : Table) (fates : ℕ → Fate) (node : ℕ) → EachOf (λ e. e.attempt ≤ (node_at plan node).course.retries) (fate_by plan table fates node).history
fate-allowed plan table fates node = go (node_at plan node).done (list_all (λ parent. is_done_state (fates parent).state) (node_at plan node).parents)
  where
    go : (a b : Bool) → EachOf (λ e. e.attempt ≤ (node_at plan node).course.retries)
        (if a then without_attempts Done else if b then fate_by_story (story (node_at plan node).course (table node)) else without_attempts NotRun).history
    go true b = tt
    go false true = story-allowed (node_at plan node).course (table node)
    go false false = tt
