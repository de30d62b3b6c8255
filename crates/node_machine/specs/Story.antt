-- A node's attempts, read from the outcomes of its phases.
use Rattle.std.specs.Prelude.{◌≡◌, ℕ, zero, suc, ◌-◌, ℤ, pos, negsuc, neg_ℤ, Bool, true, false, ◌&&◌, ◌||◌, List, [], ◌∷◌, ◌++◌, length, Option, Some, None, is_none, not, nat_le, ◌==◌, if◌then◌else◌}
use Rattle.std.specs.Ordering.{int_eq}
use Rattle.node_machine.specs.declared.Phase.{Phase}
use Rattle.node_machine.specs.declared.Phase.TheVariants.{Pre, Job, Post}
use Rattle.node_machine.specs.declared.Outcome.{Outcome}
use Rattle.node_machine.specs.declared.Outcome.TheVariants.{Exit, Signal, NoStart, Untold}
use Rattle.node_machine.specs.declared.Ended.{Ended}
use Rattle.node_machine.specs.declared.Course.{Course}
use Rattle.node_machine.specs.declared.State.{State}
use Rattle.node_machine.specs.declared.State.TheVariants.{Done, Error, NotRun}

-- the value of an outcome
abbrev pub value_of : Outcome → ℤ
value_of (Exit code) = pos code
value_of (Signal number) = neg_ℤ (pos number)
value_of NoStart = negsuc 1000
value_of Untold = negsuc 999

-- the outcomes that there are: exit codes from 0 to 255, and signals from 1 to 127
abbrev pub is_possible : Outcome → Bool
is_possible (Exit code) = nat_le code 255
is_possible (Signal number) = nat_le 1 number && nat_le number 127
is_possible NoStart = true
is_possible Untold = true

-- an attempt that ended: its phases in order, its value, and whether it is good
pub record Attempt : Type 0 where
  pub ended : List Ended
  pub value : ℤ
  pub good : Bool

-- the phases of an attempt in their order
abbrev pub phase_number : Phase → ℕ
phase_number Pre = 0
phase_number Job = 1
phase_number Post = 2

-- whether a setting is there and has this value
abbrev pub is_set_to : Option ℤ → ℤ → Bool
is_set_to None value = false
is_set_to (Some wanted) value = int_eq wanted value

-- an exit of PRE that skips the job and POST
abbrev pub skips : Course → Outcome → Bool
skips course (Exit code) = is_set_to course.pre_skip (pos code)
skips course _ = false

abbrev pub is_exit_0 : Outcome → Bool
is_exit_0 (Exit code) = code == 0
is_exit_0 _ = false

-- a phase of attempt i that ended with what its outcomes say
abbrev pub ended : ℕ → (Phase → Outcome) → Phase → Ended
ended i outcomes phase = record { attempt = i; phase = phase; outcome = outcomes phase }

-- an attempt whose last phase decides
abbrev pub decided_by : Outcome → List Ended → Attempt
decided_by last phases = record { ended = phases; value = value_of last; good = int_eq (value_of last) (pos 0) }

-- an attempt that reaches its job, after these phases: with POST its value alone counts
abbrev pub with_job : Course → ℕ → (Phase → Outcome) → List Ended → Attempt
with_job course i outcomes before =
    if course.post
    then decided_by (outcomes Post) (before ++ ended i outcomes Job ∷ ended i outcomes Post ∷ [])
    else decided_by (outcomes Job) (before ++ ended i outcomes Job ∷ [])

-- POST runs after a failed PRE, too: the flag is set, and POST is there
abbrev pub always_posts : Course → Bool
always_posts course = course.always_post && course.post

-- an attempt whose PRE failed: no job runs, and POST alone counts where it runs all the same
abbrev pub with_failed_pre : Course → ℕ → (Phase → Outcome) → Attempt
with_failed_pre course i outcomes =
    if always_posts course
    then decided_by (outcomes Post) (ended i outcomes Pre ∷ ended i outcomes Post ∷ [])
    else record { ended = ended i outcomes Pre ∷ []; value = value_of (outcomes Pre); good = false }

-- an attempt with PRE, which may skip the rest, fail, or go on
abbrev pub with_pre : Course → ℕ → (Phase → Outcome) → Attempt
with_pre course i outcomes =
    let pre = ended i outcomes Pre ∷ [] in
    if skips course (outcomes Pre) then record { ended = pre; value = pos 0; good = true }
    else if is_exit_0 (outcomes Pre) then with_job course i outcomes pre
    else with_failed_pre course i outcomes

-- attempt i
abbrev pub attempt : Course → ℕ → (Phase → Outcome) → Attempt
attempt course i outcomes =
    if course.pre then with_pre course i outcomes else with_job course i outcomes []

-- no attempt follows this one, whatever retries are left
abbrev pub is_final_attempt : Course → Attempt → Bool
is_final_attempt course a = a.good || is_set_to course.unless_exit a.value || is_set_to course.abort_on a.value

-- the attempts from number i on, of which `left` may follow the first
abbrev pub attempts_from : Course → (ℕ → Phase → Outcome) → ℕ → ℕ → List Attempt
attempts_from course outcomes i zero = attempt course i (outcomes i) ∷ []
attempts_from course outcomes i (suc left) =
    if is_final_attempt course (attempt course i (outcomes i))
    then attempt course i (outcomes i) ∷ []
    else attempt course i (outcomes i) ∷ attempts_from course outcomes (suc i) left

-- the job of a NOOP, for which no child is started
abbrev pub is_noop_job : Course → Phase → Bool
is_noop_job course phase = course.noop && (phase_number phase == 1)

-- what a phase ends with where the table has this outcome: the job of a NOOP always ends with Exit 0
abbrev pub ends_with : Course → Phase → Outcome → Outcome
ends_with course phase outcome = if is_noop_job course phase then Exit 0 else outcome

-- all attempts of a node, by the outcomes that the table has for each attempt and phase
unfoldable pub story : Course → (ℕ → Phase → Outcome) → List Attempt
story course outcomes =
    attempts_from course (λ i phase. ends_with course phase (outcomes i phase)) 0 course.retries

-- the phases of these attempts
abbrev pub phases_of : List Attempt → List Ended
phases_of [] = []
phases_of (a ∷ attempts) = a.ended ++ phases_of attempts

-- the last of these attempts, if there is one
abbrev pub newest_attempt : List Attempt → Option Attempt
newest_attempt [] = None
newest_attempt (a ∷ []) = Some a
newest_attempt (a ∷ b ∷ attempts) = newest_attempt (b ∷ attempts)

abbrev pub is_good : Option Attempt → Bool
is_good None = false
is_good (Some a) = a.good

abbrev pub value_if_any : Option Attempt → Option ℤ
value_if_any None = None
value_if_any (Some a) = Some a.value

-- those of the attempts whose phases are all among the first n
abbrev pub attempts_within : ℕ → List Attempt → List Attempt
attempts_within n [] = []
attempts_within n (a ∷ attempts) =
    if nat_le (length a.ended) n then a ∷ attempts_within (n - length a.ended) attempts else []

-- the outcome of each phase of each attempt of each node
abbrev pub Table : Type 0
Table = ℕ → ℕ → Phase → Outcome

-- whether this is attempt i's phase
abbrev pub is_phase : Ended → ℕ → Phase → Bool
is_phase e i phase = (e.attempt == i) && (phase_number e.phase == phase_number phase)

-- the outcome of a phase among those that ended; Exit 0 where it did not end
abbrev pub outcome_in : List Ended → ℕ → Phase → Outcome
outcome_in [] i phase = Exit 0
outcome_in (e ∷ es) i phase = if is_phase e i phase then e.outcome else outcome_in es i phase

-- a node's attempts after these phases, the oldest first, if all others end with Exit 0
unfoldable pub attempts_after : Course → List Ended → List Attempt
attempts_after course es = story course (outcome_in es)

-- whether this attempt's phase is among those that ended
abbrev pub has_ended : List Ended → ℕ → Phase → Bool
has_ended [] i phase = false
has_ended (e ∷ es) i phase = is_phase e i phase || has_ended es i phase

-- the attempt and the phase of the first of these that is not among those that ended
abbrev pub first_to_come : List Ended → List Ended → Option (ℕ × Phase)
first_to_come es [] = None
first_to_come es (e ∷ later) =
    if has_ended es e.attempt e.phase then first_to_come es later else Some (e.attempt, e.phase)

-- the next phase: the first of the story that has not ended
unfoldable pub next_after : Course → List Ended → Option (ℕ × Phase)
next_after course es = first_to_come es (phases_of (attempts_after course es))

-- the story has ended well: no phase follows, and the last attempt is good
unfoldable pub is_good_after : Course → List Ended → Bool
is_good_after course es = is_none (next_after course es) && is_good (newest_attempt (attempts_after course es))

-- the value of the last attempt that ended
unfoldable pub value_after : Course → List Ended → Option ℤ
value_after course es = value_if_any (newest_attempt (attempts_within (length es) (attempts_after course es)))

-- how many attempts ended
unfoldable pub attempts_ended_after : Course → List Ended → ℕ
attempts_ended_after course es = length (attempts_within (length es) (attempts_after course es))

-- what a node has come to: its story ended well, or ended otherwise, or phases are still to come
abbrev pub state_after : Course → List Ended → State
state_after course es =
    if is_good_after course es then Done else if is_none (next_after course es) then Error else NotRun

-- whether this phase may end so: the job of a NOOP ends with Exit 0
abbrev pub may_end_with : Course → Phase → Outcome → Bool
may_end_with course phase outcome = not (is_noop_job course phase) || is_exit_0 outcome

abbrev pub is_that_phase : Option (ℕ × Phase) → Ended → Bool
is_that_phase None e = false
is_that_phase (Some next) e = is_phase e next.0 next.1

-- these phases may end one after another, when those before have ended
abbrev pub may_go_on : Course → List Ended → List Ended → Bool
may_go_on course before [] = true
may_go_on course before (e ∷ es) =
    is_that_phase (next_after course before) e && may_end_with course e.phase e.outcome
    && may_go_on course (before ++ e ∷ []) es

-- the phases of a node that ended, each the next after those before
abbrev pub is_history : Course → List Ended → Bool
is_history course es = may_go_on course [] es

-- a list begins with these elements
abbrev pub BeginsWith : List Ended → List Ended → Type 0
BeginsWith whole front = (rest : List Ended) × (whole ≡ front ++ rest)
