-- Runs of a plan: lists of records, the newest first.
use Rattle.std.specs.Prelude.{ℕ, zero, suc, ◌+◌, ℤ, pos, Bool, true, false, not, ◌&&◌, ◌||◌, List, [], ◌∷◌, ◌++◌, reverse, Option, Some, None, is_none, is_some, nat_lt, nat_le, ◌==◌, if◌then◌else◌}
use Rattle.std.specs.List.{list_all}
use Rattle.node_machine.specs.declared.Phase.{Phase}
use Rattle.node_machine.specs.declared.Key.{Key}
use Rattle.node_machine.specs.declared.Ended.{Ended}
use Rattle.node_machine.specs.Story.{Table, is_set_to, phase_number, outcome_in, next_after, is_good_after, value_after, attempts_ended_after, is_possible, may_end_with}
use Rattle.node_machine.specs.declared.Record.{Record}
use Rattle.node_machine.specs.declared.Record.TheVariants.{Life, Launch, End, Finish}
use Rattle.run_plan.specs.Plan.{Plan, node_at, count_of, all_below}

-- A run's records as a journal writes them and a core lends them: the oldest first. What is written so, turned once more,
-- is the run's again (law `writing`).
abbrev pub chronological : List Record → List Record
chronological past = reverse past

-- a node's phases that ended, the oldest first
abbrev pub history : List Record → ℕ → List Ended
history [] node = []
history (End key outcome ∷ past) node =
    if key.node == node
    then history past node ++ record { attempt = key.attempt; phase = key.phase; outcome = outcome } ∷ []
    else history past node
history (_ ∷ past) node = history past node

-- the outcome of each node, attempt and phase that ended; Exit 0 where none did (in a lawful list no
-- phase ends twice)
abbrev pub table_of : List Record → Table
table_of records node = outcome_in (history records node)

abbrev pub key_at : ℕ → Option (ℕ × Phase) → Option Key
key_at node None = None
key_at node (Some next) = Some (record { node = node; attempt = next.0; phase = next.1 })

-- a node's next phase
abbrev pub next : Plan → List Record → ℕ → Option Key
next plan past node =
    if (node_at plan node).done then None
    else key_at node (next_after (node_at plan node).course (history past node))

-- a node is done from the start, or after a good last attempt
abbrev pub is_done : Plan → List Record → ℕ → Bool
is_done plan past node = (node_at plan node).done || is_good_after (node_at plan node).course (history past node)

-- the value of a node's last attempt that ended
abbrev pub value_in : Plan → List Record → ℕ → Option ℤ
value_in plan past node = value_after (node_at plan node).course (history past node)

-- how many attempts of a node ended
abbrev pub attempts_in : Plan → List Record → ℕ → ℕ
attempts_in plan past node = attempts_ended_after (node_at plan node).course (history past node)

-- a node is in error: it is not done, and no phase of it follows
abbrev pub is_in_error : Plan → List Record → ℕ → Bool
is_in_error plan past node = not (is_done plan past node) && is_none (next plan past node)

-- a setting that is there and has this value
abbrev pub setting_is_met : Option ℤ → Option ℤ → Bool
setting_is_met setting None = false
setting_is_met setting (Some value) = is_set_to setting value

-- the last attempt of a node that ended has its abort value; none follows it
abbrev pub has_abort_value : Plan → List Record → ℕ → Bool
has_abort_value plan past node = setting_is_met (node_at plan node).course.abort_on (value_in plan past node)

-- an ordinary node's abort value ended the run
unfoldable pub is_aborted : Plan → List Record → Bool
is_aborted plan past = not (all_below (λ node. not (has_abort_value plan past node)) (count_of plan))

abbrev pub is_same : Key → Key → Bool
is_same key other =
    (key.node == other.node) && (key.attempt == other.attempt)
    && (phase_number key.phase == phase_number other.phase)

abbrev pub is_among : Key → List Key → Bool
is_among key [] = false
is_among key (other ∷ keys) = is_same key other || is_among key keys

abbrev pub without : Key → List Key → List Key
without key [] = []
without key (other ∷ keys) = if is_same key other then without key keys else other ∷ without key keys

-- the phases that were launched after the last Life and after the aborting End, if any, and have not
-- ended, the newest first
abbrev pub outstanding : Plan → List Record → List Key
outstanding plan [] = []
outstanding plan (Life ∷ past) = []
outstanding plan (Launch key number ∷ past) = key ∷ outstanding plan past
outstanding plan (End key outcome ∷ past) =
    if is_aborted plan (End key outcome ∷ past) && not (is_aborted plan past) then []
    else without key (outstanding plan past)
outstanding plan (Finish status ∷ past) = outstanding plan past

-- a key that is there and not outstanding
abbrev pub is_free : Plan → List Record → Option Key → Bool
is_free plan past None = false
is_free plan past (Some key) = not (is_among key (outstanding plan past))

-- an ordinary node's next phase may be launched
unfoldable pub is_ready : Plan → List Record → ℕ → Bool
is_ready plan past node =
    not (is_aborted plan past) && list_all (is_done plan past) (node_at plan node).parents
    && is_free plan past (next plan past node)

-- the FINAL node's next phase may be launched: it is its turn
unfoldable pub is_final_ready : Plan → List Record → Bool
is_final_ready plan past =
    is_some plan.final_node
    && is_free plan past (next plan past (count_of plan))
    && list_all (λ key. nat_le (count_of plan) key.node) (outstanding plan past)
    && (is_aborted plan past || all_below (λ node. not (is_ready plan past node)) (count_of plan))

unfoldable pub may_launch : Plan → List Record → ℕ → Bool
may_launch plan past node =
    if nat_lt node (count_of plan) then is_ready plan past node
    else (node == count_of plan) && is_final_ready plan past

-- the number of a launch: the launches of jobs count from 1
abbrev pub job_launches : List Record → ℕ
job_launches [] = 0
job_launches (Launch key number ∷ past) = (if phase_number key.phase == 1 then 1 else 0) + job_launches past
job_launches (_ ∷ past) = job_launches past

abbrev pub launch_number : List Record → Key → ℕ
launch_number past key = if phase_number key.phase == 1 then suc (job_launches past) else 0

-- the exit status of an abort: its RETURN, else its value where that is a status
abbrev pub abort_status : Option ℕ → Option ℤ → ℕ
abort_status (Some status) value = status
abort_status None (Some (pos value)) = if nat_lt value 256 then value else 1
abort_status None _ = 1

-- that of the node below n that aborted
abbrev pub status_of_abort : Plan → List Record → ℕ → ℕ
status_of_abort plan past zero = 1
status_of_abort plan past (suc node) =
    if has_abort_value plan past node
    then abort_status (node_at plan node).abort_return (node_at plan node).course.abort_on
    else status_of_abort plan past node

-- the exit status of a run that ends here
abbrev pub exit_status : Plan → List Record → ℕ
exit_status plan past =
    if is_some plan.final_node then (if is_done plan past (count_of plan) then 0 else 1)
    else if is_aborted plan past then status_of_abort plan past (count_of plan)
    else if all_below (is_done plan past) (count_of plan) then 0 else 1

-- Finish is the newest record
abbrev pub is_over : List Record → Bool
is_over (Finish status ∷ past) = true
is_over _ = false

-- a run that has begun and is not over
abbrev pub is_open : List Record → Bool
is_open [] = false
is_open (newest ∷ past) = not (is_over (newest ∷ past))

abbrev pub is_next : Option Key → Key → Bool
is_next None key = false
is_next (Some other) key = is_same other key

abbrev pub is_nothing : List Key → Bool
is_nothing [] = true
is_nothing (key ∷ keys) = false

-- A record may follow: Life anywhere before Finish; a launch of a phase that may be launched, with its
-- number; an End of what is outstanding, with an outcome that there is, and Exit 0 for the job of a NOOP;
-- Finish where nothing is outstanding and nothing may be launched, with the verdict.
unfoldable pub may_follow : Plan → List Record → Record → Bool
may_follow plan past Life = not (is_over past)
may_follow plan past (Launch key number) =
    is_open past && may_launch plan past key.node && is_next (next plan past key.node) key
    && (number == launch_number past key)
may_follow plan past (End key outcome) =
    is_open past && is_among key (outstanding plan past)
    && (is_possible outcome && may_end_with (node_at plan key.node).course key.phase outcome)
may_follow plan past (Finish status) =
    is_open past && is_nothing (outstanding plan past)
    && all_below (λ node. not (may_launch plan past node)) (suc (count_of plan))
    && (status == exit_status plan past)

-- each record may follow those before it
abbrev pub is_lawful : Plan → List Record → Bool
is_lawful plan [] = true
is_lawful plan (newest ∷ past) = is_lawful plan past && may_follow plan past newest

-- lawful, and Finish is the newest record
abbrev pub is_finished : Plan → List Record → Bool
is_finished plan past = is_over past && is_lawful plan past

-- a phase of the node was launched
abbrev pub is_launched : List Record → ℕ → Bool
is_launched [] node = false
is_launched (Launch key number ∷ past) node = (key.node == node) || is_launched past node
is_launched (_ ∷ past) node = is_launched past node

-- a rescue file is written: the run was aborted, an ordinary node isn't done, or the FINAL node is in error
abbrev pub needs_rescue : Plan → List Record → Bool
needs_rescue plan records =
    is_aborted plan records || not (all_below (is_done plan records) (count_of plan))
    || (is_some plan.final_node && is_in_error plan records (count_of plan))
