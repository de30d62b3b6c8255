-- What each node comes to, by a recursion over its parents.
use Rattle.std.specs.Prelude.{◌≡◌, ℕ, ◌<◌, ℤ, Bool, true, false, List, [], length, Option, None, is_none, if◌then◌else◌}
use Rattle.std.specs.List.{list_all}
use Rattle.node_machine.specs.declared.Ended.{Ended}
use Rattle.node_machine.specs.Story.{Table, Attempt, story, phases_of, newest_attempt, is_good, value_if_any}
use Rattle.node_machine.specs.declared.Record.{Record}
use Rattle.node_machine.specs.declared.State.{State}
use Rattle.node_machine.specs.declared.State.TheVariants.{Done, Error, NotRun}
use Rattle.run_plan.specs.Plan.{Plan, node_at, count_of}
use Rattle.sched_core.specs.Run.{history, next, is_done, attempts_in, value_in}

-- what a node comes to: its state, its phases that ended, how many attempts these are, and the
-- value of the last of them
pub record Fate : Type 0 where
  pub state : State
  pub history : List Ended
  pub attempts : ℕ
  pub value : Option ℤ

abbrev pub is_done_state : State → Bool
is_done_state Done = true
is_done_state _ = false

-- no attempts
abbrev pub without_attempts : State → Fate
without_attempts state = record { state = state; history = []; attempts = 0; value = None }

-- the fate of a node whose parents are all done: its story
abbrev pub fate_by_story : List Attempt → Fate
fate_by_story attempts =
    record {
      state = if is_good (newest_attempt attempts) then Done else Error;
      history = phases_of attempts;
      attempts = length attempts;
      value = value_if_any (newest_attempt attempts);
    }

-- the fate of a node by the fates of its parents
abbrev pub fate_by : Plan → Table → (ℕ → Fate) → ℕ → Fate
fate_by plan table fates node =
    if (node_at plan node).done then without_attempts Done
    else if list_all (λ parent. is_done_state (fates parent).state) (node_at plan node).parents
    then fate_by_story (story (node_at plan node).course (table node))
    else without_attempts NotRun

-- the fates of all ordinary nodes, by the outcomes of a table
abbrev pub AreFates : Plan → Table → (ℕ → Fate) → Type 0
AreFates plan table fates = (node : ℕ) → node < count_of plan → fates node ≡ fate_by plan table fates node

-- the fate of the FINAL node, whatever the others come to: its story
abbrev pub final_fate : Plan → Table → Fate
final_fate plan table =
    if (node_at plan (count_of plan)).done then without_attempts Done
    else fate_by_story (story (node_at plan (count_of plan)).course (table (count_of plan)))

-- what the records show of a node
abbrev pub shown : Plan → List Record → ℕ → Fate
shown plan past node =
    record {
      state =
          if is_done plan past node then Done
          else if is_none (next plan past node) then Error else NotRun;
      history = history past node;
      attempts = attempts_in plan past node;
      value = value_in plan past node;
    }
