use Rattle.std.proofs.Common.{◌≡◌, ℕ, zero, suc, ◌<◌, arith, refl, true, false}
use Rattle.std.proofs.lemmas.Bool.{true≢false}
use Rattle.sched_core.specs.Example.{one_job, round_of, stopped_plan, stopped_round}
use Rattle.run_plan.specs.Plan.{node_at}
use Rattle.sched_core.specs.Rounds.{is_marked}
use Rattle.node_machine.specs.declared.Outcome.TheVariants.{Exit}
use Rattle.node_machine.specs.Story.{story, attempts_after, next_after, is_good_after, value_after}
use Rattle.sched_core.specs.Run.{is_aborted, is_ready, is_final_ready, may_launch, may_follow}
use Rattle.std.specs.Fmt.{digits}
use Rattle.vars_macros.specs.Script.{script_word, is_exactly}
use Rattle.run_plan_node.specs.Commands.{phase_command, is_expandable, uses_whole_run}
use Rattle.sched_core.proofs.Namesakes.{b-agrees, told-agrees}
use Rattle.sched_core.proofs.examples.examples.Goals as goal

pub returns-clause-lost_launch : goal.returns-clause-lost_launch
unfolding story attempts_after next_after is_good_after value_after is_aborted is_ready is_final_ready may_launch may_follow
returns-clause-lost_launch c = refl

pub returns-clause-lost_launch_calm : goal.returns-clause-lost_launch_calm
unfolding story attempts_after next_after is_good_after value_after is_aborted is_ready is_final_ready may_launch may_follow
returns-clause-lost_launch_calm c = refl

pub returns-clause-diamond : goal.returns-clause-diamond
unfolding story attempts_after next_after is_good_after value_after is_aborted is_ready is_final_ready may_launch may_follow
returns-clause-diamond c = refl

pub returns-clause-diamond_states : goal.returns-clause-diamond_states
unfolding story attempts_after next_after is_good_after value_after is_aborted is_ready is_final_ready may_launch may_follow
returns-clause-diamond_states c = refl

pub returns-clause-abort : goal.returns-clause-abort
unfolding story attempts_after next_after is_good_after value_after is_aborted is_ready is_final_ready may_launch may_follow
returns-clause-abort c = refl

pub returns-clause-abort_aborted : goal.returns-clause-abort_aborted
unfolding story attempts_after next_after is_good_after value_after is_aborted is_ready is_final_ready may_launch may_follow
returns-clause-abort_aborted c = refl

pub returns-clause-abort_states : goal.returns-clause-abort_states
unfolding story attempts_after next_after is_good_after value_after is_aborted is_ready is_final_ready may_launch may_follow
returns-clause-abort_states c = refl

pub returns-clause-always : goal.returns-clause-always
unfolding story attempts_after next_after is_good_after value_after is_aborted is_ready is_final_ready may_launch may_follow
returns-clause-always c = refl

pub returns-clause-always_values : goal.returns-clause-always_values
unfolding story attempts_after next_after is_good_after value_after is_aborted is_ready is_final_ready may_launch may_follow
returns-clause-always_values c = refl

pub returns-clause-always_facts : goal.returns-clause-always_facts
unfolding story attempts_after next_after is_good_after value_after is_aborted is_ready is_final_ready may_launch may_follow
returns-clause-always_facts c = refl

pub returns-clause-noop : goal.returns-clause-noop
unfolding story attempts_after next_after is_good_after value_after is_aborted is_ready is_final_ready may_launch may_follow
returns-clause-noop c = refl

pub returns-clause-noop_values : goal.returns-clause-noop_values
unfolding story attempts_after next_after is_good_after value_after is_aborted is_ready is_final_ready may_launch may_follow
returns-clause-noop_values c = refl

pub returns-clause-noop_outcomes : goal.returns-clause-noop_outcomes
unfolding story attempts_after next_after is_good_after value_after is_aborted is_ready is_final_ready may_launch may_follow
returns-clause-noop_outcomes c = record { finished = refl; abort_free = refl; outcomes = (λ h. refl, (λ h. refl, (λ h. absurd (true≢false h), (λ h. refl, tt)))) }

pub returns-clause-namesakes : goal.returns-clause-namesakes
returns-clause-namesakes c = b-agrees

only_node : (number : ℕ) → number < 1 → (node_at one_job number).done ≡ is_marked (round_of (Exit 1) 1) number
unfolding story attempts_after next_after is_good_after value_after is_aborted is_ready is_final_ready may_launch may_follow
only_node zero lt = refl
only_node (suc number) lt = absurd (omega arith)

pub returns-clause-two_rounds : goal.returns-clause-two_rounds
unfolding story attempts_after next_after is_good_after value_after is_aborted is_ready is_final_ready may_launch may_follow
returns-clause-two_rounds c = (
  record { finished = refl; outcomes = (λ h. refl, tt) },
  record { count = refl; names = λ n. refl; courses = λ n. refl; parents = λ n. refl; done = only_node },
  refl,
  record { finished = refl; outcomes = (λ h. refl, tt) },
)

pub returns-clause-two_calm : goal.returns-clause-two_calm
unfolding story attempts_after next_after is_good_after value_after is_aborted is_ready is_final_ready may_launch may_follow
returns-clause-two_calm c = (refl, (refl, tt))

same_name : (node : ℕ) → (node_at (stopped_plan true) node).name ≡ (node_at (stopped_plan false) node).name
same_name zero = refl
same_name (suc zero) = refl
same_name (suc (suc n)) = refl

same_course : (node : ℕ) → (node_at (stopped_plan true) node).course ≡ (node_at (stopped_plan false) node).course
same_course zero = refl
same_course (suc zero) = refl
same_course (suc (suc n)) = refl

same_parents : (node : ℕ) → (node_at (stopped_plan true) node).parents ≡ (node_at (stopped_plan false) node).parents
same_parents zero = refl
same_parents (suc zero) = refl
same_parents (suc (suc n)) = refl

two_nodes_marked : (node : ℕ) → node < 2 → (node_at (stopped_plan true) node).done ≡ is_marked stopped_round node
unfolding story attempts_after next_after is_good_after value_after is_aborted is_ready is_final_ready may_launch may_follow
two_nodes_marked zero lt = refl
two_nodes_marked (suc zero) lt = refl
two_nodes_marked (suc (suc n)) lt = absurd (omega arith)

pub returns-clause-stopped_round : goal.returns-clause-stopped_round
unfolding story attempts_after next_after is_good_after value_after is_aborted is_ready is_final_ready may_launch may_follow
returns-clause-stopped_round c = (
  record { finished = refl; outcomes = (λ h. refl, tt) },
  record { count = refl; names = same_name; courses = same_course; parents = same_parents; done = two_nodes_marked },
  refl,
  record { finished = refl; outcomes = (λ h. refl, (λ h. refl, tt)) },
)

pub returns-clause-stopped_mark : goal.returns-clause-stopped_mark
unfolding story attempts_after next_after is_good_after value_after is_aborted is_ready is_final_ready may_launch may_follow
returns-clause-stopped_mark c = (refl, refl)

pub returns-clause-noop_sound : goal.returns-clause-noop_sound
unfolding is_expandable
returns-clause-noop_sound c = refl

pub returns-clause-noop_plain : goal.returns-clause-noop_plain
unfolding uses_whole_run
returns-clause-noop_plain c = refl

pub returns-clause-one_life : goal.returns-clause-one_life
unfolding story attempts_after next_after is_good_after value_after is_aborted is_ready is_final_ready may_launch may_follow
returns-clause-one_life c = refl

pub returns-clause-told : goal.returns-clause-told
unfolding story attempts_after next_after is_good_after value_after is_aborted is_ready is_final_ready may_launch may_follow
returns-clause-told c = refl

pub returns-clause-told_command : goal.returns-clause-told_command
unfolding phase_command script_word is_exactly digits
returns-clause-told_command c = refl

pub returns-clause-told_agree : goal.returns-clause-told_agree
returns-clause-told_agree c = told-agrees
