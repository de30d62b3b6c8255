use Rattle.std.proofs.Common.{◌≡◌, ◌∙◌, true, refl, sym}
use Rattle.std.proofs.lemmas.Bool.{true≢false}
use Rattle.run_plan.specs.Plan.{node_at}
use Rattle.run_plan_node.specs.Commands.{phase_command, uses_whole_run}
use Rattle.std.specs.Fmt.{digits}
use Rattle.vars_macros.specs.Script.{script_word, is_whole_run, is_exactly}
use Rattle.sched_core.specs.Example.{told_failed}
use Rattle.node_machine.specs.Story.{story, attempts_after, next_after, is_good_after, value_after}
use Rattle.sched_core.specs.Run.{is_aborted, is_ready, is_final_ready, may_launch, may_follow}
use Rattle.sched_core.proofs.examples.refusals.Goals as goal

pub returns-clause-child_first : goal.returns-clause-child_first
unfolding story attempts_after next_after is_good_after value_after is_aborted is_ready is_final_ready may_launch may_follow
returns-clause-child_first c = refl

pub returns-clause-launched_twice : goal.returns-clause-launched_twice
unfolding story attempts_after next_after is_good_after value_after is_aborted is_ready is_final_ready may_launch may_follow
returns-clause-launched_twice c = refl

pub returns-clause-not_running : goal.returns-clause-not_running
unfolding story attempts_after next_after is_good_after value_after is_aborted is_ready is_final_ready may_launch may_follow
returns-clause-not_running c = refl

pub returns-clause-too_early : goal.returns-clause-too_early
unfolding story attempts_after next_after is_good_after value_after is_aborted is_ready is_final_ready may_launch may_follow
returns-clause-too_early c = refl

pub returns-clause-no_retry : goal.returns-clause-no_retry
unfolding story attempts_after next_after is_good_after value_after is_aborted is_ready is_final_ready may_launch may_follow
returns-clause-no_retry c = refl

pub returns-clause-failed : goal.returns-clause-failed
unfolding story attempts_after next_after is_good_after value_after is_aborted is_ready is_final_ready may_launch may_follow
returns-clause-failed c = refl

pub returns-clause-after_abort : goal.returns-clause-after_abort
unfolding story attempts_after next_after is_good_after value_after is_aborted is_ready is_final_ready may_launch may_follow
returns-clause-after_abort c = refl

pub returns-clause-no_signal : goal.returns-clause-no_signal
unfolding story attempts_after next_after is_good_after value_after is_aborted is_ready is_final_ready may_launch may_follow
returns-clause-no_signal c = refl

told-whole : uses_whole_run (node_at told_failed 0) ≡ true
unfolding uses_whole_run is_whole_run is_exactly
told-whole = refl

pub returns-clause-same_at_0 : goal.returns-clause-same_at_0
unfolding phase_command script_word is_exactly digits
returns-clause-same_at_0 c = refl

pub returns-clause-whole_run : goal.returns-clause-whole_run
returns-clause-whole_run c same = true≢false (sym told-whole ∙ same.plain)
