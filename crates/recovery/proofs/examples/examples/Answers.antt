use Rattle.std.proofs.Common.{[], refl, inr, take, drop}
use Rattle.node_machine.specs.Story.{story, attempts_after, next_after, is_good_after, value_after}
use Rattle.sched_core.specs.Example.{its_run}
use Rattle.sched_core.specs.Run.{is_aborted, is_ready, is_final_ready, may_launch, may_follow}
use Rattle.recovery.proofs.examples.examples.Goals as goal

pub returns : goal.returns
unfolding story attempts_after next_after is_good_after value_after is_aborted is_ready is_final_ready may_launch may_follow
returns c = record { two_lives = (([], refl), inr (take 7 its_run, refl), refl, (refl, inr (take 3 (drop 8 its_run), refl), refl, tt)) }
