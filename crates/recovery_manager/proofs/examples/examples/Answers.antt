use Rattle.std.proofs.Common.{[], ◌∷◌, refl, inl, inr, arith}
use Rattle.node_machine.specs.declared.Record.TheVariants.{Finish}
use Rattle.node_machine.specs.Story.{story, attempts_after, next_after, is_good_after, value_after}
use Rattle.sched_core.specs.Run.{is_aborted, is_ready, is_final_ready, may_launch, may_follow}
use Rattle.run_plan_node.specs.Commands.{phase_command, is_expandable, uses_whole_run}
use Rattle.event_journal_log.specs.Slot.{record_in, guess}
use Rattle.event_journal_log.specs.Groups.{groups_of, records_at}
use Rattle.event_journal_log.specs.Image.{replay_of}
use Rattle.recovery_manager.specs.Example.{its_header, launch_of_a, end_of_a, command_of_a}
use Rattle.recovery_manager.proofs.examples.examples.Goals as goal

pub returns-clause-on_bytes : goal.returns-clause-on_bytes
unfolding story attempts_after next_after is_good_after value_after is_aborted is_ready is_final_ready may_launch may_follow replay_of groups_of records_at record_in guess phase_command
returns-clause-on_bytes c = (
  record {
    reads = inr (its_header, refl, (refl, refl));
    goes_on = inr (Finish 0 ∷ [], refl);
    lawful = refl;
    spawns = ([], refl);
    leaves = record { added = []; few = omega arith; goes_on = inr (Finish 0 ∷ [], refl); lawful = refl; reads = inr (its_header, refl, (refl, refl)) };
  },
  refl,
  (
    record {
      reads = inr (its_header, refl, (refl, refl));
      goes_on = inr (launch_of_a 2 ∷ [], refl);
      lawful = refl;
      spawns = ([], refl);
      leaves = record { added = end_of_a ∷ []; few = omega arith; goes_on = inr (end_of_a ∷ launch_of_a 2 ∷ [], refl); lawful = refl; reads = inr (its_header, refl, (refl, refl)) };
    },
    refl,
    (
      record {
        reads = inl (refl, refl);
        goes_on = inr (launch_of_a 1 ∷ [], refl);
        lawful = refl;
        spawns = (command_of_a ∷ [], refl);
        leaves = record { added = []; few = omega arith; goes_on = inr (launch_of_a 1 ∷ [], refl); lawful = refl; reads = inr (its_header, refl, (refl, refl)) };
      },
      refl,
    ),
  ),
)

pub returns-clause-run : goal.returns-clause-run
unfolding story attempts_after next_after is_good_after value_after is_aborted is_ready is_final_ready may_launch may_follow
returns-clause-run c = record { finished = refl; abort_free = refl; outcomes = (λ plain. refl, tt) }

pub returns-clause-sound : goal.returns-clause-sound
unfolding is_expandable
returns-clause-sound c = refl

pub returns-clause-plain : goal.returns-clause-plain
unfolding uses_whole_run
returns-clause-plain c = refl
