use Rattle.std.proofs.Common.{arith, ◌≡◌, ◌∙◌, sym, inl, inr, ℕ, zero, suc, Bool, true, false, if◌then◌else◌, List, [], ◌∷◌, Some, None, refl}
use Rattle.std.proofs.lemmas.Bool.{false≢true}
use Rattle.std.specs.Int.Signed.{<ℤ_irrefl}
use Rattle.std.proofs.Math.Nat.{lt_irrefl}
use Rattle.node_machine.specs.declared.Key.{Key}
use Rattle.node_machine.specs.declared.Outcome.TheVariants.{Exit, NoStart}
use Rattle.node_machine.specs.declared.Record.{Record}
use Rattle.node_machine.specs.declared.Record.TheVariants.{Life}
use Rattle.node_machine.specs.Story.{story, attempts_after, next_after, is_good_after, value_after}
use Rattle.run_plan_node.specs.Commands.{phase_command}
use Rattle.sched_core.specs.Run.{is_aborted, is_ready, is_final_ready, may_launch, may_follow}
use Rattle.sched_core.specs.Limits.{IsBetter}
use Rattle.sched_core.specs.Choices.{startable, if_let_in}
use Rattle.event_journal_log.specs.Slot.{record_in, guess}
use Rattle.event_journal_log.specs.Groups.{groups_of, records_at}
use Rattle.event_journal_log.specs.Image.{replay_of}
use Rattle.recovery_manager.specs.Example.{one_node, end_of_a, first_held, second_held}
use Rattle.job_starter_drive.specs.Drives.{launch_round, spawn_child, child_exits, ends_recorded, no_step, one_more}
use Rattle.node_machine.specs.declared.Phase.TheVariants.{Job}
use Rattle.sched_core.specs.Example.{key}
use Rattle.sched_core.specs.Ahead.{NothingToStart}
use Rattle.job_starter_drive.specs.Example.{unlimited, child_of_a, its_calls}
use Rattle.job_starter_drive.proofs.examples.examples.Goals as goal

-- where no node is, nothing starts
either : (past : List Record) (b : Bool) → if_let_in unlimited one_node past (if b then None else None) ≡ None
either past true = refl
either past false = refl

-- A runs, and no other node is there
held : NothingToStart unlimited one_node second_held
unfolding story attempts_after next_after is_good_after value_after is_aborted is_ready is_final_ready may_launch
held zero = refl
held (suc zero) = refl
held (suc (suc node)) = either second_held (may_launch one_node second_held (suc (suc node)))

no_other : (node : ℕ) → startable unlimited one_node (Life ∷ first_held) (suc node) ≡ None
unfolding story attempts_after next_after is_good_after value_after is_aborted is_ready is_final_ready may_launch
no_other zero = refl
no_other (suc node) = either (Life ∷ first_held) (may_launch one_node (Life ∷ first_held) (suc (suc node)))

none-some : (other : Key) → None ≡ Some other → ⊥
none-some other is = cc

exits : Exit 0 ≡ NoStart → ⊥
exits is = cc

-- and none is better than A
never_better : (node : ℕ) (other : Key) → startable unlimited one_node (Life ∷ first_held) node ≡ Some other → IsBetter one_node node 0 → ⊥
never_better zero other is (inl before) = <ℤ_irrefl before
never_better zero other is (inr before) = lt_irrefl 0 before.1
never_better (suc node) other is before = none-some other (sym (no_other node) ∙ is)

pub returns : goal.returns
unfolding story attempts_after next_after is_good_after value_after is_aborted is_ready is_final_ready may_launch may_follow replay_of groups_of records_at record_in guess phase_command
returns c = record {
  moment = record {
    held = end_of_a ∷ second_held;
    later_log = its_calls;
    lawful = refl;
    halted = record {
      keys = [];
      owed = [];
      steps = one_more
          (one_more
          (one_more
          (one_more no_step
          (launch_round {keys = key 0 0 Job ∷ []} refl refl refl (record { same = refl; children = refl }) (record { some = omega arith; few = omega arith; chosen = ((refl, never_better), tt); full = λ fewer. held })))
          (spawn_child {command = child_of_a} refl refl (Exit 0, exits, refl)))
          (child_exits {key = key 0 0 Job} {outcome = Exit 0} (record { same = refl; children = refl }) (inl held) (λ seen. absurd (false≢true seen)) refl refl))
          (ends_recorded {end = (key 0 0 Job, Exit 0)} {owed = []});
    };
    part = ([], refl);
    answered = ([], refl);
    reads = refl;
  };
}
