-- The first phase of what is left of a round is handed over.
use Rattle.std.proofs.Common.{◌≡◌, true, List, [], ◌∷◌, ◌++◌, sym, subst}
use Rattle.node_machine.specs.declared.Key.{Key}
use Rattle.node_machine.specs.declared.Outcome.{Outcome}
use Rattle.node_machine.specs.declared.Outcome.TheVariants.{Exit, NoStart}
use Rattle.node_machine.specs.Story.{is_noop_job}
use Rattle.throttles.specs.declared.Limits.{Limits}
use Rattle.run_plan.specs.Plan.{Plan, node_at}
use Rattle.run_plan_node.specs.Commands.{starts_child}
use Rattle.node_machine.specs.declared.Record.{Record}
use Rattle.job_starter_drive.specs.declared.Call.{Call}
use Rattle.job_starter_drive.specs.declared.Started.{Started}
use Rattle.job_starter_drive.specs.declared.Started.TheVariants.{Running, NotStarted}
use Rattle.job_starter_drive.specs.declared.driving.DriveFault.{DriveFault}
use Rattle.job_starter_drive.specs.declared.driving.DriveFault.TheVariants as drives
use Rattle.job_starter_drive.specs.Calls.{MayRun, Telling}
use Rattle.job_starter_drive.specs.Causes.{IsUnspawned}
use Rattle.job_starter_drive.specs.Drives.{Standing, At, IsSpawned, skip_noop, spawn_child, spawn_failed, Goes, no_step, one_more, IsStoppedAt, child_refused, command_refused}

module _ (limits : Limits) (plan : Plan) (may : Telling) (past : List Record) (call_log : List Call) (key : Key) (all keys : List Key) (first : all ≡ key ∷ keys) (owed : List (Key × Outcome)) where
  begun : (to : Standing) → Goes limits plan may (At past call_log (key ∷ keys) owed) to → Goes limits plan may (At past call_log all owed) to
  begun to goes = subst (λ (l : List Key). Goes limits plan may (At past call_log l owed) to) (sym first) goes

  pub pass-goes : is_noop_job (node_at plan key.node).course key.phase ≡ true → (now : List (Key × Outcome)) → now ≡ owed ++ (key, Exit 0) ∷ []
      → Goes limits plan may (At past call_log all owed) (At past call_log keys now)
  pass-goes quiet now is =
      subst (λ (l : List (Key × Outcome)). Goes limits plan may (At past call_log all owed) (At past call_log keys l)) (sym is)
      (begun (At past call_log keys (owed ++ (key, Exit 0) ∷ [])) (one_more no_step (skip_noop quiet)))

  pub start-goes : (later_log : List Call) (answer : Started) → answer ≡ Running → starts_child (node_at plan key.node) key.phase ≡ true → MayRun may call_log key
      → IsSpawned plan past key answer call_log later_log → Goes limits plan may (At past call_log all owed) (At past later_log keys owed)
  start-goes later_log answer runs child may_run spawned =
      let h = subst (λ (a : Started). IsSpawned plan past key a call_log later_log) runs spawned in
      subst (λ (l : List Call). Goes limits plan may (At past call_log all owed) (At past l keys owed)) (sym h.entry)
      (begun _ (one_more no_step (spawn_child child h.is may_run)))

  pub fail-goes : (later_log : List Call) (answer : Started) → answer ≡ NotStarted → starts_child (node_at plan key.node) key.phase ≡ true → may.may_be call_log key NoStart
      → IsSpawned plan past key answer call_log later_log → (now : List (Key × Outcome)) → now ≡ owed ++ (key, NoStart) ∷ []
      → Goes limits plan may (At past call_log all owed) (At past later_log keys now)
  fail-goes later_log answer fails_ child may_be spawned now is =
      let h = subst (λ (a : Started). IsSpawned plan past key a call_log later_log) fails_ spawned in
      subst (λ (o : List (Key × Outcome)). Goes limits plan may (At past call_log all owed) (At past later_log keys o)) (sym is)
      (subst (λ (l : List Call). Goes limits plan may (At past call_log all owed) (At past l keys (owed ++ (key, NoStart) ∷ []))) (sym h.entry)
      (begun _ (one_more no_step (spawn_failed child h.is may_be))))

  -- memory was refused for its child or its command
  pub unhanded : (fault : DriveFault) → IsUnspawned fault → starts_child (node_at plan key.node) key.phase ≡ true → IsStoppedAt limits plan fault (At past call_log all owed) []
  unhanded fault is child = subst (λ (l : List Key). IsStoppedAt limits plan fault (At past call_log l owed) []) (sym first) (of-unhanded fault is)
    where
      of-unhanded : (f : DriveFault) → IsUnspawned f → IsStoppedAt limits plan f (At past call_log (key ∷ keys) owed) []
      of-unhanded (drives.Manager f) is_one = absurd is_one
      of-unhanded drives.StartMemory is_one = child_refused child
      of-unhanded drives.WaitFault is_one = absurd is_one
      of-unhanded drives.Halted is_one = absurd is_one
      of-unhanded drives.Memory is_one = command_refused child
