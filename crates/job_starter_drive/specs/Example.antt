-- A run of one child, and the calls that its starter answered.
use Rattle.std.specs.Prelude.{◌≡◌, List, [], ◌∷◌, codes}
use Rattle.node_machine.specs.declared.Key.{Key}
use Rattle.node_machine.specs.declared.Outcome.{Outcome}
use Rattle.node_machine.specs.declared.Outcome.TheVariants.{Exit}
use Rattle.node_machine.specs.declared.Phase.TheVariants.{Job}
use Rattle.run_plan_node.specs.declared.command.ChildCommand.{ChildCommand}
use Rattle.run_plan_node.specs.Commands.{bare_command}
use Rattle.throttles.specs.declared.Limits.{Limits}
use Rattle.sched_core.specs.Example.{key}
use Rattle.job_starter_drive.specs.declared.Call.{Call}
use Rattle.job_starter_drive.specs.declared.Call.TheVariants as calls
use Rattle.job_starter_drive.specs.declared.Started.TheVariants.{Running}
use Rattle.job_starter_drive.specs.Calls.{snapshot_of, Telling}

-- limits that let in any number
abbrev pub unlimited : Limits
unlimited = record { jobs = 0; pre = 0; post = 0; children = 0 }

-- a starter whose children exit with 0, and which halts no run
abbrev pub exits_well : Telling
exits_well = record { may_be = λ call_log key outcome. outcome ≡ Exit 0; gathers = ⊥; may_halt = ⊥ }

abbrev pub child_of_a : ChildCommand
child_of_a = bare_command [] (codes "a") []

-- A's child was started, and its end was reported
abbrev pub its_calls : List Call
its_calls = calls.Ended (key 0 0 Job) (Exit 0) ∷ calls.Started (key 0 0 Job) (snapshot_of child_of_a) Running ∷ []
