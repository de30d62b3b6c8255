-- A phase that has a command fails for lack of memory alone.
use Rattle.std.proofs.Common.{◌≡◌, ℕ, List, Result, Ok, ⊎_elim}
use Rattle.run_plan_node.specs.declared.command.ChildCommand.{ChildCommand}
use Rattle.run_plan.specs.declared.fault.PlanFault.{PlanFault}
use Rattle.run_plan.specs.declared.fault.PlanFault.TheVariants as plan
use Rattle.run_plan_node.specs.declared.job.JobFault.{JobFault}
use Rattle.run_plan_node.specs.declared.job.JobFault.TheVariants.{Memory, InMacro, NoExecutable, BadUniverse}
use Rattle.run_plan_node.specs.JobAnswers.{Fails}
use Rattle.run_plan.specs.PlanAnswers.{IsFault}
use Rattle.run_plan.specs.Submitted.{fault_in_job}

pub only_memory : (name : List ℕ) (fault : JobFault) (given : PlanFault) (answer : Result ChildCommand JobFault) (command : ChildCommand)
    → answer ≡ Ok command → Fails fault answer → IsFault given (fault_in_job name fault) → given ≡ plan.Memory
only_memory name Memory given answer command is says fault = ⊎_elim (λ e. e) (λ e. e) fault
only_memory name (InMacro macro) given answer command is says fault = cc
only_memory name NoExecutable given answer command is says fault = cc
only_memory name BadUniverse given answer command is says fault = cc
