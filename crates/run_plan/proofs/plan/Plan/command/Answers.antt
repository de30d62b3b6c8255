use Rattle.std.proofs.Common.{◌≤◌, arith}
use Rattle.run_plan_node.specs.Commands.{greatest}
use Rattle.run_plan_node.proofs.CommandsExist.{each_command_exists}
use Rattle.run_plan.proofs.PlanCommands.{only_memory}
use Rattle.run_plan.proofs.plan.Plan.command.Goals as goal

pub returns-in-Err-clause-refused : goal.returns-in-Err-clause-refused
returns-in-Err-clause-refused c =
    let spec = c.spec-spec.result.now in
    let launch : c.args.facts.now.launch ≤ greatest = omega arith in
    let exists = each_command_exists spec c.args.key.now.attempt c.args.key.now.phase c.args.facts.now (rw c.spec-spec.ensures.is c.spec-spec.ensures.sound) (rw c.spec-spec.ensures.is c.requires.allowed) launch in
    only_memory c.name.result.now c.in-Err.fault c.fault_in.result _ exists.0 exists.1 c.in-Err.ensures c.fault_in.ensures
