use Rattle.run_plan_node.proofs.CommandsExist.{each_command_exists}
use Rattle.run_plan_node.proofs.laws.commands_exist.Goals as goal

pub returns : goal.returns
returns c = each_command_exists
