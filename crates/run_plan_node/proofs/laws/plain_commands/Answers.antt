use Rattle.run_plan_node.proofs.PlainCommands.{plain_command_same}
use Rattle.run_plan_node.proofs.laws.plain_commands.Goals as goal

pub returns : goal.returns
returns c = plain_command_same
