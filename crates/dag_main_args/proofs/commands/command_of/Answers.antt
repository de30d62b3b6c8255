use Rattle.dag_main_args.proofs.Tables.{argument_added}
use Rattle.dag_main_args.proofs.commands.command_of.Goals as goal

pub loop-argument-preserved : goal.loop-argument-preserved
loop-argument-preserved c = argument_added c.args.is_tied c.args.row.now.name.now c.args.row.now.arguments.now c.loop-argument.argument-index _
    c.loop-argument.command c.in_ok-command.command c.in_ok-argument_of.field-0 c.loop-argument-test.true c.in_ok-command.ensures c.in_ok-argument_of.ensures
    c.loop-argument.invariant
