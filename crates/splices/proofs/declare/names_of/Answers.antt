use Rattle.std.proofs.lemmas.Result.{err_from_is_err_and}
use Rattle.std.proofs.Common.{take}
use Rattle.splices.proofs.OwnNodes.{names_fail}
use Rattle.splices.proofs.declare.names_of.Goals as goal

pub returns-in_err-add_line-clause-once : goal.returns-in_err-add_line-clause-once
returns-in_err-add_line-clause-once c =
    let p = err_from_is_err_and c.from_residual.result c.from_residual.ensures.1 in
    rw (p.1, p.2) (names_fail c.args.path.now c.args.commands.now c.loop-command.command-index c.command-item.result c.in_err-add_line.field-0.0 _ c.command-item.is c.loop-command-test.true
    (c.in_err-add_line.ensures.once (take c.loop-command.command-index c.args.commands.now) c.loop-command.invariant.0 c.loop-command.invariant.1 c.loop-command.invariant.2) c.loop-command.invariant.3)
