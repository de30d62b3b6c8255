use Rattle.std.proofs.Common.{refl}
use Rattle.clap.specs.Words.{app_of}
use Rattle.dag_main_args.proofs.Tables.{command_added, whole_table}
use Rattle.dag_main_args.proofs.commands.dagrun_command.Goals as goal

pub loop-row-preserved : goal.loop-row-preserved
loop-row-preserved c = command_added c.args.is_tied _ c.loop-row.row-index _ (app_of c.loop-row.program) (app_of c.in_ok-program.program) c.loop-row-test.true
    c.in_ok-program.ensures c.loop-row.invariant

pub returns : goal.returns
returns c = whole_table c.args.is_tied _ c.loop-row.row-index (app_of c.loop-row.program) c.loop-row.invariant c.loop-row-test.false refl refl refl
