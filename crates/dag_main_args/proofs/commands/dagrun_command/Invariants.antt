use Rattle.std.proofs.Common.{◌≡◌, take}
use Rattle.clap.specs.Words.{app_of}
use Rattle.dag_main_args.specs.Table.{app_by}
use Rattle.dag_main_args.proofs.commands.dagrun_command.Given as goal

abbrev pub invariant-loop-row : goal.invariant-loop-row
invariant-loop-row l = app_of l.program ≡ app_by l.is_tied (take l.row-index l.row-items)
