use Rattle.std.proofs.Common.{◌≡◌, [], map, take}
use Rattle.clap.specs.Words.{app_of}
use Rattle.dag_main_args.specs.Table.{command, rule_by}
use Rattle.dag_main_args.proofs.commands.command_of.Given as goal

abbrev pub invariant-loop-argument : goal.invariant-loop-argument
invariant-loop-argument l =
    app_of l.command ≡ record { top = command l.row.name.now (map (rule_by l.is_tied) (take l.argument-index l.argument-items)); subs = [] }
