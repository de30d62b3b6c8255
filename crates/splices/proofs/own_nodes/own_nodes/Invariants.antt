use Rattle.std.proofs.Common.{◌≡◌, ◌++◌, drop, take}
use Rattle.splices_flat.specs.Nodes.{finals_in, jobs_in, declared_nodes}
use Rattle.splices_flat.specs.Settings.{settings_at}
use Rattle.splices_flat.specs.Warnings.{warn_file, warn_lines}
use Rattle.splices.proofs.own_nodes.own_nodes.Given as goal

abbrev pub invariant-loop-command : goal.invariant-loop-command
invariant-loop-command l = record {
  nodes : l.nodes.items ≡ declared_nodes l.prefix l.folder (settings_at l.prefix l.commands (take l.command-index l.commands)) 0 (jobs_in l.commands ++ finals_in l.commands);
  warned : warn_lines l.path l.prefix l.commands (take l.command-index l.commands) l.warned (drop l.command-index l.commands) ≡ warn_file l.path l.prefix l.commands l.initial.warned;
}
