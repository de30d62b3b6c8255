use Rattle.std.proofs.Common.{◌≡◌, map, take}
use Rattle.splices_flat.specs.Nodes.{finals_in, jobs_in}
use Rattle.splices.specs.NodeChanges.{plain_node}
use Rattle.splices.proofs.own_nodes.plain_nodes.Given as goal

abbrev pub invariant-loop-command : goal.invariant-loop-command
invariant-loop-command l = record {
  jobs : l.jobs.items ≡ map (plain_node l.prefix l.folder) (jobs_in (take l.command-index l.commands));
  finals : l.finals.items ≡ map (plain_node l.prefix l.folder) (finals_in (take l.command-index l.commands));
}
