use Rattle.std.proofs.Common.{◌≡◌, drop}
use Rattle.splices_flat.specs.Nodes.{finals_in}
use Rattle.splices.proofs.declare.no_final.Given as goal

abbrev pub invariant-loop-command : goal.invariant-loop-command
invariant-loop-command l = finals_in l.commands ≡ finals_in (drop l.command-index l.commands)
