use Rattle.std.proofs.Common.{◌≡◌, drop}
use Rattle.splices_flat.specs.Nodes.{jobs_in}
use Rattle.splices.proofs.acting.has_jobs.Given as goal

abbrev pub invariant-loop-command : goal.invariant-loop-command
invariant-loop-command l = jobs_in l.commands ≡ jobs_in (drop l.command-index l.commands)
