use Rattle.std.proofs.Common.{◌≡◌, [], take, drop}
use Rattle.splices_flat.specs.Nodes.{job_names, final_names, splice_names}
use Rattle.splices_flat.specs.Opening.{check_lines}
use Rattle.splices.proofs.declare.names_of.Given as goal

abbrev pub invariant-loop-command : goal.invariant-loop-command
invariant-loop-command l =
    (l.names.jobs ≡ job_names (take l.command-index l.commands)) × (l.names.finals ≡ final_names (take l.command-index l.commands))
    × (l.names.splices ≡ splice_names (take l.command-index l.commands))
    × (check_lines l.path (take l.command-index l.commands) (drop l.command-index l.commands) ≡ check_lines l.path [] l.commands)
