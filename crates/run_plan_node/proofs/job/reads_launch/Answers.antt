use Rattle.std.proofs.Common.{refl}
use Rattle.run_plan_node.specs.Commands.{reads_launch}
use Rattle.run_plan_node.proofs.job.reads_launch.Goals as goal

pub returns-clause-ok : goal.returns-clause-ok
unfolding reads_launch
returns-clause-ok c =
    rw (c.in_ok-universe.ensures.ok, c.in_ok-executable.ensures.ok, c.in_ok-arguments.ensures.ok, c.in_ok-input.ensures.ok, c.in_ok-output.ensures.ok, c.in_ok-error.ensures.ok, c.in_ok-folder.ensures.ok, c.in_ok-environment.ensures.ok) refl
