use Rattle.std.proofs.Common.{rules, reverse, refl, sym, ap, ◌∙◌}
use Rattle.job_starter_drive.proofs.Running.{no_items}
use Rattle.job_starter_drive.specs.Causes.{no_child_runs}
use Rattle.job_starter_drive.proofs.scripted.ScriptedStarterStarter.wait_any.Goals as goal

pub returns-then-count-eq0-clause-err : goal.returns-then-count-eq0-clause-err
returns-then-count-eq0-clause-err c = no_child_runs (sym c.running-count.ensures ∙ ap reverse (no_items c.running-count.result.now (search rules))) refl
