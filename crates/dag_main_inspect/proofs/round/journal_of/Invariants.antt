use Rattle.std.proofs.Common.{◌≡◌}
use Rattle.dag_main_files.specs.Beside.{journal_name_of}
use Rattle.dag_main_inspect.proofs.round.journal_of.Given as goal

abbrev pub invariant-loop : goal.invariant-loop
invariant-loop g l = g.F.Folder.honest l.folder → l.found ≡ g.F.Folder.holds l.folder (journal_name_of l.top)
