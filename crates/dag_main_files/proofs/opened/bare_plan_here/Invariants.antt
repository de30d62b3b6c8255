use Rattle.dag_main_files.specs.Folder.{IsReadFrom}
use Rattle.dag_main_files.proofs.opened.bare_plan_here.Given as goal

abbrev pub invariant-loop : goal.invariant-loop
invariant-loop g l = g.F.Folder.honest l.folder → IsReadFrom (g.F.Folder.holds l.folder) l.top l.files
