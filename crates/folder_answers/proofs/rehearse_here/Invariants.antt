use Rattle.dag_main_files.specs.Folder.{IsReadFrom}
use Rattle.folder_answers.proofs.rehearse_here.Given as goal

abbrev pub invariant-loop : goal.invariant-loop
invariant-loop g l = g.F.Folder.honest l.folder → IsReadFrom (g.F.Folder.holds l.folder) l.top l.files
