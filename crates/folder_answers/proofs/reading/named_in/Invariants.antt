use Rattle.dag_main_files.specs.Folder.{AreHeld}
use Rattle.folder_answers.proofs.reading.named_in.Given as goal

abbrev pub invariant-loop-path : goal.invariant-loop-path
invariant-loop-path g l = g.F.Folder.honest l.folder → AreHeld (g.F.Folder.holds l.folder) l.files
