use Rattle.dag_main_files.specs.Folder.{AreHeld, KeepsFiles}
use Rattle.dag_main_files.proofs.loading.read_rest.Given as goal

abbrev pub invariant-loop : goal.invariant-loop
invariant-loop g l =
    (g.F.Folder.honest l.folder → AreHeld (g.F.Folder.holds l.folder) l.initial.files → AreHeld (g.F.Folder.holds l.folder) l.files)
    × KeepsFiles l.initial.files l.files
