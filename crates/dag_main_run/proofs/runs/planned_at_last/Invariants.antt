use Rattle.std.proofs.Common.{◌≡◌, ◌++◌, List}
use Rattle.dag_main_files.specs.Changes.{FileChange}
use Rattle.dag_main_files.specs.Folder.{IsReadFrom}
use Rattle.dag_main_run.specs.RunChanges.{AreLooks}
use Rattle.dag_main_run.proofs.runs.planned_at_last.Given as goal

abbrev pub invariant-loop : goal.invariant-loop
invariant-loop g l =
    (g.H.Folder.honest l.site → IsReadFrom (g.H.Folder.holds l.site) l.place.top.now l.files)
    × ((looks : List FileChange) × AreLooks l.place.top.now looks × (l.changes ≡ l.initial.changes ++ looks))
