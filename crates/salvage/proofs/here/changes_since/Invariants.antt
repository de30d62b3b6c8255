use Rattle.std.proofs.Common.{take, string_bytes}
use Rattle.salvage.specs.Salvaged.{AreChanges, any_change, IsChangeFrom}
use Rattle.salvage.proofs.here.changes_since.Given as goal

abbrev pub invariant-loop-file : goal.invariant-loop-file
invariant-loop-file g l =
    AreChanges any_change (take l.file-index l.inputs.files.items) (string_bytes l.text)
    × (g.F.Folder.honest l.folder → AreChanges (IsChangeFrom (g.F.Folder.holds l.folder) (g.F.Folder.has l.folder)) (take l.file-index l.inputs.files.items) (string_bytes l.text))
