use Rattle.std.proofs.Common.{◌≡◌, ◌+◌, ◌*◌}
use Rattle.splices.specs.ParsedFiles.{files_in}
use Rattle.splices_flat.specs.Opening.{open_file, open_lines}
use Rattle.splices.specs.Adds.{IsFew}
use Rattle.splices.proofs.Trees.{Front}
use Rattle.splices.proofs.open.+opening.Given as goal

abbrev pub decreases-open_forest : goal.decreases-open_forest
decreases-open_forest l = 3 * l.left + 2

abbrev pub decreases-open_splice : goal.decreases-open_splice
decreases-open_splice l = 3 * l.left + 1

abbrev pub decreases-open_tree : goal.decreases-open_tree
decreases-open_tree l = 3 * l.left

abbrev pub invariant-open_forest-loop-command : goal.invariant-open_forest-loop-command
invariant-open_forest-loop-command l =
    (l.above ≡ l.initial.above) × IsFew l.builder.used
    × Front (open_file (files_in l.files) l.left) l.initial.builder.used l.initial.above l.folder l.prefix l.commands l.command-index
    (open_lines (open_file (files_in l.files) l.left) l.initial.builder.used l.initial.above l.folder l.commands) l.initial.builder l.builder l.initial.parts.items l.parts.items l.fault
