-- The lines of warnings.
use Rattle.std.specs.Prelude.{List, ℕ, ◌++◌, codes}
use Rattle.std.specs.Fmt.{decimal}
use Rattle.std.specs.List.{flat_map}
use Rattle.splices_flat.specs.declared.flat.DagWarning.{DagWarning}
use Rattle.splices_flat.specs.declared.flat.DagWarning.TheVariants.{Ignored, Overridden}

-- `warning: FILE:LINE ignored` and `warning: FILE:LINE overridden`
abbrev pub warning_line : DagWarning → List ℕ
warning_line (Ignored path line) = codes "warning: " ++ (path ++ (codes ":" ++ (decimal line ++ codes " ignored\n")))
warning_line (Overridden path line) = codes "warning: " ++ (path ++ (codes ":" ++ (decimal line ++ codes " overridden\n")))

abbrev pub warning_lines : List DagWarning → List ℕ
warning_lines warnings = flat_map warning_line warnings
