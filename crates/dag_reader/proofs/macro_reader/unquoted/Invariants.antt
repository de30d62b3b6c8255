use Rattle.std.proofs.Common.{◌≡◌, ◌++◌, ◌-◌, length, drop, string_bytes}
use Rattle.std.specs.Str.{IsCharBoundary}
use Rattle.dag_reader.specs.Macros.{unquoted}
use Rattle.dag_reader.proofs.macro_reader.unquoted.Given as goal

abbrev pub invariant-loop-at : goal.invariant-loop-at
invariant-loop-at l = IsCharBoundary l.quoted l.at × (string_bytes l.text ++ unquoted (drop l.at l.quoted) ≡ unquoted l.quoted)

abbrev pub decreases-loop-at : goal.decreases-loop-at
decreases-loop-at l = length l.quoted - l.at
