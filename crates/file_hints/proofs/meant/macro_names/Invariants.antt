use Rattle.std.proofs.Common.{◌≡◌, ◌++◌, map, drop}
use Rattle.file_hints.specs.Meant.{names_above}
use Rattle.file_hints.proofs.meant.macro_names.Given as goal

abbrev pub invariant-loop-one : goal.invariant-loop-one
invariant-loop-one l =
    map (λ w. w.now) l.macros.items ++ map (λ a. a.name) (drop l.one-index l.vars) ≡ names_above l.line l.placed ++ map (λ a. a.name) l.vars
