use Rattle.std.proofs.Common.{◌∙◌, ◌++◌, List, sym, ap}
use Rattle.std.proofs.lemmas.List.{append-nil}
use Rattle.file_hints.specs.References.{references}
use Rattle.file_hints.specs.declared.macros.Reference.{Reference}
use Rattle.file_hints.proofs.MacroNames.{none_left}
use Rattle.file_hints.proofs.macros.push_references.Goals as goal

pub returns : goal.returns
unfolding references
returns c =
    let found = c.loop-rest.found.items in
    sym (append-nil found) ∙ ap (λ (more : List Reference). found ++ more) (sym (none_left c.loop-rest.dollar c.loop-rest.rest.now c.in_default.len_below)) ∙ c.loop-rest.invariant
