use Rattle.std.proofs.Common.{option_copied}
use Rattle.vars_macros.specs.NamePlaces.{name_at_place}
use Rattle.vars_macros.specs.Pairs.{closer_in}
use Rattle.vars_macros.proofs.Closings.{pairs_in_first}
use Rattle.vars_macros.proofs.NamesIn.{names_in_first}
use Rattle.vars_macros.proofs.part.Part.first.Goals as goal

pub invariant_of-result-clause-paired : goal.invariant_of-result-clause-paired
invariant_of-result-clause-paired c =
    let part = c.args.self in
    pairs_in_first part.start c.args.n part.bytes.now (closer_in (option_copied part.pairs)) c.requires part.paired

pub invariant_of-result-clause-named : goal.invariant_of-result-clause-named
invariant_of-result-clause-named c =
    let part = c.args.self in
    names_in_first part.names.now part.start c.args.n part.bytes.now (name_at_place (option_copied part.places)) c.requires part.named
