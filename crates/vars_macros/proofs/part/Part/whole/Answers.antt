use Rattle.std.proofs.Common.{option_copied}
use Rattle.vars_macros.specs.NamePlaces.{name_at_place}
use Rattle.vars_macros.specs.Pairs.{closer_of}
use Rattle.vars_macros.proofs.Closings.{pairs_in_whole}
use Rattle.vars_macros.proofs.NamesIn.{names_in_whole}
use Rattle.vars_macros.proofs.part.Part.whole.Goals as goal

pub invariant_of-result-clause-paired : goal.invariant_of-result-clause-paired
invariant_of-result-clause-paired c = pairs_in_whole c.args.text.now (closer_of c.args.pairs.now) c.requires.pairs

pub invariant_of-result-clause-named : goal.invariant_of-result-clause-named
invariant_of-result-clause-named c = names_in_whole c.args.names.now c.args.text.now (name_at_place (option_copied c.args.places)) c.requires.names
