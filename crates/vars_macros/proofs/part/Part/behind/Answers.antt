use Rattle.std.proofs.Common.{sym, subst, List, ℕ, ◌+◌, option_copied}
use Rattle.vars_macros.specs.NamePlaces.{AreNamesIn, name_at_place}
use Rattle.vars_macros.specs.Pairs.{ArePairsIn, closer_in}
use Rattle.vars_macros.proofs.Closings.{pairs_in_behind}
use Rattle.vars_macros.proofs.NamesIn.{names_in_behind, all_behind}
use Rattle.vars_macros.proofs.part.Part.behind.Goals as goal

pub invariant_of-result-clause-named : goal.invariant_of-result-clause-named
invariant_of-result-clause-named c =
    let part = c.args.self in
    let table = name_at_place (option_copied part.places) in
    subst (λ (rest : List ℕ). AreNamesIn part.names.now (part.start + c.args.n) rest table) (sym (all_behind c.args.n part.bytes.now))
    (names_in_behind part.names.now part.start c.args.n part.bytes.now table c.requires part.named)

pub invariant_of-result-clause-paired : goal.invariant_of-result-clause-paired
invariant_of-result-clause-paired c =
    let part = c.args.self in
    let table = closer_in (option_copied part.pairs) in
    subst (λ (rest : List ℕ). ArePairsIn (part.start + c.args.n) rest table) (sym (all_behind c.args.n part.bytes.now))
    (pairs_in_behind part.start c.args.n part.bytes.now table c.requires part.paired)
