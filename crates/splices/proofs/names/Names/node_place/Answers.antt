use Rattle.std.proofs.Common.{◌∙◌, sym}
use Rattle.std.specs.Str.{bytes_eq}
use Rattle.splices.proofs.Positions.{placed_first, placed_second, unplaced}
use Rattle.splices.proofs.names.Names.node_place.Goals as goal

pub returns-in-Some : goal.returns-in-Some
returns-in-Some c = placed_first (bytes_eq c.args.name.now) c.args.self.now.jobs c.args.self.now.finals _ (sym c.in-Some.is ∙ c.place_of.ensures.value)

pub returns-in-Some-place_of : goal.returns-in-Some-place_of
returns-in-Some-place_of c =
    placed_second (bytes_eq c.args.name.now) c.args.self.now.jobs c.args.self.now.finals c.len.result _ (sym c.in-None.is ∙ c.place_of.ensures.value) (sym c.in-Some-place_of.is ∙ c.place_of-in-None.ensures.value) c.len.ensures

pub returns-in-None-place_of : goal.returns-in-None-place_of
returns-in-None-place_of c =
    unplaced (bytes_eq c.args.name.now) c.args.self.now.jobs c.args.self.now.finals (sym c.in-None.is ∙ c.place_of.ensures.value) (sym c.in-None-place_of.is ∙ c.place_of-in-None.ensures.value)
