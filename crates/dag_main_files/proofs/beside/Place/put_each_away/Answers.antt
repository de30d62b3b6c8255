use Rattle.std.proofs.Common.{map, ◌∙◌}
use Rattle.dag_main_files.specs.Changes.{rescue_away}
use Rattle.dag_main_files.proofs.Makes.{begun-each, makes-refused}
use Rattle.dag_main_files.proofs.beside.Place.put_each_away.Goals as goal

pub returns-in_err-put_rescue_away-clause-changes : goal.returns-in_err-put_rescue_away-clause-changes
returns-in_err-put_rescue_away-clause-changes g c =
    makes-refused _ c.from_residual.result c.from_residual.ensures.1 (map (rescue_away c.args.self.now.top.now) c.args.numbers.now) c.args.changes.now
    c.put_rescue_away.new.changes
    (begun-each (rescue_away c.args.self.now.top.now) c.args.numbers.now c.loop-number.number-index c.args.changes.now c.put_rescue_away.new.changes
    (c.in_err-put_rescue_away.ensures.no_change ∙ c.loop-number.invariant))
