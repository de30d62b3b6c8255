use Rattle.std.proofs.Common.{◌≡◌, ◌++◌, map, take}
use Rattle.dag_main_files.specs.Changes.{rescue_away}
use Rattle.dag_main_files.proofs.beside.Place.put_each_away.Given as goal

abbrev pub invariant-loop-number : goal.invariant-loop-number
invariant-loop-number g l = l.changes ≡ l.initial.changes ++ map (rescue_away l.self.top.now) (take l.number-index l.numbers)
