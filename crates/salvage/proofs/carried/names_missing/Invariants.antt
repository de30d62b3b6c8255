use Rattle.std.proofs.Common.{◌≡◌, not, filter, take}
use Rattle.salvage.specs.Carried.{is_among_names}
use Rattle.salvage.proofs.carried.names_missing.Given as goal

abbrev pub invariant-loop-name : goal.invariant-loop-name
invariant-loop-name l = l.missing.items ≡ filter (λ name. not (is_among_names l.table name)) (take l.name-index l.names)
