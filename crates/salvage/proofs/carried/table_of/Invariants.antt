use Rattle.std.proofs.Common.{take}
use Rattle.salvage.proofs.NameLists.{HasNames}
use Rattle.salvage.proofs.carried.table_of.Given as goal

abbrev pub invariant-loop-name : goal.invariant-loop-name
invariant-loop-name l = HasNames l.table (take l.name-index l.names)
