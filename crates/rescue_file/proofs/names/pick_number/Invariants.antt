use Rattle.std.proofs.Common.{take}
use Rattle.rescue_file.specs.Numbered.{IsHighest}
use Rattle.rescue_file.proofs.names.pick_number.Given as goal

abbrev pub invariant-loop-name : goal.invariant-loop-name
invariant-loop-name l = IsHighest (take l.name-index l.names) l.top l.highest
