-- The placed assignments as the code has them.
use Rattle.submit_file.specs.Placed.{Placing}
use Rattle.submit_file.specs.declared.placed.Placer.{Placer}

abbrev pub placing_of : Placer → Placing
placing_of p = record { placed = p.placed.items; queued = p.queued }
