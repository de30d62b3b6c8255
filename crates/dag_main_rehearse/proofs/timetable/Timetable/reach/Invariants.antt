use Rattle.std.proofs.Common.{◌≡◌, ◌-◌, ◌+◌, length}
use Rattle.node_machine.specs.declared.Key.{Key}
use Rattle.dag_main_rehearse.specs.Timed.{timings_of}
use Rattle.dag_main_rehearse.proofs.timetable.Timetable.reach.Given as goal

abbrev pub invariant-loop-alloc : goal.invariant-loop-alloc
invariant-loop-alloc l = (key : Key) → timings_of l.self key ≡ timings_of l.initial.self key

abbrev pub decreases-loop-alloc : goal.decreases-loop-alloc
decreases-loop-alloc l = l.node + 1 - length l.self.nodes.items
