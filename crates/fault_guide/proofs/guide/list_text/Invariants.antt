use Rattle.std.proofs.Common.{◌≡◌, map, take, string_bytes}
use Rattle.fault_guide.specs.Guide.{list_text}
use Rattle.fault_guide.proofs.guide.list_text.Given as goal

abbrev pub invariant-loop-fault : goal.invariant-loop-fault
invariant-loop-fault l = string_bytes l.text ≡ list_text (map (λ f. f.now) (take l.fault-index l.faults))
