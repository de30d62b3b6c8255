use Rattle.std.proofs.Common.{◌≡◌, drop, None, option_copied}
use Rattle.submit_file.specs.Submit.{value_assigned}
use Rattle.submit_file.proofs.submit.Submit.last.Given as goal

abbrev pub invariant-loop-one : goal.invariant-loop-one
invariant-loop-one l = value_assigned (option_copied l.found) (drop l.one-index l.self.assigned.items) l.name ≡ value_assigned None l.self.assigned.items l.name
