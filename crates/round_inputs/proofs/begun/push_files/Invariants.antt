use Rattle.std.proofs.Common.{◌≡◌, ◌++◌}
use Rattle.std.specs.List.{flat_map}
use Rattle.round_inputs.specs.Begun.{begun_file}
use Rattle.round_inputs.proofs.Listings.{lent_file}
use Rattle.round_inputs.proofs.begun.push_files.Given as goal

abbrev pub invariant-loop-path : goal.invariant-loop-path
invariant-loop-path l = l.text.items ≡ l.initial.text.items ++ flat_map (λ file. begun_file (lent_file file)) l.yielded
