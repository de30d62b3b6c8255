use Rattle.std.proofs.Common.{◌≡◌, map}
use Rattle.round_inputs.specs.Inputs.{listed_of}
use Rattle.round_inputs.proofs.Listings.{lent_file}
use Rattle.round_inputs.proofs.inputs.listed_files.Given as goal

abbrev pub invariant-loop-path : goal.invariant-loop-path
invariant-loop-path l = l.found.items ≡ map (λ file. listed_of (lent_file file)) l.yielded
