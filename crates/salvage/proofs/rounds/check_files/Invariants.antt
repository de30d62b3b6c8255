use Rattle.std.specs.Prelude.{All}
use Rattle.salvage.specs.Round.{IsSame}
use Rattle.round_inputs.proofs.Listings.{lent_file}
use Rattle.salvage.proofs.rounds.check_files.Given as goal

abbrev pub invariant-loop-path : goal.invariant-loop-path
invariant-loop-path l = All (λ file. IsSame l.inputs.files.items (lent_file file)) l.yielded
