use Rattle.submit_file.proofs.Places.{found_same}
use Rattle.submit_file.proofs.placed.placed_assignments.Goals as goal

pub returns-in-Ok-clause-same : goal.returns-in-Ok-clause-same
returns-in-Ok-clause-same c = λ pairs says. found_same c.args.text.now pairs c.place_lines.result says c.place_lines.ensures
