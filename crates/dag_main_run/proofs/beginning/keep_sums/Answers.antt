use Rattle.std.proofs.Common.{ℕ, List, Bor}
use Rattle.std.specs.Option.{option_map}
use Rattle.splices_flat.specs.FileSet.{entries_of}
use Rattle.round_inputs.specs.KeptInputs.{keeps_sums}
use Rattle.dag_main_run.proofs.RunChanges.{some-of-call, none-made}
use Rattle.dag_main_run.proofs.beginning.keep_sums.Goals as goal

pub returns-in-Err-Memory-clause-changes : goal.returns-in-Err-Memory-clause-changes
returns-in-Err-Memory-clause-changes g c =
    none-made (keeps_sums c.args.place.now.top.now c.args.digest.now (entries_of c.args.files.now) c.args.used (option_map (λ (b : Bor (List ℕ)). b.now) c.args.rescue))
    c.args.changes.now c.write_inputs.new.changes c.in-Err-Memory.ensures.no_change

pub returns-clause-changes : goal.returns-clause-changes
returns-clause-changes g c =
    some-of-call c.write_inputs.result
    (keeps_sums c.args.place.now.top.now c.args.digest.now (entries_of c.args.files.now) c.args.used (option_map (λ (b : Bor (List ℕ)). b.now) c.args.rescue))
    c.args.changes.now c.write_inputs.new.changes c.write_inputs.ensures.changes c.write_inputs.ensures.no_change
