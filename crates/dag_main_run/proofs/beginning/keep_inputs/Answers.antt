use Rattle.std.proofs.Common.{true, [], ℕ, List, Bor, sym, append-nil}
use Rattle.std.specs.Option.{option_map}
use Rattle.splices_flat.specs.FileSet.{entries_of}
use Rattle.dag_main_files.proofs.Makes.{some-none}
use Rattle.dag_main_run.specs.RunChanges.{keeps}
use Rattle.dag_main_run.proofs.beginning.keep_inputs.Goals as goal

pub returns-in-Unfinished-clause-changes : goal.returns-in-Unfinished-clause-changes
returns-in-Unfinished-clause-changes g c = (
  true,
  [],
  some-none (keeps c.args.round.now.journal true c.args.place.now.top.now c.args.plan.now.digest (entries_of c.args.inputs.files.now) c.args.round.now.used (option_map (λ (b : Bor (List ℕ)). b.now) c.args.inputs.rescue)),
  sym (append-nil c.args.changes.now),
)
