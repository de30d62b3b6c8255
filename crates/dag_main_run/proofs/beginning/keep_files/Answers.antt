use Rattle.std.proofs.Common.{◌∙◌, true, [], ℕ, List, Bor, sym, append-nil}
use Rattle.std.specs.Option.{option_map}
use Rattle.splices_flat.specs.FileSet.{entries_of}
use Rattle.round_inputs.specs.KeptInputs.{keeps_files}
use Rattle.dag_main_files.proofs.Makes.{some-all, some-none}
use Rattle.dag_main_run.proofs.beginning.keep_files.Goals as goal
use Rattle.dag_main_run.proofs.beginning.keep_files.Goals.{in-Ok, in-Err}

pub returns : goal.returns
returns g c =
    let rescue = option_map (λ (b : Bor (List ℕ)). b.now) c.args.rescue in
    let files = entries_of c.args.files.now in
    elim c.match-write_begun.branch [
      | in-Ok w ↦
          let whole = keeps_files w.in-Ok.is_kept c.args.place.now.top.now c.args.digest.now files c.args.used rescue in
          (w.in-Ok.is_kept, whole, some-all whole, w.in-Ok.ensures.changes)
      | in-Err w ↦
          let whole = keeps_files true c.args.place.now.top.now c.args.digest.now files c.args.used rescue in
          (true, [], some-none whole, w.in-Err.ensures.no_change ∙ sym (append-nil c.args.changes.now))
    ]
