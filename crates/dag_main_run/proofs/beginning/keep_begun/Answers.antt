use Rattle.std.proofs.Common.{◌≡◌, ◌++◌, true, [], ℕ, List, Bor, sym, append-nil}
use Rattle.std.specs.Option.{option_map}
use Rattle.splices_flat.specs.FileSet.{entries_of}
use Rattle.dag_main_check.specs.declared.fault.RunFault.TheVariants.{Memory}
use Rattle.dag_main_files.proofs.RunFaults.{by-fault}
use Rattle.dag_main_files.proofs.Makes.{some-none, some-after, made-after}
use Rattle.round_inputs.specs.KeptInputs.{keeps_sums, keeps_files}
use Rattle.dag_main_run.proofs.beginning.keep_begun.Goals as goal

pub returns-in_err-keep_sums-clause-err : goal.returns-in_err-keep_sums-clause-err
returns-in_err-keep_sums-clause-err g c =
    by-fault (λ fault. fault ≡ Memory) c.in_err-keep_sums.field-0.0 c.in_err-keep_sums.ensures.err c.from_residual.result c.from_residual.ensures.1

pub returns-in_err-keep_sums-clause-changes : goal.returns-in_err-keep_sums-clause-changes
returns-in_err-keep_sums-clause-changes g c =
    let kept = c.in_err-keep_sums.ensures.changes in
    let rescue = option_map (λ (b : Bor (List ℕ)). b.now) c.args.rescue in
    let sums = keeps_sums c.args.place.now.top.now c.args.digest.now (entries_of c.args.files.now) c.args.used rescue in
    let files = keeps_files true c.args.place.now.top.now c.args.digest.now (entries_of c.args.files.now) c.args.used rescue in (
      true,
      kept.0 ++ [],
      some-after sums kept.0 files [] kept.1 (some-none files),
      made-after kept.0 [] c.args.changes.now c.keep_sums.new.changes c.keep_sums.new.changes kept.2 (sym (append-nil c.keep_sums.new.changes)),
    )

pub returns-clause-changes : goal.returns-clause-changes
returns-clause-changes g c =
    let kept = c.in_ok-keep_sums.ensures.changes in
    let more = c.keep_files.ensures in
    let rescue = option_map (λ (b : Bor (List ℕ)). b.now) c.args.rescue in
    let sums = keeps_sums c.args.place.now.top.now c.args.digest.now (entries_of c.args.files.now) c.args.used rescue in
    let files = keeps_files more.0 c.args.place.now.top.now c.args.digest.now (entries_of c.args.files.now) c.args.used rescue in (
      more.0,
      kept.0 ++ more.1,
      some-after sums kept.0 files more.1 kept.1 more.2,
      made-after kept.0 more.1 c.args.changes.now c.keep_sums.new.changes c.keep_files.new.changes kept.2 more.3,
    )
