use Rattle.std.proofs.Common.{◌+◌, Option, sym, subst}
use Rattle.std.proofs.lemmas.Option.{slice_get-get_or}
use Rattle.run_times.specs.declared.kinds.Kind.{Kind}
use Rattle.run_times.specs.Kinds.{IsLongestBesides}
use Rattle.run_times.specs.Totals.{total_in}
use Rattle.run_times.proofs.LongestKinds.{longest-more}
use Rattle.run_times.proofs.kinds.longest_besides.Goals as goal

pub loop-run-preserved : goal.loop-run-preserved
loop-run-preserved c =
    subst (λ (longest : Option Kind). IsLongestBesides c.args.graph.now c.args.runs.now (c.loop-run.run-index + 1) c.args.kinds.now longest) (sym c.longest_with-longest.ensures)
    (longest-more c.args.graph.now c.args.runs.now c.loop-run.run-index c.args.kinds.now _ c.kind_of-name.result (total_in c.args.totals.now c.kind_of-name.result.now)
    (slice_get-get_or c.args.runs.now c.loop-run.run-index _ c.loop-run-test.true) c.kind_of-name.ensures (c.requires c.kind_of-name.result.now) c.loop-run.longest c.loop-run.invariant)
