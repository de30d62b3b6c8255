use Rattle.std.proofs.Common.{ℕ, List, map, take_all, subst, ap, ◌∙◌, arith}
use Rattle.std.specs.Prelude.{IsPermutation}
use Rattle.std.proofs.lemmas.List.Sorted.{IsNonDecreasingBy-from_sort}
use Rattle.run_times.specs.declared.runs.PhaseRun.{PhaseRun}
use Rattle.run_times.proofs.load.begins_of.Goals as goal

pub returns : goal.returns
returns c = record {
  same = subst (λ (times : List ℕ). IsPermutation times c.sort.new.self.items)
      (c.loop-run.invariant ∙ ap (map (λ (run : PhaseRun). run.begun)) (take_all c.loop-run.run-index c.args.runs.now (omega (arith, c.loop-run-test.false)))) c.sort.ensures.permutation;
  in_order = IsNonDecreasingBy-from_sort (λ one. one) c.sort.new.self.items c.in_ok-sort.ensures.sorted;
}
