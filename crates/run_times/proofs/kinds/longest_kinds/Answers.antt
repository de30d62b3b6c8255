use Rattle.std.proofs.Common.{◌≤◌, length, ap, ◌∙◌, arith}
use Rattle.std.proofs.lemmas.List.{length_push}
use Rattle.run_times.specs.declared.kinds.TheConstants.{MOST}
use Rattle.run_times.proofs.LongestKinds.{kinds-more}
use Rattle.run_times.proofs.kinds.longest_kinds.Goals as goal

pub loop-totals-preserved : goal.loop-totals-preserved
loop-totals-preserved c =
    let few : length c.push.new.self.items ≤ MOST
    = let more = ap length c.in_ok-push-in-Some.ensures.items ∙ length_push c.loop-totals.kinds.items c.in-Some.kind in
    let ok = c.loop-totals.kinds.ok in
    omega (arith, more, ok, c.len.ensures, c.loop-totals-test.true) in
    record {
      few = few;
      are = kinds-more c.args.graph.now c.args.runs.now (length c.args.runs.now) c.loop-totals.kinds.items c.deref.result.now c.push.new.self.items c.in-Some.kind
          c.in_ok-push-in-Some.ensures.items c.deref.ensures.value c.in-Some.ensures c.loop-totals.invariant.are;
    }
