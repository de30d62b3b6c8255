use Rattle.std.proofs.Common.{sym}
use Rattle.std.proofs.lemmas.List.{drop_all}
use Rattle.file_hints.proofs.Clashing.{one_more, none_more}
use Rattle.file_hints.proofs.outputs.clashes.Goals as goal

pub loop-at-preserved : goal.loop-at-preserved
loop-at-preserved c =
    one_more c.args.graph.now.dag.edges c.args.writers.now c.loop-at.at c.index-writers-at.result c.loop-at.found.items c.push_clash.new.found.items c.loop-at-test.true (sym c.index-writers-at.is) c.in_ok-push_clash.ensures.found c.loop-at.invariant

pub returns-clause-found : goal.returns-clause-found
returns-clause-found c =
    none_more c.args.graph.now.dag.edges c.args.writers.now c.loop-at.at c.loop-at.found.items (drop_all c.loop-at.at c.args.writers.now c.loop-at-test.false) c.loop-at.invariant
