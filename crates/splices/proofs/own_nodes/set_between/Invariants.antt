use Rattle.std.proofs.Common.{◌≡◌}
use Rattle.splices.specs.NodeChanges.{changed_where, is_between, replaced_among, set_node}
use Rattle.splices.proofs.own_nodes.set_between.Given as goal

abbrev pub invariant-loop-place : goal.invariant-loop-place
invariant-loop-place l = record {
  nodes : changed_where (is_between l.from l.place) (set_node l.prefix l.command) 0 l.initial.nodes ≡ l.nodes;
  replaced : replaced_among (is_between l.from l.place) l.command l.initial.nodes ≡ l.replaced.items;
}
