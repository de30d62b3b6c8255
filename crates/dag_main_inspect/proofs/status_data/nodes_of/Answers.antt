use Rattle.std.proofs.Common.{◌≡◌, ◌∙◌, ap, arith}
use Rattle.status_report.specs.Text.{reported}
use Rattle.serde_json.specs.View.{items_view}
use Rattle.dag_main_inspect.specs.StatusData.{node_data, nodes_data}
use Rattle.dag_main_inspect.proofs.StatusTexts.{next-node}
use Rattle.dag_main_inspect.proofs.status_data.nodes_of.Goals as goal

pub loop-node-init : goal.loop-node-init
loop-node-init c = ap items_view c.new-nodes.ensures.items

pub loop-node-preserved : goal.loop-node-preserved
loop-node-preserved c =
    next-node (node_data c.args.core.now.plan c.args.core.now.past) c.loop-node.node c.loop-node.nodes.items _ c.in_ok-node_of.field-0 c.loop-node.invariant c.in_ok-node_of.ensures
    c.in_ok-push.ensures.items

pub returns : goal.returns
returns c =
    let e = c.reported-node-end.ensures.is in
    let f = c.reported-node-end.ensures.few in
    let n : c.loop-node.node ≡ reported c.args.core.now.plan = omega arith in
    c.loop-node.invariant ∙ ap (nodes_data c.args.core.now.plan c.args.core.now.past) n
