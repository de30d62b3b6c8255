use Rattle.std.proofs.Common.{◌≡◌, ◌∙◌, ap, arith}
use Rattle.run_plan.specs.Plan.{count_of}
use Rattle.serde_json.specs.View.{items_view}
use Rattle.fate_audit.specs.Fates.{fate_at}
use Rattle.dag_main_inspect.specs.AuditData.{fate_data, fates_data}
use Rattle.dag_main_inspect.proofs.StatusTexts.{next-node}
use Rattle.dag_main_inspect.proofs.audit_data.fates_of.Goals as goal

pub loop-node-init : goal.loop-node-init
loop-node-init c = ap items_view c.new-nodes.ensures.items

pub loop-node-preserved : goal.loop-node-preserved
loop-node-preserved c =
    next-node (fate_data c.args.plan.now (fate_at c.args.fates.now)) c.loop-node.node c.loop-node.nodes.items _ c.in_ok-fate_value.field-0 c.loop-node.invariant
    c.in_ok-fate_value.ensures c.in_ok-push.ensures.items

pub returns : goal.returns
returns c =
    let n : c.loop-node.node ≡ count_of c.args.plan.now = omega arith in
    c.loop-node.invariant ∙ ap (fates_data c.args.plan.now (fate_at c.args.fates.now)) n
