use Rattle.std.proofs.Common.{◌≡◌}
use Rattle.serde_json.specs.View.{items_view}
use Rattle.fate_audit.specs.Fates.{fate_at}
use Rattle.dag_main_inspect.specs.AuditData.{fates_data}
use Rattle.dag_main_inspect.proofs.audit_data.fates_of.Given as goal

abbrev pub invariant-loop-node : goal.invariant-loop-node
invariant-loop-node l = items_view l.nodes.items ≡ fates_data l.plan (fate_at l.fates) l.node
