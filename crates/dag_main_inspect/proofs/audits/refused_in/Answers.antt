use Rattle.std.proofs.Common.{◌≡◌, Err, IfOk, string_bytes, sym, subst}
use Rattle.run_plan.specs.Plan.{Plan}
use Rattle.dag_main_inspect.specs.Audited.{audit_form_text}
use Rattle.dag_main_inspect.specs.declared.statuses.Form.{Form}
use Rattle.dag_main_inspect.proofs.audits.refused_in.Goals as goal

pub returns-in-Json : goal.returns-in-Json
returns-in-Json c =
    subst (λ (form : Form). IfOk c.refused_json.result (λ text. (plan : Plan) → string_bytes text ≡ audit_form_text form c.args.path.now plan (Err c.args.cause))) (sym c.in-Json.is)
    c.refused_json.ensures
