use Rattle.std.proofs.Common.{◌∙◌, List, Ok, ap}
use Rattle.sched_core.specs.Fate.{Fate}
use Rattle.dag_main_inspect.specs.Audited.{audit_form_text}
use Rattle.dag_main_inspect.proofs.AuditTexts.{passes, fails}
use Rattle.dag_main_inspect.proofs.audits.audit_bytes.Goals as goal

pub returns-in_ok-passed_in-in-Ok-clause-says : goal.returns-in_ok-passed_in-in-Ok-clause-says
returns-in_ok-passed_in-in-Ok-clause-says c =
    let text_of = audit_form_text c.args.form c.args.path.now in
    passes text_of c.args.plan.now c.args.bytes.now c.in-Ok.fates.items c.in-Ok.ensures.fates _
    (c.in_ok-passed_in-in-Ok.ensures ∙ ap (λ (fates : List Fate). text_of c.args.plan.now (Ok fates)) c.deref.ensures.value)

pub returns-in_ok-refused_in-in_default : goal.returns-in_ok-refused_in-in_default
returns-in_ok-refused_in-in_default c = record {
  says = fails (audit_form_text c.args.form c.args.path.now) c.args.plan.now c.args.bytes.now c.in-Err.cause c.in_default.not-Memory c.in-Err.ensures.refused _
      (c.in_ok-refused_in-in_default.ensures c.args.plan.now);
  err = tt;
}
