use Rattle.std.proofs.Common.{ap, ◌∙◌, is_some}
use Rattle.std.proofs.lemmas.Result.{IfOk-weaker}
use Rattle.dag_main_check.proofs.Refusals.{weaker}
use Rattle.dag_main_files.proofs.RunFaults.{by-fault}
use Rattle.dagrun.specs.Answered.{IsRehearsalRefusalWith, table_refused, not_rehearsed}
use Rattle.dagrun.proofs.answers.rehearse.Goals as goal

pub returns-in_err-table-clause-refused : goal.returns-in_err-table-clause-refused
returns-in_err-table-clause-refused g c = by-fault (IsRehearsalRefusalWith _ _) c.in_err-table.field-0.0
    (table_refused c.in_err-table.ensures.refused.0 _ c.in_err-table.ensures.refused.1 c.in_err-table.ensures.refused.2) c.from_residual.result c.from_residual.ensures.1

pub returns-clause-answered : goal.returns-clause-answered
returns-clause-answered g c = IfOk-weaker c.rehearse_here.result _ _
    (λ answer is. record {
      table = _;
      is_named = ap is_some c.as_deref.ensures.value ∙ c.in_ok-table.ensures.named;
      rehearsed = is;
    })
    c.rehearse_here.ensures.report

pub returns-clause-held : goal.returns-clause-held
returns-clause-held g c = λ honest. IfOk-weaker c.rehearse_here.result _ _
    (λ answer is. record {
      table = _;
      is_named = ap is_some c.as_deref.ensures.value ∙ c.in_ok-table.ensures.named;
      rehearsed = is;
    })
    (c.rehearse_here.ensures.held honest)

pub returns-clause-refused : goal.returns-clause-refused
returns-clause-refused g c = weaker (IsRehearsalRefusalWith _ _) c.rehearse_here.result c.rehearse_here.ensures.refused
    (λ fault why. not_rehearsed _ fault (ap is_some c.as_deref.ensures.value ∙ c.in_ok-table.ensures.named) why)

pub returns-in_err-table-clause-refused_held : goal.returns-in_err-table-clause-refused_held
returns-in_err-table-clause-refused_held g c = λ honest. by-fault (IsRehearsalRefusalWith _ _) c.in_err-table.field-0.0
    (table_refused c.in_err-table.ensures.refused.0 _ c.in_err-table.ensures.refused.1 c.in_err-table.ensures.refused.2) c.from_residual.result c.from_residual.ensures.1

pub returns-clause-refused_held : goal.returns-clause-refused_held
returns-clause-refused_held g c = λ honest. weaker (IsRehearsalRefusalWith _ _) c.rehearse_here.result (c.rehearse_here.ensures.refused_held honest)
    (λ fault why. not_rehearsed _ fault (ap is_some c.as_deref.ensures.value ∙ c.in_ok-table.ensures.named) why)
