-- What `audit` prints.
use Rattle.std.specs.Prelude.{◌≢◌, ℕ, List, ◌++◌, Result, Ok, Err, codes}
use Rattle.run_plan.specs.Plan.{Plan, count_of}
use Rattle.sched_core.specs.Fate.{Fate}
use Rattle.status_report.specs.Text.{fate_lines}
use Rattle.fate_audit.specs.Fates.{fate_at}
use Rattle.fate_audit.specs.Audit.{IsAuditOf, IsAuditNo, no_text}
use Rattle.fate_audit.specs.declared.fault.AuditNo.{AuditNo}
use Rattle.fate_audit.specs.declared.fault.AuditNo.TheVariants as audit_no
use Rattle.dag_main_inspect.specs.AuditData.{audit_json_of}
use Rattle.dag_main_inspect.specs.declared.statuses.Form.{Form}
use Rattle.dag_main_inspect.specs.declared.statuses.Form.TheVariants.{Lines, Json}

-- the lines of the fates of the ordinary nodes, and that the journal stands for them
abbrev pub passed_text : Plan → List Fate → List ℕ
passed_text plan fates = fate_lines plan (fate_at fates) (count_of plan) ++ codes "audit ok\n"

-- why it stands for none
abbrev pub refused_text : AuditNo → List ℕ
refused_text cause = codes "audit no " ++ (no_text cause ++ codes "\n")

-- the text of an audit that gave these fates, or this cause
abbrev pub audit_text_of : Plan → Result (List Fate) AuditNo → List ℕ
audit_text_of plan (Ok fates) = passed_text plan fates
audit_text_of plan (Err cause) = refused_text cause

-- the text of an audit in a form, where the DAG file has this path: the lines, or their JSON
abbrev pub audit_form_text : Form → List ℕ → Plan → Result (List Fate) AuditNo → List ℕ
audit_form_text Lines path = audit_text_of
audit_form_text Json path = audit_json_of path

-- The text that is made so of the audit of a journal that has these bytes, and the exit status: of the fates, with 0; or of the cause why there are
-- none, with 1.
pub data IsAuditText (text_of : Plan → Result (List Fate) AuditNo → List ℕ) (plan : Plan) (bytes : List ℕ) : List ℕ → ℕ → Type 0 where
  passed : (fates : List Fate) → IsAuditOf plan bytes fates → IsAuditText text_of plan bytes (text_of plan (Ok fates)) 0
  not_passed : (cause : AuditNo) → cause ≢ audit_no.Memory → IsAuditNo plan bytes cause → IsAuditText text_of plan bytes (text_of plan (Err cause)) 1
