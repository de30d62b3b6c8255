-- What an audit prints.
use Rattle.std.proofs.Common.{◌≡◌, ◌≢◌, ℕ, List, Result, Ok, Err, sym, subst}
use Rattle.run_plan.specs.Plan.{Plan}
use Rattle.sched_core.specs.Fate.{Fate}
use Rattle.fate_audit.specs.Audit.{IsAuditOf, IsAuditNo}
use Rattle.fate_audit.specs.declared.fault.AuditNo.{AuditNo}
use Rattle.fate_audit.specs.declared.fault.AuditNo.TheVariants as audit_no
use Rattle.dag_main_inspect.specs.Audited.{IsAuditText, passed, not_passed}

module _ (text_of : Plan → Result (List Fate) AuditNo → List ℕ) (plan : Plan) (bytes : List ℕ) where
  pub passes : (fates : List Fate) → IsAuditOf plan bytes fates → (text : List ℕ) → text ≡ text_of plan (Ok fates) → IsAuditText text_of plan bytes text 0
  passes fates is text e = subst (λ (t : List ℕ). IsAuditText text_of plan bytes t 0) (sym e) (passed fates is)

  pub fails : (cause : AuditNo) → cause ≢ audit_no.Memory → IsAuditNo plan bytes cause → (text : List ℕ) → text ≡ text_of plan (Err cause)
      → IsAuditText text_of plan bytes text 1
  fails cause ne is text e = subst (λ (t : List ℕ). IsAuditText text_of plan bytes t 1) (sym e) (not_passed cause ne is)
