-- The text of the rescue file, where one is needed.
use Rattle.std.proofs.Common.{◌≡◌, ℕ, true, false, List, [], sym, ◌∙◌, append_assoc, ◌++◌, if◌then◌else◌}
use Rattle.run_plan.specs.Plan.{Plan}
use Rattle.node_machine.specs.declared.Record.{Record}
use Rattle.sched_core.specs.Run.{needs_rescue}
use Rattle.recovery_manager.specs.Rescue.{rescue_text_for}
use Rattle.status_report.specs.Text.{status_text_of, result_line, run_text}
use Rattle.dag_main_rehearse.specs.Report.{rescue_part, report_of}

pub needed : (plan : Plan) (past : List Record) (text : List ℕ) → needs_rescue plan past ≡ true → text ≡ rescue_text_for plan past → text ≡ rescue_part plan past
needed plan past text need e = e ∙ (λ j. if sym need j then rescue_text_for plan past else [])

pub not-needed : (plan : Plan) (past : List Record) (text : List ℕ) → needs_rescue plan past ≡ false → text ≡ [] → text ≡ rescue_part plan past
not-needed plan past text need e = e ∙ (λ j. if sym need j then rescue_text_for plan past else [])

-- the parts of a report, one after another
pub whole-report : (plan : Plan) (past : List Record) (status : ℕ) (run rescue text : List ℕ) → run ≡ run_text plan past status
    → rescue ≡ rescue_part plan past → text ≡ run ++ rescue → text ≡ report_of plan past status
whole-report plan past status run rescue text a b c =
    c ∙ (λ j. a j ++ b j) ∙ append_assoc (status_text_of plan past) (result_line status) (rescue_part plan past)
