-- What a graph answers, and why there is none.
use Rattle.std.proofs.Common.{◌≡◌, ◌⊎◌, inl, inr, ℕ, List, Some, None, Result, Ok, Err, IfOk, string_bytes, true, ◌∙◌, refl, sym, ap, subst}
use Rattle.std.proofs.lemmas.Bool.{false≢true}
use Rattle.run_plan.specs.Plan.{Plan}
use Rattle.node_machine.specs.declared.Record.{Record}
use Rattle.sched_core.specs.Core.{Progress}
use Rattle.sched_core.specs.Run.{chronological, is_lawful}
use Rattle.event_journal_log.specs.declared.fault.JournalFault.TheVariants as journal
use Rattle.recovery_manager.specs.Inputs.{replay_by}
use Rattle.graph_text.specs.Picture.{unknown, known}
use Rattle.dag_main_check.specs.Warnings.{warning_lines}
use Rattle.dag_main_check.specs.declared.fault.RunFault.{RunFault}
use Rattle.dag_main_check.specs.declared.fault.RunFault.TheVariants.{Memory}
use Rattle.dag_main_check.specs.declared.warnings.Answer.{Answer}
use Rattle.dag_main_inspect.specs.Statused.{records_read, records_in_bytes, IsRecordsFault, no_journal, foreign_record, reading_had_no_memory}
use Rattle.dag_main_inspect.specs.declared.graphs.Shape.{Shape}
use Rattle.dag_main_inspect.specs.Drawn.{IsDrawnText, IsPicture, of_run, of_others, of_other_flag, tells_of_others, IsJournalDrawnFault, no_records, drawing_had_no_memory}

-- the picture by a journal
module _ (plan : Plan) (bytes : List ℕ) where
  pub drawn-memory : (fault : RunFault) → fault ≡ Memory → IsJournalDrawnFault plan bytes fault
  drawn-memory fault is = subst (IsJournalDrawnFault plan bytes) (sym is) drawing_had_no_memory

  pub others : (fault : RunFault) → IsRecordsFault plan bytes fault → tells_of_others fault ≡ true
      → (replay_by plan bytes ≡ Err journal.OtherInputs) ⊎ (replay_by plan bytes ≡ Err journal.OtherFlag)
  others _ (no_journal journal.Memory is) answered = absurd (false≢true answered)
  others _ (no_journal journal.Device is) answered = absurd (false≢true answered)
  others _ (no_journal journal.DiskFull is) answered = absurd (false≢true answered)
  others _ (no_journal journal.NotAJournal is) answered = absurd (false≢true answered)
  others _ (no_journal (journal.Version v) is) answered = absurd (false≢true answered)
  others _ (no_journal journal.OtherInputs is) answered = inl is
  others _ (no_journal journal.OtherFlag is) answered = inr is
  others _ (no_journal journal.SlotsFull is) answered = absurd (false≢true answered)
  others _ (no_journal journal.Broken is) answered = absurd (false≢true answered)
  others _ (no_journal (journal.BadSlot slot) is) answered = absurd (false≢true answered)
  others _ (foreign_record slot first) answered = absurd (false≢true answered)
  others _ reading_had_no_memory answered = absurd (false≢true answered)

  pub other-picture : (shape : Shape) → (replay_by plan bytes ≡ Err journal.OtherInputs) ⊎ (replay_by plan bytes ≡ Err journal.OtherFlag) → (answer : Result Answer RunFault)
      → IfOk answer (λ (a : Answer). IsDrawnText shape plan unknown (string_bytes a.text)) → IfOk answer (λ (a : Answer). IsPicture shape plan bytes (string_bytes a.text))
  other-picture shape (inl other) (Ok a) text = of_others (string_bytes a.text) other text
  other-picture shape (inr other) (Ok a) text = of_other_flag (string_bytes a.text) other text
  other-picture shape other (Err fault) text = tt

  pub run-picture : (shape : Shape) (records : List Record) (core : Progress) → records_in_bytes plan bytes ≡ Some records → core.plan ≡ plan → records ≡ chronological core.past
      → is_lawful core.plan core.past ≡ true → (answer : Result Answer RunFault)
      → IfOk answer (λ (a : Answer). IsDrawnText shape core.plan (known core.plan core.past) (string_bytes a.text))
      → IfOk answer (λ (a : Answer). IsPicture shape plan bytes (string_bytes a.text))
  run-picture shape records core are p r lawful (Ok a) text =
      of_run core.past (string_bytes a.text) (are ∙ ap (λ (rs : List Record). Some rs) r) (subst (λ (q : Plan). is_lawful q core.past ≡ true) p lawful)
      (subst (λ (q : Plan). IsDrawnText shape q (known q core.past) (string_bytes a.text)) p text)
  run-picture shape records core are p r lawful (Err fault) text = tt

  pub run-warnings : (core : Progress) → core.plan ≡ plan → (answer : Result Answer RunFault)
      → IfOk answer (λ (a : Answer). string_bytes a.warnings ≡ warning_lines core.plan.graph.dag.warnings)
      → IfOk answer (λ (a : Answer). string_bytes a.warnings ≡ warning_lines plan.graph.dag.warnings)
  run-warnings core p (Ok a) warnings = warnings ∙ (λ j. warning_lines (p j).graph.dag.warnings)
  run-warnings core p (Err fault) warnings = tt

  -- bytes that have records are no journal of other files
  pub records-refused : (records : List Record) → records_in_bytes plan bytes ≡ Some records → (fault : RunFault) → IsRecordsFault plan bytes fault
      → IsJournalDrawnFault plan bytes fault
  records-refused records are _ (no_journal fault is) = let none : None ≡ Some records = sym (ap records_read is) ∙ are in absurd cc
  records-refused records are _ (foreign_record slot first) = no_records _ refl (foreign_record slot first)
  records-refused records are _ reading_had_no_memory = drawing_had_no_memory
