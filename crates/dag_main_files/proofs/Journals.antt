-- Which round a journal makes of a run.
use Rattle.std.proofs.Common.{◌≡◌, ℕ, List, Bool, true, false, Option, Some, None, Result, Ok, Err, IfOk, IfErr, refl, sym, subst, ◌∙◌}
use Rattle.event_journal_log.specs.declared.fault.JournalFault.{JournalFault}
use Rattle.event_journal_log.specs.declared.fault.JournalFault.TheVariants as faults
use Rattle.event_journal_log.specs.declared.decoded.Peek.{Peek}
use Rattle.event_journal_log.specs.Image.{Found, replay_of}
use Rattle.event_journal_log.specs.Journal.{IsReadFault, read_failed, read_had_no_memory, reads_no_journal, reads_version, reads_other_inputs, reads_other_flag, reads_bad_slot}
use Rattle.event_journal_log.specs.Peeks.{ends_with_finish, ReadsPeek}
use Rattle.event_journal_log.specs.Reading.{FailsAs}
use Rattle.dag_main_files.specs.declared.rounds.Journaled.TheVariants as journals
use Rattle.dag_main_files.specs.declared.rounds.Round.{Round}
use Rattle.splices_flat.specs.Opening.{Files}
use Rattle.dag_main_check.specs.declared.fault.RunFault.{RunFault}
use Rattle.dag_main_check.specs.declared.fault.RunFault.TheVariants.{Unfinished}
use Rattle.rescue_file.specs.Numbered.{IsFileNumber}
use Rattle.dag_main_files.specs.Folder.{journal_in, IsRoundFrom, IsUnfinishedHeld, IsBadHeader, IsRoundFaultHeld, held_not_ended, held_bad_header}
use Rattle.dag_main_files.specs.Beside.{goes_on, GoesOnBy, IsRoundFound, HasJournal, IsJournalFault, journal_refused, peeking_had_no_memory}
use Rattle.dag_main_files.specs.Journals.{read_fault, IsUnread, bad_journal, reading_had_no_memory}

module _ (read : Result (Option Found) JournalFault) (round : Round) where
  pub of-none : ReadsPeek None read → round.journal ≡ journals.Nothing → HasJournal read round
  of-none is nothing = subst (λ r. HasJournal r round) (sym is) nothing

  pub of-finished : (peek : Peek) → ReadsPeek (Some peek) read → peek.finished ≡ true → round.journal ≡ journals.Finished → HasJournal read round
  of-finished peek (found, is, used, next, flag, ended) over finished =
      subst (λ r. HasJournal r round) (sym is) (subst (λ b. IsRoundFound b found round) (sym (ended ∙ over)) finished)

  pub of-unfinished : (peek : Peek) → ReadsPeek (Some peek) read → peek.finished ≡ false → GoesOnBy peek.used peek.next peek.always_post round → HasJournal read round
  of-unfinished peek (found, is, used, next, flag, ended) unended header =
      subst (λ r. HasJournal r round) (sym is) (subst (λ b. IsRoundFound b found round) (sym (ended ∙ unended))
      (record { goes_on_is = header.goes_on_is; used_is = header.used_is ∙ sym used; next_is = header.next_is ∙ sym next; flag_is = header.flag_is ∙ sym flag }))

-- a journal that can't be read
pub unread : (journal : List ℕ) (fault : JournalFault) → FailsAs fault (replay_of journal) → IsUnread journal (read_fault fault)
unread journal faults.Memory is = reading_had_no_memory
unread journal faults.Device is = absurd is
unread journal faults.DiskFull is = absurd is
unread journal faults.NotAJournal is = bad_journal faults.NotAJournal is
unread journal (faults.Version v) is = bad_journal (faults.Version v) is
unread journal faults.OtherInputs is = bad_journal faults.OtherInputs is
unread journal faults.OtherFlag is = bad_journal faults.OtherFlag is
unread journal faults.SlotsFull is = absurd is
unread journal faults.Broken is = absurd is
unread journal (faults.BadSlot slot) is = bad_journal (faults.BadSlot slot) is

-- its fault is one of a journal, or memory ran out
pub of-journal : (top : List ℕ) (fault : JournalFault) → IsReadFault fault → IsJournalFault top (read_fault fault)
of-journal top _ read_had_no_memory = peeking_had_no_memory
of-journal top _ read_failed = journal_refused faults.Device read_failed
of-journal top _ reads_no_journal = journal_refused faults.NotAJournal reads_no_journal
of-journal top _ (reads_version v) = journal_refused (faults.Version v) (reads_version v)
of-journal top _ reads_other_inputs = journal_refused faults.OtherInputs reads_other_inputs
of-journal top _ reads_other_flag = journal_refused faults.OtherFlag reads_other_flag
of-journal top _ (reads_bad_slot slot) = journal_refused (faults.BadSlot slot) (reads_bad_slot slot)

-- a round that goes on is the one that is found where a journal is held that has not ended
pub goes-on : (holds : Files) (has : List ℕ → Bool) (top : List ℕ) (autorescue always_post : Bool) (peek : Peek) (result : Result Round RunFault)
    → ReadsPeek (Some peek) (journal_in holds top) → peek.finished ≡ false → IfOk result (GoesOnBy peek.used peek.next peek.always_post)
    → IfOk result (λ round. round.goes_back ≡ false) → IfOk result (IsRoundFrom holds has top autorescue None always_post)
goes-on holds has top autorescue always_post peek (Ok round) reads unended header ahead = record {
  by_highest = goes_on refl header.goes_on_is ahead;
  by_journal = of-unfinished (journal_in holds top) round peek reads unended header;
}
goes-on holds has top autorescue always_post peek (Err fault) reads unended header ahead = tt

-- a journal of a run that has not ended refuses a round that is to go back, and one that is to go on by a bad header
module _ (holds : Files) (has : List ℕ → Bool) (top : List ℕ) (peek : Peek) (reads : ReadsPeek (Some peek) (journal_in holds top)) (unended : peek.finished ≡ false) where
  unended-held : (found : Found) → journal_in holds top ≡ Ok (Some found) → ends_with_finish found.records ≡ peek.finished → IsUnfinishedHeld holds top found
  unended-held found is ended = record { reads = is; not_over = ended ∙ unended }

  pub unfinished-held : (number : ℕ) → IsFileNumber number → IsRoundFaultHeld holds has top (Some number) Unfinished
  unfinished-held number is = held_not_ended number reads.0 refl is (unended-held reads.0 reads.1 reads.5)

  pub bad-header : {A : Type 0} (r : Result A RunFault) → IfErr r (IsBadHeader peek.used peek.next) → IfErr r (IsRoundFaultHeld holds has top None)
  bad-header (Ok round) bad = tt
  bad-header (Err fault) bad = held_bad_header reads.0 fault refl (unended-held reads.0 reads.1 reads.5)
      (subst (λ (used : ℕ). IsBadHeader used reads.0.header.next fault) (sym reads.2) (subst (λ (next : ℕ). IsBadHeader peek.used next fault) (sym reads.3) bad))
