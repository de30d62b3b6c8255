-- The bytes of a journal have one answer.
use Rattle.std.proofs.Common.{◌≡◌, ◌≢◌, ℕ, ◌+◌, ◌<◌, Bool, true, false, List, [], ◌∷◌, take, drop, reverse, Option, Some, None, unwrap_or, Result, Ok, Err, IfErr, refl, sym, ap, ◌∙◌, subst, arith}
use Rattle.std.specs.Prelude.{slice_get, IsErrAnd}
use Rattle.std.proofs.lemmas.Bool.{and_parts, and_from, false≢true}
use Rattle.std.proofs.lemmas.List.{reverse-append, reverse-reverse, take-append-drop, take_more, take-take}
use Rattle.std.proofs.lemmas.Option.{slice_get_within, unwrap_or-slice_get}
use Rattle.run_plan.specs.Plan.{Plan, IsRankedBy}
use Rattle.node_machine.specs.declared.Record.{Record}
use Rattle.sched_core.specs.Run.{chronological, table_of, is_lawful, is_over, is_finished, is_aborted, may_follow}
use Rattle.sched_core.specs.Fate.{Fate}
use Rattle.sched_core.proofs.LivesLemmas.{lawful-tail}
use Rattle.sched_core.proofs.Finished.{lawful_part}
use Rattle.event_journal_log.specs.declared.fault.JournalFault.{JournalFault}
use Rattle.event_journal_log.specs.Groups.{slot_at, IsSlotAt}
use Rattle.event_journal_log.specs.Image.{Header, Found, groups_in}
use Rattle.event_journal_log.specs.Journal.{Replay}
use Rattle.event_journal_log.specs.Reading.{FailsAs, ReadsRecords, replay_for}
use Rattle.event_journal_log.specs.declared.fault.JournalFault.TheVariants as journal
use Rattle.recovery.specs.Replay.{IsFirstForeign, IsForeignSlot, IsReplayFault}
use Rattle.recovery.proofs.Slots.{first_at, foreign_in}
use Rattle.recovery_manager.specs.declared.fault.ManagerFault.TheVariants as manager
use Rattle.recovery_manager.specs.Inputs.{replay_by}
use Rattle.fate_audit.specs.Fates.{AreFatesOf}
use Rattle.fate_audit.specs.Shown.{AreShown}
use Rattle.fate_audit.specs.Audit.{HasNoRecords, IsJournalOf, AreSound, IsAuditOf, IsAuditNo, no_journal, foreign_record, no_finish, had_abort, no_memory, no_of}
use Rattle.fate_audit.proofs.Lists.{shown-fates, only-list}
use Rattle.fate_audit.specs.declared.fault.AuditNo.{AuditNo}
use Rattle.fate_audit.specs.declared.fault.AuditNo.TheVariants.{NotAJournal, NotARun, Unfinished, Memory, Aborted}

-- A record that is refused spoils the list.
-- what is lawful as a whole is lawful up to each place
lawful-take : (plan : Plan) (records : List Record) (k : ℕ) → is_lawful plan (reverse records) ≡ true → is_lawful plan (reverse (take k records)) ≡ true
lawful-take plan records k h =
    lawful-tail plan (reverse (drop k records)) (reverse (take k records))
    (subst (λ (t : List Record). is_lawful plan t ≡ true)
    (ap reverse (sym (take-append-drop k records)) ∙ reverse-append (take k records) (drop k records)) h)

-- the records up to a place and the one there
one-more : (records : List Record) (k : ℕ) (entry : Record) → slice_get records k ≡ Some entry
    → reverse (take (k + 1) records) ≡ entry ∷ reverse (take k records)
one-more records k entry is =
    ap reverse (take_more records k entry (slice_get_within records k entry is))
    ∙ reverse-append (take k records) (_ ∷ [])
    ∙ ap (λ (e : Record). e ∷ reverse (take k records)) (sym (unwrap_or-slice_get records k entry) ∙ ap (λ o. unwrap_or o entry) is)

-- what is written and turned once more
turned : (past records : List Record) → records ≡ chronological past → past ≡ reverse records
turned past records is = sym (reverse-reverse past) ∙ ap reverse (sym is)

foreign-bad : (plan : Plan) (records : List Record) (place : ℕ) → IsFirstForeign plan records place → (k : ℕ) → place < k
    → is_lawful plan (reverse (take k records)) ≡ true → ⊥
foreign-bad plan records place is k lt h =
    let upto : is_lawful plan (reverse (take (place + 1) records)) ≡ true =
    subst (λ (t : List Record). is_lawful plan (reverse t) ≡ true) (take-take (place + 1) k records (omega arith)) (lawful-take plan (take k records) (place + 1) h) in
    let both : is_lawful plan (is.entry ∷ reverse (take place records)) ≡ true = subst (λ (t : List Record). is_lawful plan t ≡ true) (one-more records place is.entry is.is) upto in
    let follows : may_follow plan (reverse (take place records)) is.entry ≡ true = (and_parts (is_lawful plan (reverse (take place records))) _ both).1 in
    false≢true (sym is.refused ∙ ap (λ (t : List Record). may_follow plan t is.entry) (turned is.past (take place records) is.before) ∙ follows)

foreign-whole : (plan : Plan) (records past : List Record) (place : ℕ) → IsFirstForeign plan records place → records ≡ chronological past
    → is_lawful plan past ≡ true → ⊥
foreign-whole plan records past place is same h =
    foreign-bad plan records place is (place + 1) (omega arith)
    (lawful-take plan records (place + 1) (subst (λ (t : List Record). is_lawful plan t ≡ true) (turned past records same) h))

foreign-one : (plan : Plan) (records : List Record) (place other : ℕ) → IsFirstForeign plan records place → IsFirstForeign plan records other → place ≡ other
foreign-one plan records place other is is' =
    let before : is_lawful plan (reverse (take place records)) ≡ true =
    subst (λ (t : List Record). is_lawful plan t ≡ true) (turned is.past (take place records) is.before) is.lawful in
    let before' : is_lawful plan (reverse (take other records)) ≡ true =
    subst (λ (t : List Record). is_lawful plan t ≡ true) (turned is'.past (take other records) is'.before) is'.lawful in
    let low : place < other → ⊥ = λ lt. foreign-bad plan records place is other lt before' in
    let high : other < place → ⊥ = λ lt. foreign-bad plan records other is' place lt before in
    omega arith

-- What the bytes read as is one thing.
abbrev groups_or : Result (List (List Record)) JournalFault → List (List Record)
groups_or (Ok groups) = groups
groups_or (Err fault) = []

abbrev records_or : Result (Option Found) JournalFault → List Record
records_or (Ok None) = []
records_or (Ok (Some found)) = found.records
records_or (Err fault) = []

over-part : (plan : Plan) (past : List Record) → is_finished plan past ≡ true → is_over past ≡ true
over-part plan past h = (and_parts (is_over past) _ h).0

module _ (plan : Plan) (bytes : List ℕ) where
  no-records : HasNoRecords (replay_by plan bytes) → (found : Found) → replay_by plan bytes ≡ Ok (Some found) → ⊥
  no-records none found is = subst HasNoRecords is none

  no-past : HasNoRecords (replay_by plan bytes) → (past : List Record) → IsJournalOf plan bytes past → ⊥
  no-past none past is = no-records none _ is.reads

  same-records : (found : Found) → replay_by plan bytes ≡ Ok (Some found) → (past : List Record) → IsJournalOf plan bytes past → found.records ≡ chronological past
  same-records found is past journal = ap records_or (sym is ∙ journal.reads)

  same-found : (found other : Found) → replay_by plan bytes ≡ Ok (Some found) → replay_by plan bytes ≡ Ok (Some other) → other.records ≡ found.records
  same-found found other is is' = ap records_or (sym is' ∙ is)

  same-past : (past other : List Record) → IsJournalOf plan bytes past → IsJournalOf plan bytes other → other ≡ past
  same-past past other is is' = turned other (chronological past) (ap records_or (sym is.reads ∙ is'.reads)) ∙ reverse-reverse past

  foreign-past : {X : Type 0} (slot : ℕ) → IsForeignSlot plan (replay_by plan bytes) (groups_in bytes) slot
      → (past : List Record) → IsJournalOf plan bytes past → is_lawful plan past ≡ true → X
  foreign-past slot why past journal lawful =
      absurd (foreign-whole plan why.found.records past why.place why.first (same-records why.found why.reads past journal) lawful)

  one-slot : (slot other : ℕ) → IsForeignSlot plan (replay_by plan bytes) (groups_in bytes) slot
      → IsForeignSlot plan (replay_by plan bytes) (groups_in bytes) other → slot ≡ other
  one-slot slot other why why' =
      let places : why.place ≡ why'.place =
      foreign-one plan why.found.records why.place why'.place why.first
      (subst (λ (rs : List Record). IsFirstForeign plan rs why'.place) (same-found why.found why'.found why.reads why'.reads) why'.first) in
      let groups : why.groups ≡ why'.groups = ap groups_or (sym why.has_groups ∙ why'.has_groups) in
      why.slot_is ∙ (λ i. slot_at (groups i) (places i)) ∙ sym why'.slot_is

  open-over : {X : Type 0} (past other : List Record) → IsJournalOf plan bytes past → IsJournalOf plan bytes other
      → is_over past ≡ false → is_finished plan other ≡ true → X
  open-over past other is is' going finished =
      absurd (false≢true (sym going ∙ ap is_over (sym (same-past past other is is')) ∙ over-part plan other finished))

  -- the journal of a finished run without abort
  pub sound-no : (cause : AuditNo) → AreSound plan bytes → IsAuditNo plan bytes cause → cause ≡ Memory
  sound-no cause (past, sound) (no_journal none) = absurd (no-past none past sound.journal)
  sound-no cause (past, sound) (foreign_record slot why) = foreign-past slot why past sound.journal (lawful_part plan past sound.finished)
  sound-no cause (past, sound) (no_finish other is lawful going) = open-over other past is sound.journal going sound.finished
  sound-no cause (past, sound) (had_abort other is finished aborted) =
      absurd (false≢true (sym sound.abort_free ∙ ap (is_aborted plan) (same-past other past is sound.journal) ∙ aborted))
  sound-no cause (past, sound) no_memory = refl

  pub one-cause : (cause other : AuditNo) → IsAuditNo plan bytes cause → IsAuditNo plan bytes other → cause ≢ Memory → other ≢ Memory → cause ≡ other
  one-cause cause other no_memory is ne ne' = absurd (ne refl)
  one-cause cause other (no_journal none) no_memory ne ne' = absurd (ne' refl)
  one-cause cause other (no_journal none) (no_journal none') ne ne' = refl
  one-cause cause other (no_journal none) (foreign_record slot why) ne ne' = absurd (no-records none why.found why.reads)
  one-cause cause other (no_journal none) (no_finish past is lawful going) ne ne' = absurd (no-past none past is)
  one-cause cause other (no_journal none) (had_abort past is finished aborted) ne ne' = absurd (no-past none past is)
  one-cause cause other (foreign_record slot why) no_memory ne ne' = absurd (ne' refl)
  one-cause cause other (foreign_record slot why) (no_journal none) ne ne' = absurd (no-records none why.found why.reads)
  one-cause cause other (foreign_record slot why) (foreign_record slot' why') ne ne' = ap NotARun (one-slot slot slot' why why')
  one-cause cause other (foreign_record slot why) (no_finish past is' lawful going) ne ne' = foreign-past slot why past is' lawful
  one-cause cause other (foreign_record slot why) (had_abort past is' finished aborted) ne ne' =
      foreign-past slot why past is' (lawful_part plan past finished)
  one-cause cause other (no_finish past is lawful going) no_memory ne ne' = absurd (ne' refl)
  one-cause cause other (no_finish past is lawful going) (no_journal none) ne ne' = absurd (no-past none past is)
  one-cause cause other (no_finish past is lawful going) (foreign_record slot why) ne ne' = foreign-past slot why past is lawful
  one-cause cause other (no_finish past is lawful going) (no_finish past' is' lawful' going') ne ne' = refl
  one-cause cause other (no_finish past is lawful going) (had_abort past' is' finished aborted) ne ne' = open-over past past' is is' going finished
  one-cause cause other (had_abort past is finished aborted) no_memory ne ne' = absurd (ne' refl)
  one-cause cause other (had_abort past is finished aborted) (no_journal none) ne ne' = absurd (no-past none past is)
  one-cause cause other (had_abort past is finished aborted) (foreign_record slot why) ne ne' =
      foreign-past slot why past is (lawful_part plan past finished)
  one-cause cause other (had_abort past is finished aborted) (no_finish past' is' lawful going) ne ne' = open-over past' past is' is going finished
  one-cause cause other (had_abort past is finished aborted) (had_abort past' is' finished' aborted') ne ne' = refl

  pub one-audit : (rank : ℕ → ℕ) → IsRankedBy rank plan → (fates other : List Fate) → IsAuditOf plan bytes fates → IsAuditOf plan bytes other → fates ≡ other
  one-audit rank ranked fates other is is' =
      only-list plan (table_of is.past) rank ranked fates other is.are_fates
      (subst (λ (past : List Record). AreFatesOf plan (table_of past) other) (same-past is.past is'.past is.sound.journal is'.sound.journal) is'.are_fates)

  pub is-sound : (fates : List Fate) → IsAuditOf plan bytes fates → AreSound plan bytes
  is-sound fates is = (is.past, is.sound)

-- what was read, of these records
abbrev found_as : Header → List Record → Found
found_as header records = record { header = header; records = records }

-- What the parts of an audit answer.
module _ (plan : Plan) (bytes : List ℕ) where
  module _ (o : Option (List Record)) (digest : List ℕ) (same : digest ≡ plan.digest) (flag : Bool) (same_flag : flag ≡ plan.always_post) (read : ReadsRecords o (replay_for digest flag bytes)) where
    own : ReadsRecords o (replay_by plan bytes)
    own = subst (λ (r : Replay). ReadsRecords o r) (λ j. replay_for (same j) (same_flag j) bytes) read

    pub read-fresh : o ≡ None → IsAuditNo plan bytes NotAJournal
    read-fresh none =
        let fresh : ReadsRecords None (replay_by plan bytes) = subst (λ (x : Option (List Record)). ReadsRecords x (replay_by plan bytes)) none own in
        no_journal (subst HasNoRecords (sym fresh) tt)

    module _ (records : List Record) (some : o ≡ Some records) where
      found : ReadsRecords (Some records) (replay_by plan bytes)
      found = subst (λ (x : Option (List Record)). ReadsRecords x (replay_by plan bytes)) some own

      -- the records of a core that were read
      pub read-past : (past : List Record) → records ≡ chronological past → IsJournalOf plan bytes past
      read-past past e = record {
        header = found.0.header;
        reads = found.1 ∙ ap (λ (rs : List Record). Ok (Some (found_as found.0.header rs))) (sym found.2 ∙ e);
      }

      pub read-foreign : (place slot : ℕ) (replayed : List Record) → replayed ≡ records → IsReplayFault plan replayed (manager.Foreign place)
          → IsSlotAt (groups_in bytes) place slot → IsAuditNo plan bytes (NotARun slot)
      read-foreign place slot replayed e why at =
          foreign_record slot
          (foreign_in plan bytes found.0 place slot found.1
          (subst (λ (rs : List Record). IsFirstForeign plan rs place) (e ∙ found.2) (first_at plan replayed place why)) at)

  pub read-fault : (fault : JournalFault) → FailsAs fault (replay_by plan bytes) → IsAuditNo plan bytes (no_of fault)
  read-fault journal.Memory is = no_memory
  read-fault journal.Device is = absurd is
  read-fault journal.DiskFull is = absurd is
  read-fault journal.NotAJournal is = no_journal (subst HasNoRecords (sym is) tt)
  read-fault (journal.Version v) is = no_journal (subst HasNoRecords (sym is) tt)
  read-fault journal.OtherInputs is = no_journal (subst HasNoRecords (sym is) tt)
  read-fault journal.OtherFlag is = no_journal (subst HasNoRecords (sym is) tt)
  read-fault journal.SlotsFull is = absurd is
  read-fault journal.Broken is = absurd is
  read-fault (journal.BadSlot slot) is = no_journal (subst HasNoRecords (sym is) tt)

  -- the core of a journal, by what it says of itself
  module _ (p : Plan) (same : p ≡ plan) (past : List Record) (journal : IsJournalOf plan bytes past) (lawful : is_lawful p past ≡ true) where
    here : is_lawful plan past ≡ true
    here = subst (λ (q : Plan). is_lawful q past ≡ true) same lawful

    pub audited-open : is_over past ≡ false → IsAuditNo plan bytes Unfinished
    audited-open going = no_finish past journal here going

    ended : is_over past ≡ true → is_finished plan past ≡ true
    ended over = and_from _ _ over here

    pub audited-abort : is_over past ≡ true → is_aborted p past ≡ true → IsAuditNo plan bytes Aborted
    audited-abort over aborted = had_abort past journal (ended over) (subst (λ (q : Plan). is_aborted q past ≡ true) same aborted)

    pub audited : is_over past ≡ true → is_aborted p past ≡ false → (rank : ℕ → ℕ) → IsRankedBy rank plan
        → (fates : List Fate) → AreShown p past fates → IsAuditOf plan bytes fates
    audited over abort_free rank ranked fates are =
        let quiet = subst (λ (q : Plan). is_aborted q past ≡ false) same abort_free in
        record {
          past = past;
          sound = record { journal = journal; finished = ended over; abort_free = quiet };
          are_fates = shown-fates plan past rank ranked (ended over) quiet fates (subst (λ (q : Plan). AreShown q past fates) same are);
        }

-- a refusal that is handed on
pub spawned-on : {A : Type 0} {Q : AuditNo → Type 0} (P : AuditNo → Type 0) (r : Result A AuditNo) → IsErrAnd r Q → ((cause : AuditNo) → Q cause → P cause) → IfErr r P
spawned-on P (Ok x) h more = absurd h
spawned-on P (Err cause) h more = more cause h
