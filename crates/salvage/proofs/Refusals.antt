-- Why a round is not salvaged.
use Rattle.std.proofs.Common.{◌≡◌, ◌≤◌, ◌<◌, ◌&&◌, ◌⊎◌, inl, inr, not, cond, ℕ, Bool, true, false, List, [], ◌∷◌, ◌++◌, Bor, String, Vec, Global, Option, Some, None, Result, Ok, Err, IfErr, map, length, arith, refl, sym, ap, subst, ◌∙◌}
use Rattle.std.specs.Prelude.{IsErrAnd, slice_get, slice_range, string_bytes, All}
use Rattle.std.specs.Str.{bytes_eq}
use Rattle.std.specs.Map.Iter.{deref_pair}
use Rattle.std.proofs.lemmas.Bool.{and_parts, ltb-true, not-true, false≢true}
use Rattle.std.proofs.lemmas.List.{map-append}
use Rattle.std.proofs.lemmas.List.Elements.{All-map}
use Rattle.std.proofs.lemmas.Slice.Eq.{bytes_eq-Decides}
use Rattle.node_machine.specs.declared.Record.{Record}
use Rattle.run_plan.specs.Plan.{Plan}
use Rattle.run_plan.specs.PlanAnswers.{Fails, is_memory}
use Rattle.run_plan.specs.declared.fault.PlanFault.{PlanFault}
use Rattle.run_plan.specs.declared.fault.PlanFault.TheVariants as plans
use Rattle.event_journal_log.specs.declared.fault.JournalFault.{JournalFault}
use Rattle.event_journal_log.specs.declared.fault.JournalFault.TheVariants as journals
use Rattle.event_journal_log.specs.declared.decoded.Peek.{Peek}
use Rattle.event_journal_log.specs.Groups.{IsSlotAt}
use Rattle.event_journal_log.specs.Image.{Found, replay_of, groups_in, header_in, is_headed}
use Rattle.event_journal_log.specs.Peeks.{ReadsPeek}
use Rattle.event_journal_log.specs.Reading.{FailsAs, has_other, has_other_flag, is_known, replay_for}
use Rattle.recovery.specs.Replay.{IsFirstForeign, IsReplayFault}
use Rattle.recovery.proofs.Slots.{first_at, foreign_slot, groups_read}
use Rattle.recovery_manager.specs.declared.fault.ManagerFault.TheVariants as manager
use Rattle.dag_main_check.specs.declared.fault.RunFault.{RunFault}
use Rattle.dag_main_check.specs.declared.fault.RunFault.TheVariants.{InManager}
use Rattle.splices_flat.specs.FileSet.{entries_of}
use Rattle.splices_flat.specs.declared.file_set.FileSet.{FileSet}
use Rattle.splices_flat.specs.FileSet.{bytes_of}
use Rattle.salvage.specs.Round.{is_passed_over, IsRoundLeft, IsSame, IsSameRescue}
use Rattle.salvage.specs.Salvaged.{IsReplayOf}
use Rattle.salvage.specs.Sight.{Sight, IsRescueSeen, IsListSeen}
use Rattle.dag_main_files.specs.Beside.{journal_name_of}
use Rattle.dag_main_files.specs.Journals.{read_fault}
use Rattle.salvage.specs.Refused.{IsNoNumber, IsNotLeft, has_ended, no_such_number, IsUnsalvaged, no_records, of_other_flag, foreign_record, salvaging_had_no_memory, IsUnmade, unplanned, unsalvaged, IsNotCarried, not_kept, kept_refused, not_graphed, not_replayed, other_files, other_rescue, no_plan, not_of_plan, keeping_refused, no_new_graph, not_of_begun, IsSalvageFault, round_refused}
use Rattle.salvage.specs.Others.{IsOtherFile, IsFirstOther, IsOther, other_file, other_marks}
use Rattle.round_inputs.specs.declared.inputs.Listed.{Listed}
use Rattle.salvage.specs.declared.fault.SalvageFault.{SalvageFault}
use Rattle.salvage.specs.declared.fault.SalvageFault.TheVariants.{Refused, Ended}
use Rattle.round_inputs.proofs.Listings.{lent_file, maps}

-- a name and a file, as a set's iterator lends them
abbrev pub Lent : Type 0
Lent = Bor (String Global) × Bor (Vec ℕ Global)

-- a cause that is handed on
pub told-as : {A : Type 0} (P : SalvageFault → Type 0) (given : SalvageFault) → P given → (r : Result A SalvageFault) → IsErrAnd r (λ fault. fault ≡ given) → IfErr r P
told-as P given is (Ok x) same = absurd same
told-as P given is (Err fault) same = subst P (sym same) is

pub weaker-as : {A : Type 0} {Q : SalvageFault → Type 0} (P : SalvageFault → Type 0) (r : Result A SalvageFault) → IfErr r Q → ((fault : SalvageFault) → Q fault → P fault) → IfErr r P
weaker-as P (Ok x) h more = tt
weaker-as P (Err fault) h more = more fault h

-- a sum that is another one
pub differ : (sum digest hash : List ℕ) (other : Bool) → other ≡ not (bytes_eq sum digest) → other ≡ true → digest ≡ hash → sum ≡ hash → ⊥
differ sum digest hash other is holds d same =
    false≢true (sym (not-true (bytes_eq sum digest) (sym is ∙ holds)) ∙ (bytes_eq-Decides sum digest).1 (same ∙ sym d))

-- a round that has ended, and a number that no rescue file has
pub over : (too : Bool) (path journal : List ℕ) (peek : Peek) → ReadsPeek (Some peek) (replay_of journal) → is_passed_over too peek.finished ≡ true
    → IsNotLeft too path journal (Ended path)
over too path journal peek (found, reads, used_is, next_is, flag_is, finished_is) ended = has_ended found reads (ap (is_passed_over too) finished_is ∙ ended)

pub bad-number : (too : Bool) (path journal : List ℕ) (peek : Peek) (fault : RunFault) → ReadsPeek (Some peek) (replay_of journal) → is_passed_over too peek.finished ≡ false
    → IsNoNumber peek.used peek.next fault → IsNotLeft too path journal (Refused fault)
bad-number too path journal peek fault (found, reads, used_is, next_is, flag_is, finished_is) left is =
    no_such_number found fault reads (ap (is_passed_over too) finished_is ∙ left)
    (subst (λ (u : ℕ). IsNoNumber u found.header.next fault) (sym used_is) (subst (λ (n : ℕ). IsNoNumber peek.used n fault) (sym next_is) is))

-- the digest that is in the header is that of the header
known-or : (digest journal : List ℕ) (known : Bool) → is_known journal ≡ known → (40 ≤ length journal → digest ≡ slice_range journal 8 40) → has_other digest journal ≡ false
known-or digest journal false known by = ap (λ (k : Bool). k && not (bytes_eq (header_in journal).digest digest)) known
known-or digest journal true known by =
    let headed : is_headed journal ≡ true = (and_parts _ _ known).0 in
    let over : 64 < length journal = ltb-true 64 (length journal) (and_parts _ _ (and_parts _ _ (and_parts _ _ (and_parts _ _ headed).0).0).0).1 in
    let long : 40 ≤ length journal = omega arith in
    ap (λ (k : Bool). k && not (bytes_eq (header_in journal).digest digest)) known
    ∙ ap (λ (d : List ℕ). not (bytes_eq (header_in journal).digest d)) (by long)
    ∙ ap not ((bytes_eq-Decides (slice_range journal 8 40) (slice_range journal 8 40)).1 refl)

pub of-this : (digest journal : List ℕ) → (40 ≤ length journal → digest ≡ slice_range journal 8 40) → has_other digest journal ≡ false
of-this digest journal by = known-or digest journal (is_known journal) refl by

-- what reading for that digest and a flag refuses
reads-as : (other flag : Bool) (read : Result (Option Found) JournalFault) (fault : JournalFault) → other ≡ false
    → cond other (Err journals.OtherInputs) (cond flag (Err journals.OtherFlag) read) ≡ Err fault → ((flag ≡ true) × (journals.OtherFlag ≡ fault)) ⊎ (read ≡ Err fault)
reads-as true flag read fault this is = absurd (false≢true (sym this))
reads-as false true read fault this is = inl (refl, cc)
reads-as false false read fault this is = inr is

module _ (plan : Plan) (journal digest : List ℕ) (always_post : Bool) (flag : always_post ≡ plan.always_post) (this : has_other digest journal ≡ false) where
  refused-as : (fault : JournalFault) → ((has_other_flag always_post journal ≡ true) × (journals.OtherFlag ≡ fault)) ⊎ (replay_of journal ≡ Err fault)
      → IsUnsalvaged plan journal (InManager (manager.Journal fault))
  refused-as fault (inl (other, same)) =
      subst (λ (f : JournalFault). IsUnsalvaged plan journal (InManager (manager.Journal f))) same
      (of_other_flag (subst (λ (a : Bool). has_other_flag a journal ≡ true) flag other))
  refused-as fault (inr is) = no_records fault is

  failed-as : (fault : JournalFault) → replay_for digest always_post journal ≡ Err fault → IsUnsalvaged plan journal (InManager (manager.Journal fault))
  failed-as fault is = refused-as fault (reads-as (has_other digest journal) (has_other_flag always_post journal) (replay_of journal) fault this is)

  pub no-records : (fault : JournalFault) → FailsAs fault (replay_for digest always_post journal) → IsUnsalvaged plan journal (read_fault fault)
  no-records journals.Memory is = salvaging_had_no_memory
  no-records journals.Device is = absurd is
  no-records journals.DiskFull is = absurd is
  no-records journals.NotAJournal is = failed-as journals.NotAJournal is
  no-records (journals.Version v) is = failed-as (journals.Version v) is
  no-records journals.OtherInputs is = failed-as journals.OtherInputs is
  no-records journals.OtherFlag is = failed-as journals.OtherFlag is
  no-records journals.SlotsFull is = absurd is
  no-records journals.Broken is = absurd is
  no-records (journals.BadSlot slot) is = failed-as (journals.BadSlot slot) is

-- the slot of the first record that may not follow
none-at : (place : ℕ) (entry : Record) → slice_get [] place ≡ Some entry → ⊥
none-at place entry at = absurd cc

found-at : (read : Result (Option Found) JournalFault) (records : List Record) (place : ℕ) (entry : Record) → IsReplayOf read records → slice_get records place ≡ Some entry
    → (found : Found) × (read ≡ Ok (Some found)) × (records ≡ found.records)
found-at (Ok None) records place entry are at = absurd (none-at place entry (subst (λ (rs : List Record). slice_get rs place ≡ Some entry) are at))
found-at (Ok (Some found)) records place entry are at = (found, refl, are)
found-at (Err fault) records place entry are at = absurd are

pub foreign-at : (plan : Plan) (journal : List ℕ) (records : List Record) (place slot : ℕ) → IsReplayOf (replay_of journal) records
    → IsReplayFault plan records (manager.Foreign place) → IsSlotAt (groups_in journal) place slot → IsUnsalvaged plan journal (InManager (manager.Foreign slot))
foreign-at plan journal records place slot are why at =
    let first = first_at plan records place why in
    let f = found-at (replay_of journal) records place first.entry are first.is in
    foreign_record slot
    (foreign_slot plan (replay_of journal) (groups_in journal) f.0 f.1 (groups_read journal f.0 f.1) place slot
    (subst (λ (l : List Record). IsFirstForeign plan l place) f.2 first) at)

-- a plan's fault, but for lack of memory
pub plan-fault : (fault : PlanFault) (made : Result Plan PlanFault) → is_memory fault ≡ false → Fails fault made → made ≡ Err fault
plan-fault plans.Memory made other fails = absurd cc
plan-fault (plans.MissingFile path) made other fails = fails
plan-fault (plans.InSubmit path fault) made other fails = fails
plan-fault (plans.InMacro node fault) made other fails = fails
plan-fault (plans.NoExecutable node) made other fails = fails
plan-fault (plans.BadUniverse node) made other fails = fails
plan-fault (plans.InRescue fault) made other fails = fails

-- the first file that is not as it was, as a set's iterator lends it
abbrev entry_of : String Global × Vec ℕ Global → List ℕ × List ℕ
entry_of file = (string_bytes file.0, file.1.items)

pub first-other : (listed : List Listed) (set : FileSet) (yielded : List Lent) (t u : List (String Global × Vec ℕ Global)) (file : Lent) (fault : SalvageFault)
    → set.files.entries ≡ map deref_pair yielded ++ t → t ≡ deref_pair file ∷ u → All (λ f. IsSame listed (lent_file f)) yielded
    → IsOtherFile listed (lent_file file) fault → IsFirstOther listed (entries_of set) fault
first-other listed set yielded t u file fault all next same other = record {
  before = map lent_file yielded;
  file = lent_file file;
  behind = map entry_of u;
  stand =
      ap (map entry_of) (all ∙ ap (λ (l : List (String Global × Vec ℕ Global)). map deref_pair yielded ++ l) next)
      ∙ map-append entry_of (map deref_pair yielded) (deref_pair file ∷ u)
      ∙ ap (λ (l : List (List ℕ × List ℕ)). l ++ lent_file file ∷ map entry_of u) (maps entry_of deref_pair yielded);
  same = All-map (IsSame listed) lent_file yielded same;
  other = other;
}

-- nothing is made of a round: by the files that are as they were, and by those that are not
module _ (too ended : Bool) (sight : Sight) (top journal digest : List ℕ) (used next : ℕ) (always_post : Bool) (listed : List Listed) (files : FileSet)
    (held : sight.has (journal_name_of top) journal) (cut : IsRoundLeft too ended journal digest used next always_post) (seen : IsListSeen sight top digest listed files) where
  pub same-refused : (rescue : Option (List ℕ)) (fault : RunFault) → All (IsSame listed) (entries_of files) → IsRescueSeen sight top used rescue → IsSameRescue listed top used rescue
      → IsUnmade always_post (bytes_of files) top used rescue journal fault → IsSalvageFault too sight top (Refused fault)
  same-refused rescue fault same marks as_it_was (unplanned cause why) = round_refused _ _ _ _ _ _ _ held cut (no_plan listed files rescue cause seen same marks as_it_was why)
  same-refused rescue fault same marks as_it_was (unsalvaged plan cause is why) =
      round_refused _ _ _ _ _ _ _ held cut (not_of_plan listed files rescue plan cause seen same marks as_it_was is why)

  pub other-refused : (fault : SalvageFault) → IsOther sight listed top used files fault → IsSalvageFault too sight top fault
  other-refused fault (other_file cause why) = round_refused _ _ _ _ _ _ _ held cut (other_files listed files cause seen why)
  other-refused fault (other_marks cause same why) = round_refused _ _ _ _ _ _ _ held cut (other_rescue listed files cause seen same why)

  pub change-refused : (other fault : SalvageFault) → IsOther sight listed top used files other
      → IsNotCarried sight always_post (bytes_of files) top digest journal other fault → IsSalvageFault too sight top fault
  change-refused other fault is not_kept = other-refused other is
  change-refused other fault is (kept_refused refusal why) = round_refused _ _ _ _ _ _ _ held cut (keeping_refused listed files other refusal seen is why)
  change-refused other fault is (not_graphed refusal why) = round_refused _ _ _ _ _ _ _ held cut (no_new_graph listed files other refusal seen is why)
  change-refused other fault is (not_replayed begun old refusal kept planned why) =
      round_refused _ _ _ _ _ _ _ held cut (not_of_begun listed files other begun old refusal seen is kept planned why)
