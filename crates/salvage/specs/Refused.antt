-- Why a round is not salvaged, by what is known of the files.
use Rattle.std.specs.Prelude.{◌≡◌, ◌≢◌, ◌<◌, ◌≤◌, ℕ, Bool, true, false, List, [], ◌++◌, Option, Some, None, Ok, Err, All, codes}
use Rattle.splices_flat.specs.Opening.{Files}
use Rattle.splices_flat.specs.FileSet.{bytes_of, entries_of}
use Rattle.splices_flat.specs.declared.file_set.FileSet.{FileSet}
use Rattle.rescue_file.specs.Numbered.{rescue_name_of}
use Rattle.dag_graph.specs.Graph.{Network}
use Rattle.run_plan.specs.Digest.{digest_of}
use Rattle.run_plan.specs.Plan.{Plan}
use Rattle.run_plan.specs.Submitted.{plan_at}
use Rattle.run_plan.specs.declared.fault.PlanFault.{PlanFault}
use Rattle.event_journal_log.specs.declared.fault.JournalFault.{JournalFault}
use Rattle.event_journal_log.specs.declared.fault.JournalFault.TheVariants as journals
use Rattle.event_journal_log.specs.Image.{Found, replay_of, groups_in, IsRescueNumber}
use Rattle.event_journal_log.specs.Peeks.{ends_with_finish}
use Rattle.event_journal_log.specs.Reading.{has_other_flag}
use Rattle.recovery.specs.Replay.{IsForeignSlot}
use Rattle.recovery_manager.specs.declared.fault.ManagerFault.TheVariants as manager
use Rattle.dag_main_check.specs.declared.fault.RunFault.{RunFault}
use Rattle.dag_main_check.specs.declared.fault.RunFault.TheVariants.{InPlan, NotThere, InManager, Memory}
use Rattle.dag_main_check.specs.Planned.{IsGraphOf, IsGraphFault, rescue_line, named_by}
use Rattle.dag_main_files.specs.Beside.{journal_name_of, lock_name_of, IsInputFault, IsRefusalOf}
use Rattle.dag_main_files.specs.Journals.{IsUnread}
use Rattle.round_inputs.specs.Begun.{begun_name_of}
use Rattle.round_inputs.specs.Inputs.{inputs_name_of, inputs_text_of}
use Rattle.salvage.specs.Round.{is_passed_over, IsRoundLeft, IsSame, IsSameRescue}
use Rattle.salvage.specs.Sight.{Sight, IsRescueSeen, IsListSeen}
use Rattle.salvage.specs.Others.{IsFirstOther, IsOtherRescue, IsOther}
use Rattle.salvage.specs.Salvaged.{IsBarePlan}
use Rattle.salvage.specs.Carried.{IsBegunPlan}
use Rattle.round_inputs.specs.declared.inputs.Listed.{Listed}
use Rattle.salvage.specs.declared.fault.SalvageFault.{SalvageFault}
use Rattle.salvage.specs.declared.fault.SalvageFault.TheVariants.{Refused, NoJournal, Ended, NoInputs, BadInputs, OtherRound}

-- no rescue file has one of two numbers: that of the file which a round read, 0 for none, or else that of the one which it would write
pub data IsNoNumber (used next : ℕ) : RunFault → Type 0 where
  none_was_read : 999 < used → IsNoNumber used next (NotThere used)
  none_is_written : used ≤ 999 → ¬ (IsRescueNumber next) → IsNoNumber used next (NotThere next)

-- The bytes of the journal of this path are not those of a round that may be salvaged: none was begun; it is passed over, since it has ended; they
-- can't be read; or their header has a number that no rescue file has.
pub data IsNotLeft (too : Bool) (path journal : List ℕ) : SalvageFault → Type 0 where
  not_begun : replay_of journal ≡ Ok None → IsNotLeft too path journal (NoJournal path)
  has_ended : (found : Found) → replay_of journal ≡ Ok (Some found) → is_passed_over too (ends_with_finish found.records) ≡ true → IsNotLeft too path journal (Ended path)
  not_read : (fault : RunFault) → IsUnread journal fault → IsNotLeft too path journal (Refused fault)
  no_such_number : (found : Found) (fault : RunFault) → replay_of journal ≡ Ok (Some found) → is_passed_over too (ends_with_finish found.records) ≡ false →
      IsNoNumber found.header.used found.header.next fault → IsNotLeft too path journal (Refused fault)

-- Why there is no round of the DAG file of this path that may be salvaged: it has no journal; the system refuses it; or its bytes tell of none.
pub data IsNoRound (too : Bool) (sight : Sight) (top : List ℕ) : SalvageFault → Type 0 where
  has_no_journal : sight.lacks (journal_name_of top) → IsNoRound too sight top (NoJournal (journal_name_of top))
  journal_refused : (fault : RunFault) → sight.refuses (journal_name_of top) fault → IsNoRound too sight top (Refused fault)
  not_left : (journal : List ℕ) (fault : SalvageFault) → sight.has (journal_name_of top) journal →
      IsNotLeft too (journal_name_of top) journal fault → IsNoRound too sight top fault

-- Why it is not known what the round of this digest was begun with: the file is missing that says it, or the system refuses it; it is not spelled
-- as that file is; or it says it of another digest.
pub data IsNoInputs (sight : Sight) (top digest : List ℕ) : SalvageFault → Type 0 where
  has_no_inputs : sight.lacks (inputs_name_of top) → IsNoInputs sight top digest (NoInputs (inputs_name_of top))
  inputs_refused : (fault : RunFault) → sight.refuses (inputs_name_of top) fault → IsNoInputs sight top digest (Refused fault)
  not_spelled : (bytes : List ℕ) → sight.has (inputs_name_of top) bytes → IsNoInputs sight top digest (BadInputs (inputs_name_of top))
  of_another_round : (other : List ℕ) (listed : List Listed) → sight.has (inputs_name_of top) (inputs_text_of other listed) → other ≢ digest →
      IsNoInputs sight top digest (OtherRound (inputs_name_of top))

-- Why there is no plan of the files of a path and of a rescue file of this number, 0 for none: the files make no graph; or the rescue file can't
-- be read, which is returned with its path.
pub data IsBarePlanFault (always_post : Bool) (files : Files) (path : List ℕ) (used : ℕ) (rescue : Option (List ℕ)) : RunFault → Type 0 where
  has_no_graph : (fault : RunFault) → IsGraphFault files path fault → IsBarePlanFault always_post files path used rescue fault
  not_planned : (graph : Network) (fault : PlanFault) → used ≡ 0 → IsGraphOf files path graph →
      plan_at always_post graph None rescue (digest_of graph.dag.top [] rescue) ≡ Err fault → IsBarePlanFault always_post files path used rescue (InPlan fault)
  not_marked : (graph : Network) (fault : PlanFault) → used ≢ 0 → IsGraphOf files path graph →
      plan_at always_post graph None rescue (digest_of graph.dag.top [] rescue) ≡ Err fault →
      IsBarePlanFault always_post files path used rescue (named_by (rescue_line fault) (Some (rescue_name_of path used)) (InPlan fault))
  planning_had_no_memory : IsBarePlanFault always_post files path used rescue Memory

-- Why the bytes of a journal have no records of a run of the plan: they can't be read; they are of a run with the other flag; a record may not
-- follow those before it, and its slot is returned. Or memory ran out.
pub data IsUnsalvaged (plan : Plan) (journal : List ℕ) : RunFault → Type 0 where
  no_records : (fault : JournalFault) → replay_of journal ≡ Err fault → IsUnsalvaged plan journal (InManager (manager.Journal fault))
  of_other_flag : has_other_flag plan.always_post journal ≡ true → IsUnsalvaged plan journal (InManager (manager.Journal journals.OtherFlag))
  foreign_record : (slot : ℕ) → IsForeignSlot plan (replay_of journal) (groups_in journal) slot → IsUnsalvaged plan journal (InManager (manager.Foreign slot))
  salvaging_had_no_memory : IsUnsalvaged plan journal Memory

-- Why nothing is made of the files of a path and of a rescue file of this number, which are as they were, and of the bytes of a journal: there is
-- no plan, or the journal has no records of a run of it.
pub data IsUnmade (always_post : Bool) (files : Files) (path : List ℕ) (used : ℕ) (rescue : Option (List ℕ)) (journal : List ℕ) : RunFault → Type 0 where
  unplanned : (fault : RunFault) → IsBarePlanFault always_post files path used rescue fault → IsUnmade always_post files path used rescue journal fault
  unsalvaged : (plan : Plan) (fault : RunFault) → IsBarePlan always_post files path rescue plan → IsUnsalvaged plan journal fault →
      IsUnmade always_post files path used rescue journal fault

-- Why nothing is made of files of a path that are not as they were, which this cause says: nothing keeps what the round of this digest was begun
-- with, and the cause is returned; the system refuses the file that keeps it; the files as they are now make no graph; or the journal has no records
-- of a run of the plan of the files that are kept.
pub data IsNotCarried (sight : Sight) (always_post : Bool) (files : Files) (path digest journal : List ℕ) (other : SalvageFault) : SalvageFault → Type 0 where
  not_kept : IsNotCarried sight always_post files path digest journal other other
  kept_refused : (fault : RunFault) → sight.refuses (begun_name_of path) fault → IsNotCarried sight always_post files path digest journal other (Refused fault)
  not_graphed : (fault : RunFault) → IsGraphFault files path fault → IsNotCarried sight always_post files path digest journal other (Refused fault)
  not_replayed : (begun : List ℕ) (old : Plan) (fault : RunFault) → sight.has (begun_name_of path) begun → IsBegunPlan always_post path digest begun old →
      IsUnsalvaged old journal fault → IsNotCarried sight always_post files path digest journal other (Refused fault)

-- Why a round with this journal is not salvaged, the first cause first: it is not known what it was begun with; a DAG file is
-- not as it was, or else the rescue file that it read; these have no plan; the journal has no records of a run of the plan. Or one of these files
-- is not as it was, and the system refuses the file that keeps them, the DAG files make no graph now, or the journal has no records of a run of the
-- plan of the files that are kept.
pub data IsCutShortFault (sight : Sight) (top journal digest : List ℕ) (used : ℕ) (always_post : Bool) : SalvageFault → Type 0 where
  no_inputs : (fault : SalvageFault) → IsNoInputs sight top digest fault → IsCutShortFault sight top journal digest used always_post fault
  other_files : (listed : List Listed) (files : FileSet) (fault : SalvageFault) → IsListSeen sight top digest listed files →
      IsFirstOther listed (entries_of files) fault → IsCutShortFault sight top journal digest used always_post fault
  other_rescue : (listed : List Listed) (files : FileSet) (fault : SalvageFault) → IsListSeen sight top digest listed files →
      All (IsSame listed) (entries_of files) → IsOtherRescue sight listed top used fault → IsCutShortFault sight top journal digest used always_post fault
  no_plan : (listed : List Listed) (files : FileSet) (rescue : Option (List ℕ)) (fault : RunFault) → IsListSeen sight top digest listed files →
      All (IsSame listed) (entries_of files) → IsRescueSeen sight top used rescue → IsSameRescue listed top used rescue →
      IsBarePlanFault always_post (bytes_of files) top used rescue fault → IsCutShortFault sight top journal digest used always_post (Refused fault)
  not_of_plan : (listed : List Listed) (files : FileSet) (rescue : Option (List ℕ)) (plan : Plan) (fault : RunFault) → IsListSeen sight top digest listed files →
      All (IsSame listed) (entries_of files) → IsRescueSeen sight top used rescue → IsSameRescue listed top used rescue →
      IsBarePlan always_post (bytes_of files) top rescue plan → IsUnsalvaged plan journal fault → IsCutShortFault sight top journal digest used always_post (Refused fault)
  keeping_refused : (listed : List Listed) (files : FileSet) (other : SalvageFault) (fault : RunFault) → IsListSeen sight top digest listed files →
      IsOther sight listed top used files other → sight.refuses (begun_name_of top) fault → IsCutShortFault sight top journal digest used always_post (Refused fault)
  no_new_graph : (listed : List Listed) (files : FileSet) (other : SalvageFault) (fault : RunFault) → IsListSeen sight top digest listed files →
      IsOther sight listed top used files other → IsGraphFault (bytes_of files) top fault → IsCutShortFault sight top journal digest used always_post (Refused fault)
  not_of_begun : (listed : List Listed) (files : FileSet) (other : SalvageFault) (begun : List ℕ) (old : Plan) (fault : RunFault) →
      IsListSeen sight top digest listed files → IsOther sight listed top used files other → sight.has (begun_name_of top) begun →
      IsBegunPlan always_post top digest begun old → IsUnsalvaged old journal fault → IsCutShortFault sight top journal digest used always_post (Refused fault)

-- the name under which a journal is put away
abbrev pub old_journal_name_of : List ℕ → List ℕ
old_journal_name_of top = top ++ codes ".journal.old"

-- A file beside the DAG file of this path is in the way of a rescue file that is made of its last round: the journal or the lock may be another user's, or
-- the name under which the journal is put away is a folder's. Or memory ran out.
pub data IsNotOwn (top : List ℕ) : RunFault → Type 0 where
  journal_not_own : (fault : RunFault) → IsRefusalOf (journal_name_of top) fault → IsNotOwn top fault
  lock_not_own : (fault : RunFault) → IsRefusalOf (lock_name_of top) fault → IsNotOwn top fault
  old_name_taken : (fault : RunFault) → IsRefusalOf (old_journal_name_of top) fault → IsNotOwn top fault

-- Why no round of the DAG file of this path is salvaged: there is none that may be, by its journal; or it has ended, and has written its rescue file; or there
-- is one, and what is beside it says why; or a file is in the way; or another manager has the lock, or the system refuses it; or the DAG file is standard
-- input, which can't be read; or the system refuses the rescue file of the number that the journal's header has as the next, or to put the journal away; or
-- memory ran out.
pub data IsSalvageFault (too : Bool) (sight : Sight) (top : List ℕ) : SalvageFault → Type 0 where
  no_round : (fault : SalvageFault) → IsNoRound too sight top fault → IsSalvageFault too sight top fault
  rescue_is_written : (journal : List ℕ) (found : Found) (bytes : List ℕ) → sight.has (journal_name_of top) journal → replay_of journal ≡ Ok (Some found) →
      ends_with_finish found.records ≡ true → sight.has (rescue_name_of top found.header.next) bytes → IsSalvageFault too sight top (Ended (journal_name_of top))
  round_refused : (ended : Bool) (journal digest : List ℕ) (used next : ℕ) (always_post : Bool) (fault : SalvageFault) → sight.has (journal_name_of top) journal →
      IsRoundLeft too ended journal digest used next always_post → IsCutShortFault sight top journal digest used always_post fault → IsSalvageFault too sight top fault
  file_in_the_way : (fault : RunFault) → IsNotOwn top fault → IsSalvageFault too sight top (Refused fault)
  another_is_at_work : (fault : RunFault) → IsRefusalOf (lock_name_of top) fault → IsSalvageFault too sight top (Refused fault)
  no_standard_input : (fault : RunFault) → IsInputFault top fault → IsSalvageFault too sight top (Refused fault)
  rescue_not_written : (ended : Bool) (journal digest : List ℕ) (used next : ℕ) (always_post : Bool) (fault : RunFault) → sight.has (journal_name_of top) journal →
      IsRoundLeft too ended journal digest used next always_post → IsRefusalOf (rescue_name_of top next) fault → IsSalvageFault too sight top (Refused fault)
  journal_not_put_away : (ended : Bool) (journal digest : List ℕ) (used next : ℕ) (always_post : Bool) (fault : RunFault) → sight.has (journal_name_of top) journal →
      IsRoundLeft too ended journal digest used next always_post → IsRefusalOf (journal_name_of top) fault → IsSalvageFault too sight top (Refused fault)
  making_had_no_memory : IsSalvageFault too sight top (Refused Memory)
