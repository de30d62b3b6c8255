-- What `salvage` answers.
use Rattle.std.specs.Prelude.{◌≡◌, ℕ, Bool, true, List, ◌++◌, length, Option, None, Some, IsTrue, is_some}
use Rattle.splices_flat.specs.Opening.{Files}
use Rattle.splices_flat.specs.FileSet.{bytes_of}
use Rattle.splices_flat.specs.declared.file_set.FileSet.{FileSet}
use Rattle.rescue_file.specs.Numbered.{rescue_name_of}
use Rattle.dag_graph.specs.Graph.{Network}
use Rattle.run_plan.specs.Plan.{Plan, count_of}
use Rattle.dag_main_check.specs.Planned.{IsGraphOf}
use Rattle.dag_main_check.specs.Warnings.{warning_lines}
use Rattle.dag_main_files.specs.Beside.{journal_name_of}
use Rattle.dag_main_files.specs.Folder.{IsReadFrom, rescue_in}
use Rattle.round_inputs.specs.Begun.{begun_name_of}
use Rattle.round_inputs.specs.Inputs.{inputs_name_of, inputs_text_of}
use Rattle.round_inputs.specs.declared.inputs.Listed.{Listed}
use Rattle.salvage.specs.Round.{IsRoundLeft}
use Rattle.salvage.specs.Sight.{any_files}
use Rattle.salvage.specs.Others.{IsOther}
use Rattle.salvage.specs.Faults.{fault_text}
use Rattle.salvage.specs.Salvaged.{IsBarePlan, IsSalvaged, IsReadRound, AreChanges, any_change, IsChangeFrom, report_line}
use Rattle.salvage.specs.Carried.{IsBegunPlan, IsCarriedOver, gone_lines}
use Rattle.salvage.specs.declared.fault.SalvageFault.{SalvageFault}

-- What is made of the files of a path and a rescue file that are as they were, and of the bytes of a journal: the text of the rescue file, how
-- many nodes it marks of how many, and the warnings.
pub record IsMadeOfSame (always_post : Bool) (files : Files) (path : List ℕ) (rescue : Option (List ℕ)) (journal text : List ℕ) (done total : ℕ)
    (warnings : List ℕ) : Type 0 where
  pub plan : Plan
  pub planned : IsBarePlan always_post files path rescue plan
  pub salvaged : IsSalvaged plan journal text done
  pub total_is : total ≡ count_of plan
  pub warnings_are : warnings ≡ warning_lines plan.graph.dag.warnings

-- The same of files of a path that are not as they were, by a text of which this holds and which keeps what the round of this digest was begun
-- with: the nodes are those of the files as they are now, and what is done goes by the names of nodes.
pub record IsMadeOfChanged (IsHeld : List ℕ → Type 0) (always_post : Bool) (files : Files) (path digest journal text : List ℕ) (done total : ℕ)
    (warnings : List ℕ) : Type 0 where
  pub begun : List ℕ
  pub old : Plan
  pub graph : Network
  pub gone : List (List ℕ)
  pub is_held : IsHeld begun
  pub is_begun : IsBegunPlan always_post path digest begun old
  pub is_graph : IsGraphOf files path graph
  pub carried : IsCarriedOver old journal graph.dag text done gone
  pub total_is : total ≡ length graph.dag.nodes
  pub warnings_are : warnings ≡ warning_lines graph.dag.warnings ++ gone_lines gone

-- A round that is salvaged and is as it was when it began.
pub record IsSameRound (too : Bool) (path : List ℕ) (next : ℕ) (listed : List Listed) (rescue_text : List ℕ) (done total : ℕ) (warnings : List ℕ) : Type 0 where
  pub journal : List ℕ
  pub digest : List ℕ
  pub used : ℕ
  pub always_post : Bool
  pub files : FileSet
  pub rescue : Option (List ℕ)
  pub plan : Plan
  pub read : IsReadRound too path journal digest used next always_post listed files rescue plan rescue_text done
  pub total_is : total ≡ count_of plan
  pub warnings_are : warnings ≡ warning_lines plan.graph.dag.warnings

-- A round that is salvaged, of which a DAG file or the rescue file is not as it was: its journal is that of a round which is not passed over, and what
-- is made of it goes by a text that keeps what it was begun with.
pub record IsChangedRound (too : Bool) (path : List ℕ) (next : ℕ) (listed : List Listed) (rescue_text : List ℕ) (done total : ℕ) (warnings : List ℕ) : Type 0 where
  pub journal : List ℕ
  pub digest : List ℕ
  pub used : ℕ
  pub always_post : Bool
  pub files : FileSet
  pub other : SalvageFault
  pub begun : List ℕ
  pub ended : Bool
  pub is_left : IsRoundLeft too ended journal digest used next always_post
  pub is_other : IsOther any_files listed path used files other
  pub is_change : IsTrue (is_some (fault_text other))
  pub made : IsMadeOfChanged (λ text. text ≡ begun) always_post (bytes_of files) path digest journal rescue_text done total warnings

-- one of the two
pub data IsMadeOf (too : Bool) (path : List ℕ) (next : ℕ) (listed : List Listed) (rescue_text : List ℕ) (done total : ℕ) (warnings : List ℕ) : Type 0 where
  as_it_was : IsSameRound too path next listed rescue_text done total warnings → IsMadeOf too path next listed rescue_text done total warnings
  changed_since : IsChangedRound too path next listed rescue_text done total warnings → IsMadeOf too path next listed rescue_text done total warnings

-- a round that has ended has left no rescue file of its number: the next one would go by that
abbrev pub HasWrittenNone : Files → (path : List ℕ) → (next : ℕ) → (ended : Bool) → Type 0
HasWrittenNone holds path next ended = ended ≡ true → holds (rescue_name_of path next) ≡ None

-- A round that is as it was is what these files say that are held: the journal, the list of the files that the round was begun with, these files,
-- and the rescue file.
pub record IsHeldRound (holds : Files) (path journal digest : List ℕ) (used next : ℕ) (ended : Bool) (listed : List Listed) (files : FileSet) (rescue : Option (List ℕ)) : Type 0 where
  pub none_written : HasWrittenNone holds path next ended
  pub journal_is : holds (journal_name_of path) ≡ Some journal
  pub listed_are : holds (inputs_name_of path) ≡ Some (inputs_text_of digest listed)
  pub read : IsReadFrom holds path files
  pub rescue_is : rescue ≡ rescue_in holds path used

-- And one that is not: the journal, the list of the files that the round was begun with, the text that keeps them, and the files as they are now.
pub record IsHeldChange (holds : Files) (path journal digest : List ℕ) (next : ℕ) (ended : Bool) (listed : List Listed) (files : FileSet) (begun : List ℕ) : Type 0 where
  pub none_written : HasWrittenNone holds path next ended
  pub journal_is : holds (journal_name_of path) ≡ Some journal
  pub listed_are : holds (inputs_name_of path) ≡ Some (inputs_text_of digest listed)
  pub begun_is : holds (begun_name_of path) ≡ Some begun
  pub read : IsReadFrom holds path files

abbrev pub IsHeldMade : (too : Bool) (holds : Files) (path : List ℕ) (next : ℕ) (listed : List Listed) (rescue_text : List ℕ) (done total : ℕ) (warnings : List ℕ)
    → IsMadeOf too path next listed rescue_text done total warnings → Type 0
IsHeldMade too holds path next listed rescue_text done total warnings (as_it_was round) =
    IsHeldRound holds path round.journal round.digest round.used next round.read.ended listed round.files round.rescue
IsHeldMade too holds path next listed rescue_text done total warnings (changed_since round) =
    IsHeldChange holds path round.journal round.digest next round.ended listed round.files round.begun

-- What `salvage` answers of the DAG file of this path, where rounds that have ended are taken too or not: how many nodes are done in the round, the name of the rescue file that
-- marks them, and what is changed.
pub record IsSalvageOf (too : Bool) (path text warnings : List ℕ) (status : ℕ) : Type 0 where
  pub next : ℕ
  pub listed : List Listed
  pub rescue_text : List ℕ
  pub done : ℕ
  pub total : ℕ
  pub made : IsMadeOf too path next listed rescue_text done total warnings
  pub changes : List ℕ
  pub are_changes : AreChanges any_change listed changes
  pub text_is : text ≡ report_line done total (rescue_name_of path next) ++ changes
  pub status_is : status ≡ 0

-- the same where these files are held and these paths are there: all of it is said by them
pub record IsSalvageFrom (too : Bool) (holds : Files) (there : List ℕ → Bool) (path text warnings : List ℕ) (status : ℕ) : Type 0 where
  pub of_round : IsSalvageOf too path text warnings status
  pub held : IsHeldMade too holds path of_round.next of_round.listed of_round.rescue_text of_round.done of_round.total warnings of_round.made
  pub changes_held : AreChanges (IsChangeFrom holds there) of_round.listed of_round.changes
