-- The rescue file of a round that was cut short.
use Rattle.std.specs.Prelude.{◌≡◌, ℕ, List, [], ◌∷◌, ◌++◌, Bool, true, false, Option, Some, None, Result, Ok, Err, All, IsTrue, codes, decimal, if◌then◌else◌}
use Rattle.std.specs.Str.{bytes_eq}
use Rattle.sha2.specs.Sha256.{sha256}
use Rattle.std.specs.List.{count_by}
use Rattle.splices_flat.specs.Opening.{Files}
use Rattle.splices_flat.specs.FileSet.{bytes_of, entries_of}
use Rattle.splices_flat.specs.declared.file_set.FileSet.{FileSet}
use Rattle.dag_graph.specs.Graph.{Network}
use Rattle.run_plan.specs.Digest.{digest_of}
use Rattle.run_plan.specs.Plan.{Plan}
use Rattle.run_plan.specs.Submitted.{plan_at}
use Rattle.node_machine.specs.declared.Record.{Record}
use Rattle.sched_core.specs.Run.{chronological, is_lawful}
use Rattle.event_journal_log.specs.declared.fault.JournalFault.{JournalFault}
use Rattle.event_journal_log.specs.Image.{Found, replay_of}
use Rattle.recovery_manager.specs.Rescue.{marks_of, rescue_text_for}
use Rattle.dag_main_check.specs.Planned.{IsGraphOf}
use Rattle.salvage.specs.Round.{IsRoundLeft, IsSame, IsSameRescue}
use Rattle.round_inputs.specs.declared.inputs.Listed.{Listed}
use Rattle.salvage.specs.declared.here.Difference.{Difference}
use Rattle.salvage.specs.declared.here.Difference.TheVariants.{Other, Missing}

-- the records that reading gives, the oldest first; none of a place where no journal was begun
abbrev pub IsReplayOf : Result (Option Found) JournalFault → List Record → Type 0
IsReplayOf (Ok None) records = records ≡ []
IsReplayOf (Ok (Some found)) records = records ≡ found.records
IsReplayOf (Err fault) records = ⊥

-- The text of the rescue file of a plan's round whose journal has these bytes: it marks the nodes that are done by the records, which are
-- those of a run of the plan, and so many are.
pub record IsSalvaged (plan : Plan) (journal text : List ℕ) (done : ℕ) : Type 0 where
  pub past : List Record
  pub are_records : IsReplayOf (replay_of journal) (chronological past)
  pub lawful : IsTrue (is_lawful plan past)
  pub text_is : text ≡ rescue_text_for plan past
  pub done_is : done ≡ count_by (λ mark. mark) (marks_of plan past)

-- the plan of the files of a path and of a rescue file, with no submit file read; the flag says whether POST runs after a failed PRE
pub record IsBarePlan (always_post : Bool) (files : Files) (path : List ℕ) (rescue : Option (List ℕ)) (plan : Plan) : Type 0 where
  pub graph : Network
  pub is_graph : IsGraphOf files path graph
  pub made : plan_at always_post graph None rescue (digest_of graph.dag.top [] rescue) ≡ Ok plan

-- `changed since the round began: PATH`, or `missing`; no line where the file is as it was
abbrev pub change_line : List ℕ → Option Difference → List ℕ
change_line path None = []
change_line path (Some Other) = codes "changed since the round began: " ++ (path ++ codes "\n")
change_line path (Some Missing) = codes "missing since the round began: " ++ (path ++ codes "\n")

-- how a file differs from what can be read at its path, if it does: bytes with another sum; or none, where something is there or nothing is
abbrev pub change_from : (sum : List ℕ) → (found : Option (List ℕ)) → (is_there : Bool) → Option Difference
change_from sum (Some bytes) is_there = if bytes_eq (sha256 bytes) sum then None else Some Other
change_from sum None true = Some Other
change_from sum None false = Some Missing

-- a file differs so from the one that is held at its path, where these paths are there
abbrev pub IsChangeFrom : Files → (there : List ℕ → Bool) → Listed → Option Difference → Type 0
IsChangeFrom holds there file change = change ≡ change_from file.sum (holds file.path) (there file.path)

-- the lines of files, each with a change for which this holds
pub data AreChanges (IsOf : Listed → Option Difference → Type 0) : List Listed → List ℕ → Type 0 where
  no_files : AreChanges IsOf [] []
  one_more : (files : List Listed) (text : List ℕ) (file : Listed) (change : Option Difference) → AreChanges IsOf files text → IsOf file change →
      AreChanges IsOf (files ++ file ∷ []) (text ++ change_line file.path change)

-- each is as it was, is changed or is missing
abbrev pub any_change : Listed → Option Difference → Type 0
any_change file change = Unit {0}

-- `N of M nodes are done: NAME`
abbrev pub report_line : ℕ → ℕ → List ℕ → List ℕ
report_line done total name = decimal done ++ (codes " of " ++ (decimal total ++ (codes " nodes are done: " ++ (name ++ codes "\n"))))

-- What is known of a round that is salvaged. Its journal is that of a round which is not passed over. Files, and a rescue file or none, are as they
-- were when the round began, by sums which these are; and this is the rescue file that marks what is done by the journal's records, in the plan
-- of those files.
pub record IsReadRound (too : Bool) (path journal digest : List ℕ) (used next : ℕ) (always_post : Bool) (listed : List Listed) (files : FileSet) (rescue : Option (List ℕ))
    (plan : Plan) (rescue_text : List ℕ) (done : ℕ) : Type 0 where
  pub ended : Bool
  pub is_left : IsRoundLeft too ended journal digest used next always_post
  pub are_same : All (IsSame listed) (entries_of files)
  pub is_same : IsSameRescue listed path used rescue
  pub planned : IsBarePlan always_post (bytes_of files) path rescue plan
  pub salvaged : IsSalvaged plan journal rescue_text done
