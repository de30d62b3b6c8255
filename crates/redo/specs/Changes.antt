-- What `redo` changes beside a DAG file.
use Rattle.std.specs.Prelude.{◌≡◌, ℕ, Bool, true, false, List, [], ◌++◌, Option, Result, Ok, Err, string_bytes}
use Rattle.node_machine.specs.declared.Record.{Record}
use Rattle.rescue_file.specs.Numbered.{rescue_name_of}
use Rattle.run_plan.specs.Plan.{Plan, count_of}
use Rattle.event_journal_log.specs.Image.{replay_of}
use Rattle.dag_main_check.specs.declared.warnings.Answer.{Answer}
use Rattle.dag_main_check.specs.declared.fault.RunFault.{RunFault}
use Rattle.dag_main_files.specs.Beside.{journal_name_of, IsRefusalOf}
use Rattle.dag_main_files.specs.Changes.{FileChange, AreBegun, writes_rescue, puts_journal_away, under_lock}
use Rattle.dag_main_files.specs.Folder.{Paths}
use Rattle.dag_main_files.specs.Opened.{Holding}
use Rattle.dag_main_inspect.specs.Asked.{IsOfRecords}
use Rattle.dag_main_inspect.specs.LastRound.{IsOfLastRound}
use Rattle.dag_main_inspect.specs.Statused.{journal_bytes}
use Rattle.failure_report.specs.Named.{AreNumbers}
use Rattle.salvage.specs.Salvaged.{report_line}
use Rattle.redo.specs.Redone.{IsRedone}
use Rattle.redo.specs.Numbers.{is_cut_short, IsNextNumber}
use Rattle.redo.specs.Answered.{no_round_line}

-- the journal of a round that was cut short is put away
abbrev pub clears_cut_short : Bool → List ℕ → List FileChange
clears_cut_short true top = puts_journal_away top
clears_cut_short false top = []

-- The rescue file is written, and only then the journal of a round that was cut short is put away.
abbrev pub writes_redone : List ℕ → (number : ℕ) → (text : List ℕ) → (cut_short : Bool) → List FileChange
writes_redone top number text cut_short = writes_rescue top number text ++ clears_cut_short cut_short top

-- What is made of a rescue file of this text, which marks so many nodes of so many, after a journal of these bytes.
pub data WritesMarks (IsNumber : ℕ → Type 0) (path journal text : List ℕ) (done total : ℕ) : Result Answer RunFault → (before now : List FileChange) → Type 0 where
  -- the file, with the number that is printed, which is the next one; and the journal is put away just where its round was cut short
  marks_written : (answer : Answer) (number : ℕ) (before now : List FileChange) → IsNumber number → answer.status ≡ 0 →
      string_bytes answer.text ≡ report_line done total (rescue_name_of path number) →
      now ≡ before ++ writes_redone path number text (is_cut_short (replay_of journal)) → WritesMarks IsNumber path journal text done total (Ok answer) before now
  -- nothing, whatever the cause is
  marks_not_written : (fault : RunFault) (before now : List FileChange) → now ≡ before → WritesMarks IsNumber path journal text done total (Err fault) before now
  -- the file, since the system refuses to put the journal away of a round that was cut short, or memory runs out: of that the first is made
  marks_alone_written : (fault : RunFault) (number : ℕ) (before now : List FileChange) → IsNumber number → is_cut_short (replay_of journal) ≡ true →
      IsRefusalOf (journal_name_of path) fault → AreBegun (puts_journal_away path) (before ++ writes_rescue path number text) now →
      WritesMarks IsNumber path journal text done total (Err fault) before now

-- The same of a round with this plan, this journal and these records: the text is the one that marks what stays done where the nodes of these names run again.
pub record WritesRedone (paths : Paths) (path : List ℕ) (names : List (List ℕ)) (only : Bool) (result : Result Answer RunFault) (before now : List FileChange)
    (plan : Plan) (journal : Option (List ℕ)) (past : List Record) : Type 0 where
  pub numbers : List ℕ
  pub text : List ℕ
  pub done : ℕ
  pub are_numbers : AreNumbers plan names numbers
  pub redone : IsRedone plan past only numbers text done
  pub writes : WritesMarks (IsNextNumber paths path (journal_bytes journal)) path (journal_bytes journal) text done (count_of plan) result before now

-- What is made once the lock is held, by the result.
pub data MakesRedone (may_hold : Holding) (paths : Paths) (path : List ℕ) (names : List (List ℕ)) (only : Bool) : Result Answer RunFault →
    (before now : List FileChange) → Type 0 where
  -- that of the last round
  by_last_round : (result : Result Answer RunFault) (before now : List FileChange) →
      IsOfLastRound may_hold path (λ plan journal. IsOfRecords plan journal (WritesRedone paths path names only result before now plan journal)) →
      MakesRedone may_hold paths path names only result before now
  -- nothing, since a name is none of a node
  no_such_node : (answer : Answer) (before now : List FileChange) → answer.status ≡ 125 → now ≡ before → MakesRedone may_hold paths path names only (Ok answer) before now
  -- nothing, whatever the cause is
  nothing_to_write : (fault : RunFault) (before now : List FileChange) → now ≡ before → MakesRedone may_hold paths path names only (Err fault) before now

-- The same of the whole command.
pub data MakesRedo (may_hold : Holding) (paths : Paths) (path : List ℕ) (names : List (List ℕ)) (only : Bool) : Result Answer RunFault →
    (before now : List FileChange) → Type 0 where
  -- that, between taking the lock and giving it back
  under_its_lock : (result : Result Answer RunFault) (before now made : List FileChange) → MakesRedone may_hold paths path names only result [] made →
      now ≡ before ++ under_lock path made → MakesRedo may_hold paths path names only result before now
  -- nothing, since there is no round: no lock is taken
  no_round_to_redo : (answer : Answer) (before now : List FileChange) → string_bytes answer.warnings ≡ no_round_line path → answer.status ≡ 125 → now ≡ before →
      MakesRedo may_hold paths path names only (Ok answer) before now
  -- nothing, since it is refused before it takes the lock
  redo_not_begun : (fault : RunFault) (before now : List FileChange) → now ≡ before → MakesRedo may_hold paths path names only (Err fault) before now
