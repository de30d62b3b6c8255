-- What a command changes beside a DAG file.
use Rattle.std.specs.Prelude.{◌≡◌, ℕ, Bool, true, List, ◌++◌, Option, Result, Ok, Err, IsErr, string_bytes}
use Rattle.splices_flat.specs.declared.file_set.FileSet.{FileSet}
use Rattle.dag_main_args.specs.declared.request.Request.{Request}
use Rattle.dag_main_args.specs.Requests.{Asked, asked_by, runs, salvages, redoes, checks, rehearses, views, shows}
use Rattle.dag_main_args.specs.declared.request.RunOptions.{RunOptions}
use Rattle.dag_main_check.specs.declared.warnings.Answer.{Answer}
use Rattle.dag_main_check.specs.declared.fault.RunFault.{RunFault}
use Rattle.dag_main_files.specs.declared.rounds.Round.{Round}
use Rattle.dag_main_files.specs.Changes.{FileChange, under_lock}
use Rattle.dag_main_files.specs.Folder.{any_paths, these_paths}
use Rattle.dag_main_files.specs.Opened.{changing, fixed}
use Rattle.dag_main_run.specs.RunChanges.{ChangesAsRun, found_where}
use Rattle.round_inputs.specs.declared.as_begun.ByFiles.{ByFiles}
use Rattle.splices_flat.specs.Opening.{Files}
use Rattle.dag_main_run.specs.Sites.{Rounds}
use Rattle.salvage.specs.Answered.{IsSalvageOf}
use Rattle.salvage.specs.Changes.{writes_salvage, IsRescueMade, LeavesSalvage, WritesNothing}
use Rattle.salvage.specs.declared.fault.SalvageFault.TheVariants.{Refused}
use Rattle.redo.specs.Changes.{MakesRedo}
use Rattle.dagrun.specs.Answered.{AskFor, IsByFiles, asked_at, files_asked}

-- what is known of the files that a run reads, and of its round and the bytes of its rescue file, by the path of the DAG file and the options
abbrev pub RunKnowledge : Type 1
RunKnowledge = (top : List ℕ) → RunOptions → FileSet → Round → Option (List ℕ) → Type 0

-- `run` changes nothing where the report of an ended round was asked for; or it changes what a run does. Where JSON is asked for, this may be so of a run that was led to its
-- end, and then it isn't known where each node is.
pub data ChangesOfRun (Found : RunKnowledge) (rounds : Rounds) (top : List ℕ) (options : RunOptions) (result : Result Answer RunFault)
    (before now : List FileChange) : Type 0 where
  only_reported : options.resume ≡ true → now ≡ before → ChangesOfRun Found rounds top options result before now
  ran : ChangesAsRun result (Found top options) rounds top options before now → ChangesOfRun Found rounds top options result before now
  ran_untold : (answer : Answer) → options.json ≡ true → IsErr result → ChangesAsRun {A = Answer} (Ok answer) (Found top options) rounds top options before now →
      ChangesOfRun Found rounds top options result before now

-- `salvage` writes the rescue file that it reports of, under the lock, and puts the journal away. Where it answers that nothing is salvaged, nothing is written. Where
-- it is refused, nothing is written either; or the rescue file of the round is, and the system refuses to put the journal away.
pub data ChangesOfSalvage (top : List ℕ) (ended : Bool) : Result Answer RunFault → (before now : List FileChange) → Type 0 where
  salvage_written : (answer : Answer) (before now : List FileChange) (is : IsSalvageOf ended top (string_bytes answer.text) (string_bytes answer.warnings) answer.status) →
      now ≡ before ++ under_lock top (writes_salvage top is.next is.rescue_text) → ChangesOfSalvage top ended (Ok answer) before now
  salvage_left : (answer : Answer) (before now : List FileChange) → answer.status ≡ 125 → WritesNothing top before now → ChangesOfSalvage top ended (Ok answer) before now
  salvage_refused : (fault : RunFault) (before now : List FileChange) → LeavesSalvage (IsRescueMade ended top) top (Refused fault) before now →
      ChangesOfSalvage top ended (Err fault) before now

-- what `redo` makes, by its result, where the path of the DAG file is given, the names of the nodes, whether these alone run again, and whether by the files with which
-- the round began
abbrev pub RedoKnowledge : Type 1
RedoKnowledge = (path : List ℕ) → (nodes : List (List ℕ)) → (only begun : Bool) → Result Answer RunFault → (before now : List FileChange) → Type 0

-- What a command makes of a round is by the files by which the round is looked at: those that are held, or those with which it began. Or it is refused, and nothing is made.
pub data IsMadeByFiles (by : ByFiles) (holds : Files) (path : List ℕ) (Makes : Files → Result Answer RunFault → (before now : List FileChange) → Type 0) :
    Result Answer RunFault → (before now : List FileChange) → Type 0 where
  made_by_files : (result : Result Answer RunFault) (before now : List FileChange) → IsByFiles by holds path (λ files. Makes files result before now) →
      IsMadeByFiles by holds path Makes result before now
  nothing_made : (fault : RunFault) (before now : List FileChange) → now ≡ before → IsMadeByFiles by holds path Makes (Err fault) before now

-- `redo` makes what some files say; where their folder is honest, it is what the files say by which the round is looked at.
pub record MakesRedoWhere (Honest : Type 0) (holds : Files) (has : List ℕ → Bool) (path : List ℕ) (nodes : List (List ℕ)) (only begun : Bool)
    (result : Result Answer RunFault) (before now : List FileChange) : Type 0 where
  pub some : MakesRedo changing any_paths path nodes only result before now
  pub held : Honest → IsMadeByFiles (files_asked begun) holds path (λ files. MakesRedo (fixed files) (these_paths has) path nodes only) result before now

-- what is known of the files that the commands read which change something
pub record ChangesKnown : Type 1 where
  pub found : RunKnowledge
  pub redone : RedoKnowledge

-- the same of an honest folder: its files are those that it holds
abbrev pub known_where : (Honest : Type 0) → Files → (has : List ℕ → Bool) → ChangesKnown
known_where Honest holds has = record { found = found_where Honest holds has; redone = MakesRedoWhere Honest holds has }

-- What is changed by the command that a request is for: by `run`, `salvage` and `redo` what is said of these; by any other command nothing.
abbrev pub ChangesAs : (known : ChangesKnown) → Rounds → Asked → Result Answer RunFault → (before now : List FileChange) → Type 0
ChangesAs known rounds (runs path options) result before now = ChangesOfRun known.found rounds path options result before now
ChangesAs known rounds (salvages path ended trust_owner) result before now = ChangesOfSalvage path ended result before now
ChangesAs known rounds (redoes path nodes only begun trust_owner) result before now = known.redone path nodes only begun result before now
ChangesAs known rounds (checks path all json hinted) result before now = now ≡ before
ChangesAs known rounds (rehearses path outcomes limits always_post) result before now = now ≡ before
ChangesAs known rounds (views path shown begun trust_owner) result before now = now ≡ before
ChangesAs known rounds (shows page) result before now = now ≡ before

-- The same by the words of a command line, where standard output is a terminal or is none: what is changed by the reply to what they ask for; where they ask for
-- nothing, nothing is changed.
pub data ChangesAsAsked (known : ChangesKnown) (rounds : Rounds) (to_terminal : Bool) (Replies : Asked → Result Answer RunFault → Type 0)
    (words : List (List ℕ)) (before now : List FileChange) : Type 0 where
  nothing_asked : now ≡ before → ChangesAsAsked known rounds to_terminal Replies words before now
  as_asked : (request : Request) (reply : Result Answer RunFault) → AskFor words request → Replies (asked_at to_terminal (asked_by request)) reply →
      ChangesAs known rounds (asked_at to_terminal (asked_by request)) reply before now → ChangesAsAsked known rounds to_terminal Replies words before now
