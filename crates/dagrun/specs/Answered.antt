-- What the program answers to a request, and its exit status (docs/MANUAL.md, "The command line").
use Rattle.std.specs.Global.{Global}
use Rattle.std.specs.Prelude.{◌≡◌, ◌≢◌, String, ◌<◌, ◌≤◌, ℕ, Bool, true, false, List, [], ◌++◌, Option, Some, None, Result, Ok, Err, codes, length, is_some, string_bytes, IfSome}
use Rattle.splices_flat.specs.Opening.{Files}
use Rattle.splices_flat.specs.FileSet.{bytes_of}
use Rattle.splices_flat.specs.declared.file_set.FileSet.{FileSet}
use Rattle.dag_main_args.specs.declared.request.Request.{Request}
use Rattle.dag_main_args.specs.Answered.{IsAskedFor, IsRefused}
use Rattle.dag_main_args.specs.Requests.{Asked, asked_by, checks, runs, views, rehearses, salvages, redoes, shows, Shown, the_status, the_audit, the_graph, the_reasons, the_times, the_page, no_limits, limits_in, AreLimits}
use Rattle.dag_main_args.specs.declared.request.RunOptions.{RunOptions}
use Rattle.dag_main_args.specs.declared.request.FoldRule.{FoldRule}
use Rattle.dag_main_args.specs.declared.request.FoldRule.TheVariants.{AtTerminal, Folded}
use Rattle.dag_main_files.specs.Beside.{IsRefusalOf}
use Rattle.dag_main_files.specs.Folder.{IsReadFrom, Paths, any_paths, these_paths}
use Rattle.dag_main_files.specs.Opened.{Holding, changing, fixed}
use Rattle.throttles.specs.declared.Limits.{Limits}
use Rattle.dag_main_check.specs.Checked.{IsCheckOf}
use Rattle.dag_main_rehearse.specs.Rehearsed.{IsRehearsalOf}
use Rattle.folder_answers.specs.Answered.{IsCheckOfSome, IsCheckOfAllSome, IsCheckOfAllFrom, IsCheckRefusal, IsCheckRefusalFrom, IsRehearsalOfSome, IsRehearsalRefusal, IsRehearsalRefusalFrom}
use Rattle.dag_main_check.specs.declared.fault.RunFault.{RunFault}
use Rattle.dag_main_check.specs.declared.fault.RunFault.TheVariants.{FileRefused, Memory}
use Rattle.dag_main_check.specs.declared.warnings.Answer.{Answer}
use Rattle.dag_main_check.specs.Consoles.{Streams, OnlyWarns, OnlyWarnsAtTerminal, IsDisplayedAs, IsExitStatusOf}
use Rattle.dag_main_run.specs.Sites.{Rounds}
use Rattle.dag_main_run.specs.Runs.{IsRunOf, IsRunFrom, IsRunFault, IsRunFaultFrom}
use Rattle.dag_main_inspect.specs.Asked.{IsAnswer, IsNotAnswered, IsNoStatus}
use Rattle.dag_main_inspect.specs.Reported.{IsReported, IsNoReport}
use Rattle.run_times.specs.Answered.{IsTimes, IsNoTimes}
use Rattle.dag_main_inspect.specs.declared.by_journal.Question.TheVariants.{Status, Audit, Graph}
use Rattle.dag_main_inspect.specs.declared.statuses.Form.{Form}
use Rattle.dag_main_inspect.specs.declared.statuses.Form.TheVariants.{Lines, Json}
use Rattle.dag_main_inspect.specs.declared.graphs.Shape.{Shape}
use Rattle.dag_main_inspect.specs.declared.graphs.Shape.TheVariants.{Nodes, Boxes}
use Rattle.run_times.specs.declared.form.Form.{Form as TimesForm}
use Rattle.run_times.specs.declared.form.Form.TheVariants.{Table, Picture, Json as TimesJson, Summary, Rounds as RoundTable}
use Rattle.salvage.specs.Answered.{IsSalvageOf, IsSalvageFrom}
use Rattle.salvage.specs.Faults.{fault_text}
use Rattle.salvage.specs.declared.fault.SalvageFault.{SalvageFault}
use Rattle.salvage.specs.Sight.{Sight, any_files, held_files}
use Rattle.salvage.specs.Refused.{IsSalvageFault}
use Rattle.salvage.specs.declared.fault.SalvageFault.TheVariants.{Refused}
use Rattle.failure_report.specs.declared.why.Grouping.TheVariants.{ByCause, Each}
use Rattle.failure_answers.specs.declared.form.WhyForm.{WhyForm}
use Rattle.failure_answers.specs.declared.form.WhyForm.TheVariants.{Text as WhyText, Json as WhyJson}
use Rattle.failure_answers.specs.Answered.{IsWhy, IsNoWhy}
use Rattle.dag_main_check.specs.declared.form.CheckForm.{CheckForm}
use Rattle.dag_main_check.specs.declared.form.CheckForm.TheVariants.{Line as CheckLine, Json as CheckJson}
use Rattle.dag_main_args.specs.Matched.{version_text}
use Rattle.report_answers.specs.Answered.{IsReportPage}
use Rattle.round_inputs.specs.declared.begun.Begun.{Begun}
use Rattle.round_inputs.specs.declared.as_begun.ByFiles.{ByFiles}
use Rattle.round_inputs.specs.declared.as_begun.ByFiles.TheVariants.{AsTheyAre, AsItBegan, AsKept}
use Rattle.round_inputs.specs.AsBegun.{as_begun, IsSeenBy, IsNotSeenBy, IsNotBegun}
use Rattle.redo.specs.Answered.{IsRedo, IsNoRedo}

-- what is said of the text, the warnings and the status of an answer
abbrev pub Said : Type 1
Said = List ℕ → List ℕ → ℕ → Type 0

-- What `run` answers: what is printed of a round that was led to its end, where no report of an ended round was asked for, or there is none; or, where
-- that is asked for, what was printed of the last round, which has ended.
pub data IsRunWith (RunToEnd Again : Said) (NoReport : Type 0) (options : RunOptions) (text warnings : List ℕ) (status : ℕ) : Type 0 where
  led : (options.resume ≡ true → NoReport) → RunToEnd text warnings status → IsRunWith RunToEnd Again NoReport options text warnings status
  reported_again : options.resume ≡ true → Again text warnings status → IsRunWith RunToEnd Again NoReport options text warnings status

-- What `run` prints where JSON is asked for, in place of that: where each node is then, by the journal that the run left. Its warnings and its exit status stay.
pub data IsPrintedAs (json : Bool) (Printed States : Said) (text warnings : List ℕ) (status : ℕ) : Type 0 where
  as_text : json ≡ false → Printed text warnings status → IsPrintedAs json Printed States text warnings status
  as_json : (report others : List ℕ) (other : ℕ) → json ≡ true → Printed report warnings status → States text others other →
      IsPrintedAs json Printed States text warnings status

-- Why nothing is printed: the run is refused; or JSON is asked for, and it isn't known where each node is.
pub data IsPrintFault (json : Bool) (Refused NotStated : RunFault → Type 0) : RunFault → Type 0 where
  run_refused : (fault : RunFault) → Refused fault → IsPrintFault json Refused NotStated fault
  not_stated : (fault : RunFault) → json ≡ true → NotStated fault → IsPrintFault json Refused NotStated fault

-- What `rehearse` answers, by the text of a table where one is named.
pub record IsRehearsalWith (Rehearsed : Option (List ℕ) → Said) (outcomes : Option (List ℕ)) (text warnings : List ℕ) (status : ℕ) : Type 0 where
  pub table : Option (List ℕ)
  pub is_named : is_some table ≡ is_some outcomes
  pub rehearsed : Rehearsed table text warnings status

-- the cause is one that no other command has, and the warning is its line: `dagrun: CODE Name PATH`
abbrev pub IsWarnedCause : SalvageFault → List ℕ → Type 0
IsWarnedCause fault warnings = (line : List ℕ) × (fault_text fault ≡ Some line) × (warnings ≡ codes "dagrun: " ++ (line ++ codes "\n"))

-- What `salvage` answers: what it made of a round that was cut short; or the line of a cause that no other command has, as a warning, with
-- nothing printed and exit status 125.
pub data IsSalvageWith (Salvaged : Said) (NotSalvaged : SalvageFault → Type 0) : (text warnings : List ℕ) → (status : ℕ) → Type 0 where
  salvaged : (text warnings : List ℕ) (status : ℕ) → Salvaged text warnings status → IsSalvageWith Salvaged NotSalvaged text warnings status
  not_salvaged : (fault : SalvageFault) (warnings : List ℕ) → NotSalvaged fault → IsWarnedCause fault warnings → IsSalvageWith Salvaged NotSalvaged [] warnings 125

-- The faults of lines that are listed where these files are held: of the files that are; or, where hints are asked for, of those that were read once for both.
pub data IsCheckOfAllHeld (form : CheckForm) (hinted : Bool) (holds : Files) (path text warnings : List ℕ) (status : ℕ) : Type 0 where
  all_of_held_files : IsCheckOfAllFrom form holds path text warnings status → IsCheckOfAllHeld form hinted holds path text warnings status
  all_of_files_read_once : (files : FileSet) → hinted ≡ true → IsReadFrom holds path files → IsCheckOfAllFrom form (bytes_of files) path text warnings status →
      IsCheckOfAllHeld form hinted holds path text warnings status

-- a check answers in a line, or as JSON
abbrev pub check_form : (json : Bool) → CheckForm
check_form false = CheckLine
check_form true = CheckJson

-- What a check answers of some files in a form, by whether all faults of lines are asked for; of these files; and where they are held.
abbrev pub checks_some : (all : Bool) → CheckForm → (path : List ℕ) → Said
checks_some false form path = IsCheckOfSome form path
checks_some true form path = IsCheckOfAllSome form path

abbrev pub checks_in : (all : Bool) → CheckForm → Files → (path : List ℕ) → Said
checks_in false form holds path = IsCheckOf form holds path
checks_in true form holds path = IsCheckOfAllFrom form holds path

abbrev pub checks_from : (all : Bool) → CheckForm → (hinted : Bool) → Files → (path : List ℕ) → Said
checks_from false form hinted holds path = IsCheckOf form holds path
checks_from true form hinted holds path = IsCheckOfAllHeld form hinted holds path

-- What `check` answers; where hints are asked for, with these after its warnings.
pub data IsCheckWith (Checked : Said) (hinted : Bool) (text : List ℕ) : (warnings : List ℕ) → (status : ℕ) → Type 0 where
  without_hints : (warnings : List ℕ) (status : ℕ) → Checked text warnings status → IsCheckWith Checked hinted text warnings status
  with_hints : (warnings hints : List ℕ) (status : ℕ) → hinted ≡ true → Checked text warnings status → IsCheckWith Checked hinted text (warnings ++ hints) status

-- What the program is called on: the bytes of each file that can be read in the folder in which it was called, by its path; which paths are there; and the
-- same files as `check` and `rehearse` read them, with standard input as `-`.
pub record World : Type 0 where
  pub holds : Files
  pub has : List ℕ → Bool
  pub inputs : Files

-- a round is asked for
abbrev pub is_run : Asked → Bool
is_run (runs path options) = true
is_run _ = false

-- it is asked for what is beside a DAG file: `-` is a path like others
abbrev pub is_beside : Asked → Bool
is_beside (checks path all json hinted) = false
is_beside (rehearses path outcomes limits always_post) = false
is_beside (shows page) = false
is_beside _ = true

-- whether the owner of the files beside the DAG file is trusted
abbrev pub is_owner_trusted : Asked → Bool
is_owner_trusted (runs path options) = options.trust_owner
is_owner_trusted (views path shown begun trust_owner) = trust_owner
is_owner_trusted (salvages path ended trust_owner) = trust_owner
is_owner_trusted (redoes path nodes only begun trust_owner) = trust_owner
is_owner_trusted _ = false

-- the files that a request is answered by
abbrev pub files_for : Bool → World → Files
files_for true world = world.holds
files_for false world = world.inputs

-- Why `run` is refused: the round is, where no report of an ended round was asked for, or there is none; or it is asked for, and not told.
pub data IsRunRefusal (NotRun NotTold : RunFault → Type 0) (NoReport : Type 0) (options : RunOptions) : RunFault → Type 0 where
  not_run : (fault : RunFault) → (options.resume ≡ true → NoReport) → NotRun fault → IsRunRefusal NotRun NotTold NoReport options fault
  not_reported : (fault : RunFault) → options.resume ≡ true → NotTold fault → IsRunRefusal NotRun NotTold NoReport options fault

-- Why `rehearse` is refused: the system refuses the table that is named, or memory ran out; or the rehearsal is, by that table.
pub data IsRehearsalRefusalWith (Refused : Option (List ℕ) → RunFault → Type 0) (outcomes : Option (List ℕ)) : RunFault → Type 0 where
  table_refused : (path : List ℕ) (fault : RunFault) → outcomes ≡ Some path → IsRefusalOf path fault → IsRehearsalRefusalWith Refused outcomes fault
  not_rehearsed : (table : Option (List ℕ)) (fault : RunFault) → is_some table ≡ is_some outcomes → Refused table fault → IsRehearsalRefusalWith Refused outcomes fault

-- Why a check is refused where these files are held: for what they say; or, where hints are asked for, for what the files say that were read once
-- for both.
pub data IsCheckRefusalHeld (hinted : Bool) (holds : Files) (path : List ℕ) : RunFault → Type 0 where
  of_held_files : (fault : RunFault) → IsCheckRefusalFrom holds path fault → IsCheckRefusalHeld hinted holds path fault
  of_files_read_once : (files : FileSet) (fault : RunFault) → hinted ≡ true → IsReadFrom holds path files → IsCheckRefusalFrom (bytes_of files) path fault →
      IsCheckRefusalHeld hinted holds path fault

-- By which files a round is shown: `status` and `audit` go by the files as they are, or by those with which it began where this is asked for;
abbrev pub files_asked : (begun : Bool) → ByFiles
files_asked false = AsTheyAre
files_asked true = AsItBegan

-- `why`, `times`, `report` and `graph` go by those with which it began where they are kept, or by these alone where this is asked for;
abbrev pub round_asked : (begun : Bool) → ByFiles
round_asked false = AsKept
round_asked true = AsItBegan

-- and `graph` goes by the files as they are where that is asked for.
abbrev pub graph_asked : (as_is begun : Bool) → ByFiles
graph_asked false begun = round_asked begun
graph_asked true begun = AsTheyAre

-- This is so by the files by which the last round of a DAG file is shown, where these are held.
pub record IsByFiles (by : ByFiles) (holds : Files) (path : List ℕ) (Holds : Files → Type 0) : Type 0 where
  pub begun : Option Begun
  pub seen : IsSeenBy holds path by begun
  pub so : Holds (as_begun begun holds)

-- Why a command is refused that is about a round: for what these files say; or it isn't known by which files the round is to be shown.
pub data IsRefusedByFiles (by : ByFiles) (holds : Files) (path : List ℕ) (Refused : Files → RunFault → Type 0) : RunFault → Type 0 where
  refused_by_files : (fault : RunFault) → IsByFiles by holds path (λ files. Refused files fault) → IsRefusedByFiles by holds path Refused fault
  not_seen_by_files : (fault : RunFault) → IsNotSeenBy holds path by fault → IsRefusedByFiles by holds path Refused fault

-- The same of some files.
pub data IsRefusedBySome (by : ByFiles) (path : List ℕ) (Refused : RunFault → Type 0) : RunFault → Type 0 where
  refused_by_some : (fault : RunFault) → Refused fault → IsRefusedBySome by path Refused fault
  not_seen_by_some : (fault : RunFault) → by ≢ AsTheyAre → IsNotBegun path fault → IsRefusedBySome by path Refused fault

-- `status` and `audit` answer in lines, or as JSON
abbrev pub form_asked : (json : Bool) → Form
form_asked false = Lines
form_asked true = Json

-- `graph` draws one box for nodes that are alike where that is asked for, and else one for each node
abbrev pub shape_asked : FoldRule → Shape
shape_asked Folded = Boxes
shape_asked _ = Nodes

-- Where words say nothing of that, it is asked for if standard output is a terminal: the rule, what is shown of a round, and what is asked for, with this settled.
-- Nothing else goes by the terminal.
abbrev pub fold_at : (to_terminal : Bool) → FoldRule → FoldRule
fold_at true AtTerminal = Folded
fold_at to_terminal fold = fold

abbrev pub shown_at : (to_terminal : Bool) → Shown → Shown
shown_at to_terminal (the_graph fold as_is) = the_graph (fold_at to_terminal fold) as_is
shown_at to_terminal shown = shown

abbrev pub asked_at : (to_terminal : Bool) → Asked → Asked
asked_at to_terminal (views path shown begun trust_owner) = views path (shown_at to_terminal shown) begun trust_owner
asked_at to_terminal asked = asked

-- how `times` shows the phases; no two of a picture, JSON, a summary and rounds are ever asked for together
abbrev pub times_form : (svg json summary rounds : Bool) → TimesForm
times_form true json summary rounds = Picture
times_form false true summary rounds = TimesJson
times_form false false true rounds = Summary
times_form false false false true = RoundTable
times_form false false false false = Table

-- how `why` shows nodes in error: those with one cause once, or each by itself; or as JSON
abbrev pub why_form : (all json : Bool) → WhyForm
why_form all true = WhyJson
why_form true false = WhyText Each
why_form false false = WhyText ByCause

-- What is said of a command: of the text that it prints, its warnings and its exit status; and of why it is refused.
pub record CommandContract : Type 1 where
  pub answers : Said
  pub refused : RunFault → Type 0

abbrev pub IsPage : (page text warnings : List ℕ) → (status : ℕ) → Type 0
IsPage page text warnings status = (text ≡ page) × (warnings ≡ []) × (status ≡ 0)

-- By which files a round is shown.
abbrev pub files_for_view : Shown → (begun : Bool) → ByFiles
files_for_view (the_status json) begun = files_asked begun
files_for_view (the_audit json) begun = files_asked begun
files_for_view (the_graph fold as_is) begun = graph_asked as_is begun
files_for_view (the_reasons nodes all json) begun = round_asked begun
files_for_view (the_times svg json summary rounds) begun = round_asked begun
files_for_view (the_page reload) begun = round_asked begun

-- What is shown of the last round of a path.
abbrev pub IsView : Holding → (path : List ℕ) → Shown → Said
IsView may_hold path (the_status json) = IsAnswer may_hold (Status (form_asked json)) path
IsView may_hold path (the_audit json) = IsAnswer may_hold (Audit (form_asked json)) path
IsView may_hold path (the_graph fold as_is) = IsAnswer may_hold (Graph (shape_asked fold)) path
IsView may_hold path (the_reasons nodes all json) = IsWhy may_hold (why_form all json) path nodes
IsView may_hold path (the_times svg json summary rounds) = IsTimes may_hold path (times_form svg json summary rounds)
IsView may_hold path (the_page reload) = IsReportPage may_hold path version_text reload

-- Why it is not.
abbrev pub IsNoView : Holding → (path : List ℕ) → Shown → RunFault → Type 0
IsNoView may_hold path (the_status json) = IsNotAnswered may_hold (Status (form_asked json)) path
IsNoView may_hold path (the_audit json) = IsNotAnswered may_hold (Audit (form_asked json)) path
IsNoView may_hold path (the_graph fold as_is) = IsNotAnswered may_hold (Graph (shape_asked fold)) path
IsNoView may_hold path (the_reasons nodes all json) = IsNoWhy may_hold path
IsNoView may_hold path (the_times svg json summary rounds) = IsNoTimes may_hold path (times_form svg json summary rounds)
IsNoView may_hold path (the_page reload) = IsNoWhy may_hold path

-- What is known of the files that a request is answered by: which of them may be held as one is read, and which paths may be there; by which a round is shown, and why
-- it is not; and what is said of the commands that read files in ways of their own.
pub record Knowledge : Type 1 where
  pub may_hold : Holding
  pub paths : Paths
  pub shown : ByFiles → (path : List ℕ) → (Holding → Said) → Said
  pub not_shown : ByFiles → (path : List ℕ) → (Holding → RunFault → Type 0) → RunFault → Type 0
  pub checked : (all : Bool) → CheckForm → (hinted : Bool) → (path : List ℕ) → Said
  pub not_checked : (hinted : Bool) → (path : List ℕ) → RunFault → Type 0
  pub led : Rounds → (path : List ℕ) → RunOptions → Said
  pub not_led : Rounds → (path : List ℕ) → RunOptions → RunFault → Type 0
  pub rehearsed : (always_post : Bool) → (path : List ℕ) → Limits → (table : Option (List ℕ)) → Said
  pub not_rehearsed : (always_post : Bool) → (path : List ℕ) → Limits → (table : Option (List ℕ)) → RunFault → Type 0
  pub salvaged : (ended : Bool) → (path : List ℕ) → Said
  pub sight : (path : List ℕ) → Sight

-- Nothing is known: others may change the files between two readings. Each reading is of some files.
abbrev pub changing_files : Knowledge
changing_files = record {
  may_hold = changing;
  paths = any_paths;
  shown = λ by path Answers. Answers changing;
  not_shown = λ by path Refused. IsRefusedBySome by path (Refused changing);
  checked = λ all form hinted. checks_some all form;
  not_checked = λ hinted. IsCheckRefusal;
  led = IsRunOf;
  not_led = IsRunFault;
  rehearsed = λ always_post path limits table. IsRehearsalOfSome always_post path table limits;
  not_rehearsed = λ always_post path limits table. IsRehearsalRefusal always_post path table limits;
  salvaged = IsSalvageOf;
  sight = λ path. any_files;
}

-- The files are those that are held, and the paths those that are there, which nobody changes.
abbrev pub held_in : Files → (List ℕ → Bool) → Knowledge
held_in holds has = record {
  may_hold = fixed holds;
  paths = these_paths has;
  shown = λ by path Answers text warnings status. IsByFiles by holds path (λ files. Answers (fixed files) text warnings status);
  not_shown = λ by path Refused. IsRefusedByFiles by holds path (λ files. Refused (fixed files));
  checked = λ all form hinted path. checks_from all form hinted holds path;
  not_checked = λ hinted path. IsCheckRefusalHeld hinted holds path;
  led = IsRunFrom holds has;
  not_led = IsRunFaultFrom holds has;
  rehearsed = λ always_post path limits table. IsRehearsalOf always_post holds path table limits;
  not_rehearsed = λ always_post path limits table. IsRehearsalRefusalFrom always_post holds path table limits;
  salvaged = λ ended path. IsSalvageFrom ended holds has path;
  sight = held_files holds has;
}

-- A run, where this is said of its rounds: what is printed of the round that was led to its end, or was printed of the last one.
abbrev pub run_contract : Knowledge → Rounds → (path : List ℕ) → RunOptions → CommandContract
run_contract known rounds path options = record {
  answers = IsRunWith (known.led rounds path options) (IsReported known.may_hold path) (IsNoReport known.may_hold path) options;
  refused = IsRunRefusal (known.not_led rounds path options) (IsNoStatus known.may_hold path) (IsNoReport known.may_hold path) options;
}

-- what it prints, as JSON where that is asked for: by the journal that it leaves
abbrev pub printed_run : (path : List ℕ) → RunOptions → CommandContract → CommandContract
printed_run path options run = record {
  answers = IsPrintedAs options.json run.answers (IsAnswer changing (Status Json) path);
  refused = IsPrintFault options.json run.refused (IsNotAnswered changing (Status Json) path);
}

-- What is answered of a round, by the files by which it is shown.
abbrev pub seen_contract : Knowledge → ByFiles → (path : List ℕ) → (Answers : Holding → Said) → (Refuses : Holding → RunFault → Type 0) → CommandContract
seen_contract known by path Answers Refuses = record {
  answers = known.shown by path Answers;
  refused = known.not_shown by path Refuses;
}

abbrev pub view_contract : Knowledge → (path : List ℕ) → (begun : Bool) → Shown → CommandContract
view_contract known path begun view =
    seen_contract known (files_for_view view begun) path (λ may_hold. IsView may_hold path view) (λ may_hold. IsNoView may_hold path view)

-- `redo` looks at a round by the files as `status` does.
abbrev pub redo_contract : Knowledge → (path : List ℕ) → (nodes : List (List ℕ)) → (only begun : Bool) → CommandContract
redo_contract known path nodes only begun =
    seen_contract known (files_asked begun) path (λ may_hold. IsRedo may_hold known.paths path nodes only) (λ may_hold. IsNoRedo may_hold path)

-- The command that a request is for, where this is known of the files and this is said of the rounds of a run.
abbrev pub command_contract : Knowledge → Rounds → Asked → CommandContract
command_contract known rounds (checks path all json hinted) = record {
  answers = IsCheckWith (known.checked all (check_form json) hinted path) hinted;
  refused = known.not_checked hinted path;
}
command_contract known rounds (runs path options) = printed_run path options (run_contract known rounds path options)
command_contract known rounds (views path shown begun trust_owner) = view_contract known path begun shown
command_contract known rounds (rehearses path outcomes limits always_post) = record {
  answers = IsRehearsalWith (known.rehearsed always_post path limits) outcomes;
  refused = IsRehearsalRefusalWith (known.not_rehearsed always_post path limits) outcomes;
}
command_contract known rounds (salvages path ended trust_owner) = record {
  answers = IsSalvageWith (known.salvaged ended path) (IsSalvageFault ended (known.sight path) path);
  refused = λ fault. IsSalvageFault ended (known.sight path) path (Refused fault);
}
command_contract known rounds (redoes path nodes only begun trust_owner) = redo_contract known path nodes only begun
command_contract known rounds (shows page) = record { answers = IsPage page; refused = λ fault. ⊥ }

-- what is said of the answer of a command
abbrev pub IsAnswerUnder : CommandContract → Answer → Type 0
IsAnswerUnder command answer = command.answers (string_bytes answer.text) (string_bytes answer.warnings) answer.status

-- a command comes to this
abbrev pub ComesTo : CommandContract → Result Answer RunFault → Type 0
ComesTo command (Ok answer) = IsAnswerUnder command answer
ComesTo command (Err fault) = command.refused fault

-- Why it isn't known in which folder the program was called: the host doesn't say it; or memory ran out.
pub data IsFolderFault (IsLost : Type 0) : RunFault → Type 0 where
  folder_refused : IsLost → (file : String Global) → string_bytes file ≡ codes "." → IsFolderFault IsLost (FileRefused file)
  folder_had_no_memory : IsFolderFault IsLost Memory

-- What comes of a request: what the command comes to that it is for, whatever is known, and, where the host is honest, by the files of this world; or it is
-- for what is beside a DAG file, and it isn't known in which folder the program was called.
pub data IsReply (Honest IsLost : Type 0) (world : World) (rounds : Rounds) (asked : Asked) : Result Answer RunFault → Type 0 where
  of_command : (reply : Result Answer RunFault) → ComesTo (command_contract changing_files rounds asked) reply →
      (Honest → ComesTo (command_contract (held_in (files_for (is_beside asked) world) world.has) rounds asked) reply) → IsReply Honest IsLost world rounds asked reply
  of_no_folder : (fault : RunFault) → is_beside asked ≡ true → IsFolderFault IsLost fault → IsReply Honest IsLost world rounds asked (Err fault)

-- What the words of a command line ask for, the program's name among them: without others it is `rehearse -`; others ask for what the manual says of
-- the command to which clap matches them; and there is always a limit on all children.
pub record AskFor (words : List (List ℕ)) (request : Request) : Type 0 where
  pub no_words : length words ≤ 1 → asked_by request ≡ rehearses (codes "-") None no_limits false
  pub said : 1 < length words → IsAskedFor words request
  pub limited : IfSome (limits_in (asked_by request)) AreLimits

-- The exit status of the program on a command line of these words, where standard output is a terminal or is none: that with which the reply to what they ask for is displayed;
-- or 125, where they ask for nothing, and where there is no memory to read them.
pub data IsExit (to_terminal : Bool) (Replies : Asked → Result Answer RunFault → Type 0) (words : List (List ℕ)) : ℕ → Type 0 where
  of_reply : (request : Request) (reply : Result Answer RunFault) (status : ℕ) → AskFor words request → Replies (asked_at to_terminal (asked_by request)) reply →
      IsExitStatusOf reply status → IsExit to_terminal Replies words status
  of_refused_words : IsRefused words → IsExit to_terminal Replies words 125
  of_no_memory : IsExit to_terminal Replies words 125

-- What is displayed before the reply to a request: the hints of a check that is refused, where they are asked for; else nothing, since an answer has
-- its hints after its warnings.
abbrev pub AreHints : Asked → Result Answer RunFault → Streams → Streams → Type 0
AreHints (checks path all json true) (Err fault) before after = OnlyWarns before after
AreHints _ _ before after = after ≡ before

-- a reply is displayed, and at a terminal more after it on standard error
pub record IsDisplayedThen (before after : Streams) (reply : Result Answer RunFault) (status : ℕ) : Type 0 where
  pub shown : Streams
  pub displayed : IsDisplayedAs before shown reply status
  pub more : OnlyWarnsAtTerminal shown after

-- What the program displays for a command line of these words, where standard output is a terminal or is none, and its exit status: the reply to what they ask for, after the hints of a check that is
-- refused where these are asked for, and at a terminal what may help after it; or, where they ask for nothing, one text on standard error, which says why; or that there is no memory to
-- read them.
pub data IsCall (to_terminal : Bool) (Replies : Asked → Result Answer RunFault → Type 0) (words : List (List ℕ)) (before after : Streams) : ℕ → Type 0 where
  replied : (request : Request) (reply : Result Answer RunFault) (hinted : Streams) (status : ℕ) → AskFor words request → Replies (asked_at to_terminal (asked_by request)) reply →
      AreHints (asked_at to_terminal (asked_by request)) reply before hinted → IsDisplayedThen hinted after reply status → IsCall to_terminal Replies words before after status
  words_refused : IsRefused words → OnlyWarns before after → IsCall to_terminal Replies words before after 125
  no_memory : (status : ℕ) → IsDisplayedThen before after (Err Memory) status → IsCall to_terminal Replies words before after status
