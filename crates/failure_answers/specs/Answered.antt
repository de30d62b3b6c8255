-- What `why` answers.
use Rattle.std.specs.Prelude.{◌≡◌, ◌≢◌, ℕ, List, [], ◌++◌, codes, length, string_bytes}
use Rattle.node_machine.specs.declared.Record.{Record}
use Rattle.run_plan.specs.Plan.{Plan}
use Rattle.dag_main_check.specs.Warnings.{warning_lines}
use Rattle.dag_main_check.specs.declared.fault.RunFault.{RunFault}
use Rattle.dag_main_files.specs.Beside.{IsRefusalOf}
use Rattle.dag_main_files.specs.Opened.{Holding}
use Rattle.dag_main_inspect.specs.Asked.{IsOfRecords, IsNoStatus}
use Rattle.dag_main_inspect.specs.LastRound.{IsOfLastRound}
use Rattle.failure_report.specs.declared.found.FoundNode.{FoundNode}
use Rattle.failure_report.specs.declared.why.Why.{Why}
use Rattle.failure_report.specs.declared.why.Why.TheVariants.{Reported, Unknown}
use Rattle.failure_report.specs.Found.{AreFoundOfAll, AreFoundOfNamed}
use Rattle.failure_report.specs.Grouped.{HasAllBy}
use Rattle.failure_report.specs.Named.{HasNamed, IsUnknownName}
use Rattle.failure_answers.specs.WhyData.{why_json_of}
use Rattle.failure_answers.specs.declared.form.WhyForm.{WhyForm}
use Rattle.failure_answers.specs.declared.form.WhyForm.TheVariants.{Text, Json}

-- the text is the JSON of all nodes in error, each by itself in their order, with something found of each
pub record HasAllJson (plan : Plan) (past : List Record) (path text : List ℕ) : Type 0 where
  pub nodes : List FoundNode
  pub all : AreFoundOfAll plan past nodes
  pub text_is : text ≡ why_json_of path plan past nodes

-- the text is the JSON of the nodes of these names, in their order, with something found of each that is in error
pub record HasNamedJson (plan : Plan) (past : List Record) (path : List ℕ) (names : List (List ℕ)) (text : List ℕ) : Type 0 where
  pub nodes : List FoundNode
  pub named : AreFoundOfNamed plan past names nodes
  pub text_is : text ≡ why_json_of path plan past nodes

-- the text has in a form what is reported of all nodes in error
abbrev pub HasAllIn : WhyForm → Plan → List Record → (path text : List ℕ) → Type 0
HasAllIn (Text grouping) plan past path text = HasAllBy grouping plan past text
HasAllIn Json plan past path text = HasAllJson plan past path text

-- the text has in a form what is reported of the nodes of these names
abbrev pub HasNamedIn : WhyForm → Plan → List Record → (path : List ℕ) → (names : List (List ℕ)) → (text : List ℕ) → Type 0
HasNamedIn (Text grouping) plan past path names text = HasNamed plan past names text
HasNamedIn Json plan past path names text = HasNamedJson plan past path names text

-- that is what is reported where no node is named
abbrev pub IsWhyOfAllIn : WhyForm → Plan → List Record → (path : List ℕ) → Why → Type 0
IsWhyOfAllIn form plan past path (Reported text) = HasAllIn form plan past path (string_bytes text)
IsWhyOfAllIn form plan past path (Unknown line) = ⊥

-- that is what is reported of nodes that are named; or the line that names the first name that is none of a node
abbrev pub IsWhyOfNamedIn : WhyForm → Plan → List Record → (path : List ℕ) → (names : List (List ℕ)) → Why → Type 0
IsWhyOfNamedIn form plan past path names (Reported text) = HasNamedIn form plan past path names (string_bytes text)
IsWhyOfNamedIn form plan past path names (Unknown line) = IsUnknownName plan path names (string_bytes line)

-- The answer of a run of the DAG file of a path to names: a text, the warnings of the files, and status 0, where the text has in a form what is
-- reported of all nodes in error where there is no name, in groups or each by itself, and else of those that are named, in their order; or,
-- where a name is none of a node, no text, the line that says so as a warning, and status 125.
pub data IsAnswerOf (form : WhyForm) (plan : Plan) (past : List Record) (path : List ℕ) (names : List (List ℕ)) : (text warnings : List ℕ) → (status : ℕ) → Type 0 where
  reported_of_all : (text : List ℕ) → length names ≡ 0 → HasAllIn form plan past path text → IsAnswerOf form plan past path names text (warning_lines plan.graph.dag.warnings) 0
  reported_of_named : (text : List ℕ) → length names ≢ 0 → HasNamedIn form plan past path names text → IsAnswerOf form plan past path names text (warning_lines plan.graph.dag.warnings) 0
  unknown_name : (line : List ℕ) → length names ≢ 0 → IsUnknownName plan path names line → IsAnswerOf form plan past path names [] line 125

-- That is the answer of the last round of a path: of its plan and the records of its journal.
abbrev pub IsWhy : Holding → WhyForm → (path : List ℕ) → (names : List (List ℕ)) → (text warnings : List ℕ) → (status : ℕ) → Type 0
IsWhy may_hold form path names text warnings status =
    IsOfLastRound may_hold path (λ plan journal. IsOfRecords plan journal (λ past. IsAnswerOf form plan past path names text warnings status))

-- Why there is none: for a cause for which `status` is refused; or the log may be another user's, or memory runs out before it is known whose it is.
pub data IsNoWhy (may_hold : Holding) (path : List ℕ) : RunFault → Type 0 where
  has_no_status : (fault : RunFault) → IsNoStatus may_hold path fault → IsNoWhy may_hold path fault
  log_refused : (fault : RunFault) → IsRefusalOf (path ++ codes ".log") fault → IsNoWhy may_hold path fault
