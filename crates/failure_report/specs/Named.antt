-- What is reported of nodes that are named.
use Rattle.std.specs.Prelude.{◌≡◌, ◌≤◌, ℕ, true, false, List, [], ◌∷◌, ◌++◌, map, position, Option, Some, None, codes, string_bytes}
use Rattle.std.specs.Str.{bytes_eq}
use Rattle.dag_graph.specs.Graph.{names_of}
use Rattle.node_machine.specs.declared.Record.{Record}
use Rattle.run_plan.specs.Plan.{Plan, count_of}
use Rattle.sched_core.specs.Run.{is_in_error}
use Rattle.log_lines.specs.Words.{word_text}
use Rattle.failure_report.specs.declared.failed.Failure.{Failure}
use Rattle.failure_report.specs.declared.numbers.Named.{Named}
use Rattle.failure_report.specs.declared.numbers.Named.TheVariants.{Nodes, Unknown}
use Rattle.failure_report.specs.declared.why.Reported.{Reported}
use Rattle.failure_report.specs.declared.why.Reported.TheVariants.{Failed, Standing}
use Rattle.failure_report.specs.declared.why.Why.{Why}
use Rattle.failure_report.specs.declared.why.Why.TheVariants as why
use Rattle.failure_report.specs.Failures.{IsFailure}
use Rattle.failure_report.specs.Reported.{HasBlocks}

-- the number of the node of this full name
abbrev pub number_of_node : Plan → List ℕ → Option ℕ
number_of_node plan name = position (bytes_eq name) (names_of plan.graph.dag)

-- these are the numbers of nodes of these names, in their order
abbrev pub AreNumbers : Plan → (names : List (List ℕ)) → (numbers : List ℕ) → Type 0
AreNumbers plan names numbers = map (number_of_node plan) names ≡ map Some numbers

-- a node is in error, with how it failed and how many wait for it; or it is not
pub data IsReportedOfNode (plan : Plan) (past : List Record) (node : ℕ) : Reported → Type 0 where
  is_failed : (failure : Failure) → failure.node ≡ node → node ≤ count_of plan → is_in_error plan past node ≡ true → IsFailure plan past failure →
      IsReportedOfNode plan past node (Failed failure)
  is_standing : (node ≤ count_of plan → is_in_error plan past node ≡ false) → IsReportedOfNode plan past node (Standing node)

-- so it is of each of these nodes, in their order
pub data AreReported (plan : Plan) (past : List Record) : (nodes : List ℕ) → List Reported → Type 0 where
  none_reported : AreReported plan past [] []
  one_more_reported : (nodes : List ℕ) (reported : List Reported) (node : ℕ) (one : Reported) → AreReported plan past nodes reported → IsReportedOfNode plan past node one →
      AreReported plan past (nodes ++ node ∷ []) (reported ++ one ∷ [])

-- the text has what is reported of the nodes of these names, one after another
pub record HasNamed (plan : Plan) (past : List Record) (names : List (List ℕ)) (text : List ℕ) : Type 0 where
  pub numbers : List ℕ
  pub are_numbers : AreNumbers plan names numbers
  pub reported : List Reported
  pub each : AreReported plan past numbers reported
  pub blocks : HasBlocks plan reported text

-- the name of a node that is near, where there is one
abbrev pub nearest_words : Option (List ℕ) → List ℕ
nearest_words None = codes "\n"
nearest_words (Some name) = codes "; the nearest name is " ++ (word_text name ++ codes "\n")

-- `dagrun: x.dag has no node NAME`, and perhaps a near one: what is reported of a name that is none of a node of the DAG file of this path
abbrev pub unknown_line : (path name : List ℕ) → (near : Option (List ℕ)) → List ℕ
unknown_line path name near = codes "dagrun: " ++ (word_text path ++ (codes " has no node " ++ (word_text name ++ nearest_words near)))

pub record IsUnknownLine (path name line : List ℕ) : Type 0 where
  pub near : Option (List ℕ)
  pub line_is : line ≡ unknown_line path name near

-- that is reported of the first of these names that is none of a node
pub record IsUnknownName (plan : Plan) (path : List ℕ) (names : List (List ℕ)) (line : List ℕ) : Type 0 where
  pub before : List (List ℕ)
  pub name : List ℕ
  pub behind : List (List ℕ)
  pub stand : names ≡ before ++ name ∷ behind
  pub numbers : List ℕ
  pub known : AreNumbers plan before numbers
  pub unknown : number_of_node plan name ≡ None
  pub reported : IsUnknownLine path name line

-- the numbers of the nodes of these names; or what is reported of the first that is none
abbrev pub IsNamed : Plan → (path : List ℕ) → (names : List (List ℕ)) → Named → Type 0
IsNamed plan path names (Nodes numbers) = AreNumbers plan names numbers.items
IsNamed plan path names (Unknown line) = IsUnknownName plan path names (string_bytes line)

-- what is reported of the nodes of these names
abbrev pub IsWhyOfNamed : Plan → List Record → (path : List ℕ) → (names : List (List ℕ)) → Why → Type 0
IsWhyOfNamed plan past path names (why.Reported text) = HasNamed plan past names (string_bytes text)
IsWhyOfNamed plan past path names (why.Unknown line) = IsUnknownName plan path names (string_bytes line)
