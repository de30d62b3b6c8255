-- What is found of nodes, as values.
use Rattle.std.specs.Prelude.{ℕ, List, map, string_bytes}
use Rattle.node_machine.specs.declared.Record.{Record}
use Rattle.run_plan.specs.Plan.{Plan}
use Rattle.failure_report.specs.declared.found.Found.{Found}
use Rattle.failure_report.specs.declared.found.Found.TheVariants.{Nodes, Unknown}
use Rattle.failure_report.specs.declared.found.FoundNode.{FoundNode}
use Rattle.failure_report.specs.declared.found.FoundNode.TheVariants.{Failed, Standing}
use Rattle.failure_report.specs.declared.why.Reported.{Reported}
use Rattle.failure_report.specs.declared.why.Reported.TheVariants as reported
use Rattle.failure_report.specs.Named.{AreNumbers, AreReported, IsUnknownName}
use Rattle.failure_report.specs.Reported.{AreAllFailed}

-- a node, as the text reports it: in error, with how it failed and how many wait for it; or not
abbrev pub reported_as : FoundNode → Reported
reported_as (Failed failure phase) = reported.Failed failure
reported_as (Standing node) = reported.Standing node

-- these are all nodes in error, in the order of the text that has each by itself
abbrev pub AreFoundOfAll : Plan → List Record → List FoundNode → Type 0
AreFoundOfAll plan past nodes = AreAllFailed plan past (map reported_as nodes)

-- these are the nodes of these names, in their order
pub record AreFoundOfNamed (plan : Plan) (past : List Record) (names : List (List ℕ)) (nodes : List FoundNode) : Type 0 where
  pub numbers : List ℕ
  pub are_numbers : AreNumbers plan names numbers
  pub each : AreReported plan past numbers (map reported_as nodes)

-- what is found where no node is named
abbrev pub IsFoundOfAll : Plan → List Record → Found → Type 0
IsFoundOfAll plan past (Nodes nodes) = AreFoundOfAll plan past nodes.items
IsFoundOfAll plan past (Unknown line) = ⊥

-- what is found of nodes that are named; or the line that names the first name that is none of a node
abbrev pub IsFoundOfNamed : Plan → List Record → (path : List ℕ) → (names : List (List ℕ)) → Found → Type 0
IsFoundOfNamed plan past path names (Nodes nodes) = AreFoundOfNamed plan past names nodes.items
IsFoundOfNamed plan past path names (Unknown line) = IsUnknownName plan path names (string_bytes line)
