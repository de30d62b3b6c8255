-- What is reported of nodes.
use Rattle.std.specs.Prelude.{◌≡◌, ℕ, ◌<◌, List, [], ◌∷◌, ◌++◌, map, Option, Some, None, codes}
use Rattle.node_machine.specs.declared.Ended.{Ended}
use Rattle.node_machine.specs.declared.Record.{Record}
use Rattle.run_plan.specs.Plan.{Plan, node_at, count_of}
use Rattle.failure_report.specs.declared.failed.Failure.{Failure}
use Rattle.failure_report.specs.declared.why.Reported.{Reported}
use Rattle.failure_report.specs.declared.why.Reported.TheVariants.{Failed, Standing}
use Rattle.failure_report.specs.Failures.{AreFailures}
use Rattle.failure_report.specs.Heads.{head_line}
use Rattle.failure_report.specs.Hanging.{hung}

-- What is reported of a node in error: its line, with some reason or none, and then some more, in which each line is indented. (One that the plan
-- doesn't have, or no phase of which ended, is not in error, and nothing is reported of it.)
pub data IsFailureBlock (plan : Plan) (failure : Failure) : List ℕ → Type 0 where
  has_line : (end : Ended) (reason : Option (List ℕ)) (more : List ℕ) → failure.end ≡ Some end →
      IsFailureBlock plan failure (hung (head_line (node_at plan failure.node).name end reason (node_at plan failure.node).course.retries failure.waiting ++ more))
  has_no_end : failure.end ≡ None → IsFailureBlock plan failure []
  is_no_node : count_of plan < failure.node → IsFailureBlock plan failure []

-- What is reported of a node that is not in error: its name, and some words, in which each line after the first is indented. (Nothing is reported
-- of one that the plan doesn't have.)
pub data IsStandingBlock (plan : Plan) (node : ℕ) : List ℕ → Type 0 where
  has_words : (words : List ℕ) → IsStandingBlock plan node (hung ((node_at plan node).name ++ (codes " " ++ words)))
  is_no_other : count_of plan < node → IsStandingBlock plan node []

abbrev pub IsBlock : Plan → Reported → List ℕ → Type 0
IsBlock plan (Failed failure) block = IsFailureBlock plan failure block
IsBlock plan (Standing node) block = IsStandingBlock plan node block

-- what is reported of a node comes after a text, with something between them
pub record HasBlock (plan : Plan) (one : Reported) (before now : List ℕ) : Type 0 where
  pub gap : List ℕ
  pub block : List ℕ
  pub reported : IsBlock plan one block
  pub added : now ≡ (before ++ gap) ++ block

-- what is reported of some nodes is in a text, one after another, with something before and between them
pub data HasBlocks (plan : Plan) : List Reported → List ℕ → Type 0 where
  front : (text : List ℕ) → HasBlocks plan [] text
  behind : {reported : List Reported} {one : Reported} {before now : List ℕ} → HasBlocks plan reported before → HasBlock plan one before now → HasBlocks plan (reported ++ one ∷ []) now

-- these are all nodes in error
pub record AreAllFailed (plan : Plan) (past : List Record) (reported : List Reported) : Type 0 where
  pub failures : List Failure
  pub are : AreFailures plan past failures
  pub each : reported ≡ map Failed failures

-- the text has what is reported of all nodes in error, in their order
pub record HasAllFailed (plan : Plan) (past : List Record) (text : List ℕ) : Type 0 where
  pub reported : List Reported
  pub all : AreAllFailed plan past reported
  pub blocks : HasBlocks plan reported text
