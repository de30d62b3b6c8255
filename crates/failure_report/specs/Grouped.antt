-- Nodes in error with one cause, in groups.
use Rattle.std.specs.Prelude.{◌≡◌, ℕ, zero, suc, ◌-◌, List, [], ◌∷◌, ◌++◌, map, flat_map, take, length, Option, option_map, codes, decimal, string_bytes}
use Rattle.std.specs.List.{All}
use Rattle.std.specs.List.Sorted.{IsPermutation, IsNonDecreasingBy}
use Rattle.log_lines.specs.Words.{word_text}
use Rattle.node_machine.specs.declared.Phase.{Phase}
use Rattle.node_machine.specs.declared.Outcome.{Outcome}
use Rattle.node_machine.specs.declared.Record.{Record}
use Rattle.run_plan.specs.Plan.{Plan, node_at}
use Rattle.failure_report.specs.declared.failed.Failure.{Failure}
use Rattle.failure_report.specs.declared.groups.Group.{Group}
use Rattle.failure_report.specs.declared.why.Grouping.{Grouping}
use Rattle.failure_report.specs.declared.why.Grouping.TheVariants.{ByCause, Each}
use Rattle.failure_report.specs.declared.why.Why.{Why}
use Rattle.failure_report.specs.declared.why.Why.TheVariants as why
use Rattle.failure_report.specs.Failures.{rank_of, AreFailures}
use Rattle.failure_report.specs.Reported.{IsFailureBlock, HasAllFailed}

-- the phase by which a node failed, and how that ended
abbrev pub phase_and_outcome : Failure → Option (Phase × Outcome)
phase_and_outcome failure = option_map (λ end. (end.phase, end.outcome)) failure.end

-- Two nodes failed in the same phase, and it had the same outcome.
abbrev pub IsSameEnding : Failure → Failure → Type 0
IsSameEnding one other = phase_and_outcome one ≡ phase_and_outcome other

-- the first of a group, and the others
abbrev pub nodes_of_group : Group → List Failure
nodes_of_group group = group.first ∷ group.same.items

-- A group: each of the others failed in the phase of the first with its outcome. Those for which most nodes wait come first, and of as many plan order
-- decides.
pub record IsGroup (group : Group) : Type 0 where
  pub alike : All (IsSameEnding group.first) group.same.items
  pub ordered : IsNonDecreasingBy rank_of (nodes_of_group group)

-- Each of these nodes in error is in one group, once, and the first ones of the groups are in the same order.
pub record AreGroupsOf (failures : List Failure) (groups : List Group) : Type 0 where
  pub together : IsPermutation failures (flat_map nodes_of_group groups)
  pub each : All IsGroup groups
  pub ordered : IsNonDecreasingBy rank_of (map (λ group. group.first) groups)

-- These are all nodes in error, in groups.
pub record AreGroups (plan : Plan) (past : List Record) (groups : List Group) : Type 0 where
  pub failures : List Failure
  pub all : AreFailures plan past failures
  pub grouped : AreGroupsOf failures groups

-- the names of nodes in error
abbrev pub failed_names : Plan → List Failure → List (List ℕ)
failed_names plan failures = map (λ failure. (node_at plan failure.node).name) failures

-- names as words of the log, with a comma between two
abbrev pub listed_names : List (List ℕ) → List ℕ
listed_names [] = []
listed_names (name ∷ names) = word_text name ++ flat_map (λ next. codes ", " ++ word_text next) names

-- how many others there are
abbrev pub same_front : ℕ → List ℕ
same_front all = codes "    the same of " ++ (decimal all ++ codes " more: ")

-- how many more there are than are named
abbrev pub more_words : ℕ → List ℕ
more_words zero = []
more_words (suc n) = codes ", and " ++ (decimal (suc n) ++ codes " more")

-- `    the same of 25 more: b, c, .. (20 names), and 5 more`: how many others there are, and the names of at most twenty of them. Where there is
-- none, there is no line.
abbrev pub same_line : List (List ℕ) → List ℕ
same_line [] = []
same_line (name ∷ names) =
    let all = name ∷ names in same_front (length all) ++ (listed_names (take 20 all) ++ (more_words (length all - 20) ++ codes "\n"))

-- What is reported of a group: what is reported of its first, and right after it the line that names the others.
pub record IsGroupBlock (plan : Plan) (group : Group) (text : List ℕ) : Type 0 where
  pub block : List ℕ
  pub reported : IsFailureBlock plan group.first block
  pub named : text ≡ block ++ same_line (failed_names plan group.same.items)

-- that comes after a text, with something between them
pub record HasGroup (plan : Plan) (group : Group) (before now : List ℕ) : Type 0 where
  pub gap : List ℕ
  pub block : List ℕ
  pub reported : IsGroupBlock plan group block
  pub added : now ≡ (before ++ gap) ++ block

-- a text has what is reported of some groups, one after another, with something before and between them
pub data HasGroups (plan : Plan) : List Group → List ℕ → Type 0 where
  no_group : (text : List ℕ) → HasGroups plan [] text
  one_more_group : {groups : List Group} {group : Group} {before now : List ℕ} → HasGroups plan groups before → HasGroup plan group before now → HasGroups plan (groups ++ group ∷ []) now

-- The text has what is reported of all nodes in error, in groups.
pub record HasAllGrouped (plan : Plan) (past : List Record) (text : List ℕ) : Type 0 where
  pub groups : List Group
  pub all : AreGroups plan past groups
  pub blocks : HasGroups plan groups text

-- The text has what is reported of all nodes in error: in groups, or each by itself.
abbrev pub HasAllBy : Grouping → Plan → List Record → List ℕ → Type 0
HasAllBy ByCause plan past text = HasAllGrouped plan past text
HasAllBy Each plan past text = HasAllFailed plan past text

-- that is what is reported where no node is named
abbrev pub IsWhyOfAllBy : Grouping → Plan → List Record → Why → Type 0
IsWhyOfAllBy grouping plan past (why.Reported text) = HasAllBy grouping plan past (string_bytes text)
IsWhyOfAllBy grouping plan past (why.Unknown line) = ⊥
