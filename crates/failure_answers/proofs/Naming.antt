-- What is answered of nodes, by whether some are named.
use Rattle.std.proofs.Common.{◌≡◌, ◌⊎◌, inl, inr, ℕ, List, [], Bor, String, Global, map, length, string_bytes, sym, ◌∙◌}
use Rattle.std.proofs.lemmas.List.{length-map}
use Rattle.std.proofs.lemmas.Bool.{cases_eq}
use Rattle.node_machine.specs.declared.Record.{Record}
use Rattle.run_plan.specs.Plan.{Plan}
use Rattle.dag_main_check.specs.Warnings.{warning_lines}
use Rattle.failure_report.specs.declared.why.Grouping.{Grouping}
use Rattle.failure_report.specs.declared.why.Why.{Why}
use Rattle.failure_report.specs.declared.why.Why.TheVariants as why
use Rattle.failure_report.specs.Grouped.{IsWhyOfAllBy}
use Rattle.failure_report.specs.Named.{IsWhyOfNamed}
use Rattle.failure_answers.specs.Answered.{IsAnswerOf, IsWhyOfAllIn, IsWhyOfNamedIn, reported_of_all, reported_of_named, unknown_name}
use Rattle.failure_answers.specs.declared.form.WhyForm.{WhyForm}
use Rattle.failure_answers.specs.declared.form.WhyForm.TheVariants.{Text}

-- the names as they are lent
abbrev lent_names : List (Bor (List ℕ)) → List (List ℕ)
lent_names names = map (λ (n : Bor (List ℕ)). n.now) names

lent-many : (names : List (Bor (List ℕ))) → length (lent_names names) ≡ length names
lent-many names = length-map names (λ (n : Bor (List ℕ)). n.now)

module _ (form : WhyForm) (plan : Plan) (past : List Record) (path : List ℕ) (names : List (Bor (List ℕ))) where
  told-by : (text : String Global) → (length names ≡ 0) ⊎ (length names ≡ 0 → ⊥) → (length names ≡ 0 → IsWhyOfAllIn form plan past path (why.Reported text))
      → ((length names ≡ 0 → ⊥) → IsWhyOfNamedIn form plan past path (lent_names names) (why.Reported text))
      → IsAnswerOf form plan past path (lent_names names) (string_bytes text) (warning_lines plan.graph.dag.warnings) 0
  told-by text (inl none) all named = reported_of_all (string_bytes text) (lent-many names ∙ none) (all none)
  told-by text (inr some) all named = reported_of_named (string_bytes text) (λ none. some (sym (lent-many names) ∙ none)) (named some)

  pub told-so : (text : String Global) → (length names ≡ 0 → IsWhyOfAllIn form plan past path (why.Reported text))
      → ((length names ≡ 0 → ⊥) → IsWhyOfNamedIn form plan past path (lent_names names) (why.Reported text))
      → IsAnswerOf form plan past path (lent_names names) (string_bytes text) (warning_lines plan.graph.dag.warnings) 0
  told-so text all named = told-by text (cases_eq (length names) 0) all named

  unknown-by : (line : String Global) → (length names ≡ 0) ⊎ (length names ≡ 0 → ⊥) → (length names ≡ 0 → IsWhyOfAllIn form plan past path (why.Unknown line))
      → ((length names ≡ 0 → ⊥) → IsWhyOfNamedIn form plan past path (lent_names names) (why.Unknown line))
      → IsAnswerOf form plan past path (lent_names names) [] (string_bytes line) 125
  unknown-by line (inl none) all named = absurd (all none)
  unknown-by line (inr some) all named = unknown_name (string_bytes line) (λ none. some (sym (lent-many names) ∙ none)) (named some)

  pub unknown-so : (line : String Global) → (length names ≡ 0 → IsWhyOfAllIn form plan past path (why.Unknown line))
      → ((length names ≡ 0 → ⊥) → IsWhyOfNamedIn form plan past path (lent_names names) (why.Unknown line))
      → IsAnswerOf form plan past path (lent_names names) [] (string_bytes line) 125
  unknown-so line all named = unknown-by line (cases_eq (length names) 0) all named

-- what is reported as a text
pub all-text : (grouping : Grouping) (plan : Plan) (past : List Record) (path : List ℕ) (told : Why) → IsWhyOfAllBy grouping plan past told
    → IsWhyOfAllIn (Text grouping) plan past path told
all-text grouping plan past path (why.Reported text) is = is
all-text grouping plan past path (why.Unknown line) is = is

pub named-text : (grouping : Grouping) (plan : Plan) (past : List Record) (path : List ℕ) (names : List (List ℕ)) (told : Why) → IsWhyOfNamed plan past path names told
    → IsWhyOfNamedIn (Text grouping) plan past path names told
named-text grouping plan past path names (why.Reported text) is = is
named-text grouping plan past path names (why.Unknown line) is = is
