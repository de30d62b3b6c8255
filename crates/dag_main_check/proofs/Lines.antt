-- Texts one after another on the streams.
use Rattle.std.proofs.Common.{◌≡◌, ℕ, List, [], ◌++◌, IsTrue, string_bytes, sym, ap, ◌∙◌}
use Rattle.std.proofs.lemmas.List.{append-nil}
use Rattle.dag_main_check.specs.declared.warnings.Answer.{Answer}
use Rattle.dag_main_check.specs.Consoles.{Streams, with_printed, with_warned, OnlyWarns, IsDisplayed, output_refused}

-- a text on standard output after one on standard error, each given in other words
pub printed-behind : (before middle after : Streams) (first second warnings text : List ℕ) → middle ≡ with_warned before first → first ≡ warnings
    → after ≡ with_printed middle second → second ≡ text → after ≡ with_printed (with_warned before warnings) text
printed-behind before middle after first second warnings text warned same printed same' =
    printed ∙ ap (λ (t : List ℕ). with_printed middle t) same' ∙ ap (λ (s : Streams). with_printed s text) (warned ∙ ap (λ (t : List ℕ). with_warned before t) same)

-- standard output refuses the text of an answer, and a line comes after its warnings, which are given in other words
pub refused-output : (answer : Answer) (before middle refused after : Streams) (first line : List ℕ) → middle ≡ with_warned before first
    → first ≡ string_bytes answer.warnings → IsTrue refused.refuses → refused.warned ≡ middle.warned → refused.at_terminal ≡ middle.at_terminal
    → after ≡ with_warned refused line → IsDisplayed answer before after 125
refused-output answer before middle refused after first line warned same refuses kept terminal more = output_refused
    (ap (λ (s : Streams). s.refuses) more ∙ refuses) line
    (ap (λ (s : Streams). s.warned) more ∙ ap (λ (t : List ℕ). t ++ line) (kept ∙ ap (λ (s : Streams). s.warned) warned ∙ ap (λ (t : List ℕ). before.warned ++ t) same))
    (ap (λ (s : Streams). s.at_terminal) more ∙ terminal ∙ ap (λ (s : Streams). s.at_terminal) warned)

-- nothing is displayed
pub no-warning : (streams : Streams) → OnlyWarns streams streams
no-warning streams = ([], ap (λ (t : List ℕ). record streams { warned = t }) (sym (append-nil streams.warned)))
