use Rattle.std.proofs.Common.{ap, sym, ◌∙◌, List, ◌∷◌}
use Rattle.dag_reader.specs.Word.{PlacedText}
use Rattle.dag_reader.specs.LineReader.{Left, word_of}
use Rattle.node_machine.specs.OutcomesReading.{spelled_outcome}
use Rattle.node_machine.proofs.outcomes.read_outcome.Goals as goal

pub returns-in_err-first : goal.returns-in_err-first
unfolding spelled_outcome
returns-in_err-first c = c.from_residual.ensures ∙ sym (ap spelled_outcome c.in_err-first.ensures.0)

pub returns-in_default : goal.returns-in_default
unfolding spelled_outcome
returns-in_default c =
    let first = word_of c.in_ok-first.first in
    c.ending.ensures
    ∙ sym (ap spelled_outcome (ap (λ (left : Left). left.words) c.in_ok-first.ensures ∙ ap (λ (ws : List PlacedText). first ∷ ws) c.in_default.ensures.0))

pub returns-in-Some-next_word : goal.returns-in-Some-next_word
unfolding spelled_outcome
returns-in-Some-next_word c =
    let first = word_of c.in_ok-first.first in
    let second = word_of c.in-Some.second in
    sym (ap spelled_outcome (ap (λ (left : Left). left.words) c.in_ok-first.ensures
    ∙ ap (λ (left : Left). first ∷ left.words) c.in-Some.ensures
    ∙ ap (λ (left : Left). first ∷ second ∷ left.words) c.in-Some-next_word.ensures))

pub returns-in-None : goal.returns-in-None
unfolding spelled_outcome
returns-in-None c =
    let first = word_of c.in_ok-first.first in
    let second = word_of c.in-Some.second in
    c.signal.ensures
    ∙ sym (ap spelled_outcome (ap (λ (left : Left). left.words) c.in_ok-first.ensures
    ∙ ap (λ (left : Left). first ∷ left.words) c.in-Some.ensures
    ∙ ap (λ (ws : List PlacedText). first ∷ second ∷ ws) c.in-None.ensures.0))
