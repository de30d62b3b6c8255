use Rattle.std.proofs.Common.{◌≡◌, ap, sym, ◌∙◌, List, [], ◌∷◌, Option, None, Some, ℕ, refl}
use Rattle.std.specs.Option.{option_map, option_and_then}
use Rattle.dag_reader.specs.Numbers.{count}
use Rattle.dag_reader.specs.Word.{PlacedText}
use Rattle.dag_reader.specs.LineReader.{Left, left_of, word_of}
use Rattle.node_machine.specs.declared.Phase.{Phase}
use Rattle.node_machine.specs.declared.Outcome.{Outcome}
use Rattle.node_machine.specs.TableMaps.{entry_of}
use Rattle.node_machine.specs.OutcomesReading.{entry_with, entry_in, phased_in, phase_in, spelled_outcome}
use Rattle.node_machine.proofs.outcomes.read_entry.Goals as goal

with_attempt : (name w : PlacedText) (old : List PlacedText) (ws : List PlacedText) (o : Option ℕ) → old ≡ w ∷ ws → o ≡ count 1000000 w.text
    → option_and_then (λ attempt. phased_in name attempt ws) o ≡ entry_in name old
unfolding entry_in
with_attempt name w old ws o e f = ap (λ (x : Option ℕ). option_and_then (λ attempt. phased_in name attempt ws) x) f ∙ sym (ap (entry_in name) e)

with_phase : (name : PlacedText) (attempt : ℕ) (w : PlacedText) (old : List PlacedText) (ws : List PlacedText) (o : Option Phase) (q : Option Outcome) → old ≡ w ∷ ws → o ≡ phase_in w → q ≡ spelled_outcome ws
    → option_and_then (λ phase. option_map (entry_with name attempt phase) q) o ≡ phased_in name attempt old
unfolding phased_in
with_phase name attempt w old ws o q e f g =
    ap (λ (x : Option Phase). option_and_then (λ phase. option_map (entry_with name attempt phase) q) x) f
    ∙ ap (λ (x : Option Outcome). option_and_then (λ phase. option_map (entry_with name attempt phase) x) (phase_in w)) g
    ∙ sym (ap (phased_in name attempt) e)

without_phase : (name : PlacedText) (attempt : ℕ) (ws : List PlacedText) → ws ≡ [] → None ≡ phased_in name attempt ws
unfolding phased_in
without_phase name attempt ws e = sym (ap (phased_in name attempt) e)

pub returns-in_err-next_word : goal.returns-in_err-next_word
unfolding entry_in
returns-in_err-next_word c = ap (option_map entry_of) c.from_residual.ensures ∙ sym (ap (entry_in (word_of c.args.name.now)) c.in_err-next_word.ensures.0)

pub returns-in_err-attempt : goal.returns-in_err-attempt
returns-in_err-attempt c =
    ap (option_map entry_of) c.from_residual-in_err-attempt.ensures
    ∙ with_attempt (word_of c.args.name.now) (word_of c.in_ok-next_word.field-0) _ (left_of c.next_word.new.self).words None
    (ap (λ (left : Left). left.words) c.in_ok-next_word.ensures) c.in_err-attempt.ensures

pub returns-in_err-next_word-2 : goal.returns-in_err-next_word-2
returns-in_err-next_word-2 c =
    ap (option_map entry_of) c.from_residual-in_err-next_word-2.ensures
    ∙ without_phase (word_of c.args.name.now) c.in_ok-attempt.attempt _ c.in_err-next_word-2.ensures.0
    ∙ with_attempt (word_of c.args.name.now) (word_of c.in_ok-next_word.field-0) _ (left_of c.next_word.new.self).words (Some c.in_ok-attempt.attempt)
    (ap (λ (left : Left). left.words) c.in_ok-next_word.ensures) c.in_ok-attempt.ensures

pub returns-in_err-phase : goal.returns-in_err-phase
returns-in_err-phase c =
    ap (option_map entry_of) c.from_residual-in_err-phase.ensures
    ∙ with_phase (word_of c.args.name.now) c.in_ok-attempt.attempt (word_of c.in_ok-next_word-2.field-0) _ (left_of c.next_word-2.new.self).words None _
    (ap (λ (left : Left). left.words) c.in_ok-next_word-2.ensures) c.in_err-phase.ensures refl
    ∙ with_attempt (word_of c.args.name.now) (word_of c.in_ok-next_word.field-0) _ (left_of c.next_word.new.self).words (Some c.in_ok-attempt.attempt)
    (ap (λ (left : Left). left.words) c.in_ok-next_word.ensures) c.in_ok-attempt.ensures

pub returns-in_err-outcome : goal.returns-in_err-outcome
returns-in_err-outcome c =
    ap (option_map entry_of) c.from_residual-in_err-outcome.ensures
    ∙ with_phase (word_of c.args.name.now) c.in_ok-attempt.attempt (word_of c.in_ok-next_word-2.field-0) _ (left_of c.next_word-2.new.self).words (Some c.in_ok-phase.phase) None
    (ap (λ (left : Left). left.words) c.in_ok-next_word-2.ensures) c.in_ok-phase.ensures c.in_err-outcome.ensures
    ∙ with_attempt (word_of c.args.name.now) (word_of c.in_ok-next_word.field-0) _ (left_of c.next_word.new.self).words (Some c.in_ok-attempt.attempt)
    (ap (λ (left : Left). left.words) c.in_ok-next_word.ensures) c.in_ok-attempt.ensures

pub returns : goal.returns
returns c =
    with_phase (word_of c.args.name.now) c.in_ok-attempt.attempt (word_of c.in_ok-next_word-2.field-0) _ (left_of c.next_word-2.new.self).words (Some c.in_ok-phase.phase) (Some c.in_ok-outcome.outcome)
    (ap (λ (left : Left). left.words) c.in_ok-next_word-2.ensures) c.in_ok-phase.ensures c.in_ok-outcome.ensures
    ∙ with_attempt (word_of c.args.name.now) (word_of c.in_ok-next_word.field-0) _ (left_of c.next_word.new.self).words (Some c.in_ok-attempt.attempt)
    (ap (λ (left : Left). left.words) c.in_ok-next_word.ensures) c.in_ok-attempt.ensures
