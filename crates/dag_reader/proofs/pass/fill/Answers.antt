use Rattle.std.proofs.Common.{◌∙◌, sym, ap, refl, Err}
use Rattle.std.proofs.lemmas.Result.{err_from_is_err_and}
use Rattle.dag_reader.specs.declared.fault.LineFault.TheVariants.{MissingWord}
use Rattle.dag_reader.specs.declared.span.Span.{Span}
use Rattle.dag_reader.specs.LineReader.{Left, left_of, word_of}
use Rattle.dag_reader.specs.LayoutViews.{state_of, values_of}
use Rattle.dag_reader.proofs.Rows.{word_read, word_refused, end_read}
use Rattle.dag_reader.proofs.pass.fill.Goals as goal

pub loop-word-preserved : goal.loop-word-preserved
loop-word-preserved c = word_read (state_of c.loop-word.pass (values_of c.loop-word.values)) (state_of c.step.new.self (values_of c.step.new.values)) (word_of c.in-Some.word) (left_of c.loop-word.line) (left_of c.next_word.new.self) _ c.in-Some.ensures c.in_ok-step.ensures c.loop-word.invariant

pub returns-in_err-step : goal.returns-in_err-step
returns-in_err-step c =
    let p = err_from_is_err_and c.from_residual.result c.from_residual.ensures.1 in
    rw (p.1, p.2) (word_refused c.in_err-step.field-0.0 (state_of c.loop-word.pass (values_of c.loop-word.values)) (word_of c.in-Some.word) (left_of c.loop-word.line) (left_of c.next_word.new.self) _ c.in-Some.ensures c.in_err-step.ensures c.loop-word.invariant)

pub returns-then-not-may_stop : goal.returns-then-not-may_stop
returns-then-not-may_stop c =
    let left = left_of c.loop-word.line in
    sym c.loop-word.invariant ∙ end_read (state_of c.loop-word.pass (values_of c.loop-word.values)) left c.in_default.ensures.0 ∙ rw (sym c.may_stop.ensures, c.if-not-may_stop.true) (ap (λ (s : Span). Err (MissingWord s)) (sym (c.end.ensures ∙ ap (λ (l : Left). l.end) c.in_default.ensures.1)))

pub returns : goal.returns
returns c =
    let left = left_of c.loop-word.line in
    sym c.loop-word.invariant ∙ end_read (state_of c.loop-word.pass (values_of c.loop-word.values)) left c.in_default.ensures.0 ∙ rw (sym c.may_stop.ensures, c.if-not-may_stop.false) refl
