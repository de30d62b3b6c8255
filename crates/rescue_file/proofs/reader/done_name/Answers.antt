use Rattle.std.proofs.Common.{◌∙◌, sym, ap, List, ◌∷◌}
use Rattle.dag_reader.specs.Word.{PlacedText}
use Rattle.dag_reader.specs.LineReader.{Left, left_of, word_of}
use Rattle.rescue_file.specs.Reading.{last_name}
use Rattle.rescue_file.proofs.LineReadings.{no_keyword, with_keyword}
use Rattle.rescue_file.proofs.reader.done_name.Goals as goal

pub returns-then-not-is : goal.returns-then-not-is
returns-then-not-is c = no_keyword (word_of c.args.keyword.now) (left_of c.args.line.now).words (sym c.is.ensures ∙ c.if-not-is.true)

pub returns-in_err-name : goal.returns-in_err-name
returns-in_err-name c =
    rw c.from_residual.ensures
    (sym (with_keyword (word_of c.args.keyword.now) (left_of c.args.line.now).words (sym c.is.ensures ∙ c.if-not-is.false) ∙ ap last_name c.in_err-name.ensures.0))

pub returns-in-Some : goal.returns-in-Some
returns-in-Some c =
    let name = word_of c.in_ok-name.name in
    sym (with_keyword (word_of c.args.keyword.now) (left_of c.args.line.now).words (sym c.is.ensures ∙ c.if-not-is.false)
    ∙ ap last_name (ap (λ (left : Left). left.words) c.in_ok-name.ensures ∙ ap (λ (left : Left). name ∷ left.words) c.in-Some.ensures))

pub returns-in-None : goal.returns-in-None
returns-in-None c =
    let name = word_of c.in_ok-name.name in
    sym (with_keyword (word_of c.args.keyword.now) (left_of c.args.line.now).words (sym c.is.ensures ∙ c.if-not-is.false)
    ∙ ap last_name (ap (λ (left : Left). left.words) c.in_ok-name.ensures ∙ ap (λ (ws : List PlacedText). name ∷ ws) c.in-None.ensures.0))
