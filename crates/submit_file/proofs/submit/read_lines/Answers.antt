use Rattle.std.proofs.Common.{◌∙◌, refl, sym, ap, arith, List, ℕ, ◌+◌}
use Rattle.std.proofs.lemmas.Bool.{eqb-true}
use Rattle.std.proofs.lemmas.Result.{err_from_is_err_and}
use Rattle.std.specs.Str.Lines.{lines}
use Rattle.submit_file.specs.Lines.{statements}
use Rattle.submit_file.specs.Forms.{line_says}
use Rattle.submit_file.specs.Submit.{Fails, with_submit_line, submit_of}
use Rattle.submit_file.specs.Readings.{reading_of}
use Rattle.submit_file.proofs.Statements.{line_read, line_fails, no_queue, all_read}
use Rattle.submit_file.proofs.Utf8.{first_text, all_texts}
use Rattle.submit_file.proofs.submit.read_lines.Goals as goal

pub returns-in_err-read : goal.returns-in_err-read
returns-in_err-read c =
    let n = c.loop-rest.number in
    let first = c.in_ok-first.first in
    let p = err_from_is_err_and c.from_residual-in_err-read.result c.from_residual-in_err-read.ensures.1 in
    let r = reading_of c.loop-rest.reader in
    let h : Fails c.in_err-read.field-0.0 (with_submit_line r n (line_says r.queued first.text.items)) = rw c.as_slice.ensures.value at c.in_err-read.ensures in
    rw (p.1, p.2) (line_fails c.in_err-read.field-0.0 r n first.text.items (statements n (lines c.loop-rest.rest.now)) (statements (n + first.lines) (lines first.rest.now)) (submit_of c.args.text.now) (c.in_ok-first.ensures.first n) h c.loop-rest.invariant.same)

pub read-requires : goal.read-requires
read-requires c =
    let n = c.loop-rest.number in
    let first = c.in_ok-first.first in
    rw c.as_slice.ensures.value ((first_text n first.text.items (statements n (lines c.loop-rest.rest.now)) (statements (n + first.lines) (lines first.rest.now)) (c.in_ok-first.ensures.first n) c.loop-rest.invariant.texts).0)

pub loop-rest-init : goal.loop-rest-init
loop-rest-init c = record { same = rw c.new.ensures.items refl; bound = omega arith; texts = all_texts 1 c.args.text.now c.requires }

pub loop-rest-preserved : goal.loop-rest-preserved
loop-rest-preserved c =
    let n = c.loop-rest.number in
    let first = c.in_ok-first.first in
    let all = statements n (lines c.loop-rest.rest.now) in
    let more = statements (n + first.lines) (lines first.rest.now) in
    let reads = c.in_ok-first.ensures.first n in
    record {
      same = sym (line_read (reading_of c.loop-rest.reader) (reading_of c.read.new.self) n first.text.items all more reads
          (ap (λ (t : List ℕ). with_submit_line (reading_of c.loop-rest.reader) n (line_says c.loop-rest.reader.queued t)) (sym c.as_slice.ensures.value) ∙ c.in_ok-read.ensures)) ∙ c.loop-rest.invariant.same;
      bound = omega (arith, c.in_ok-first.ensures.shorter, c.loop-rest.invariant.bound);
      texts = (first_text n first.text.items all more reads c.loop-rest.invariant.texts).1;
    }

pub returns-then-not-reader : goal.returns-then-not-reader
returns-then-not-reader c =
    sym c.loop-rest.invariant.same ∙ no_queue (reading_of c.loop-rest.reader) c.loop-rest.number c.loop-rest.rest.now (eqb-true _ _ (sym c.is_empty.ensures ∙ c.loop-rest-test.false)) c.if-not-reader.true

pub returns : goal.returns
returns c =
    sym c.loop-rest.invariant.same ∙ all_read (reading_of c.loop-rest.reader) c.loop-rest.number c.loop-rest.rest.now (eqb-true _ _ (sym c.is_empty.ensures ∙ c.loop-rest-test.false)) c.if-not-reader.false
