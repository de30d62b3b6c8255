use Rattle.std.proofs.Common.{◌∙◌, refl, sym, ap, List, ℕ, ◌+◌, arith, Ok}
use Rattle.std.proofs.lemmas.Bool.{eqb-true}
use Rattle.std.specs.Str.Lines.{lines}
use Rattle.submit_file.specs.Lines.{statements}
use Rattle.submit_file.specs.Forms.{line_says}
use Rattle.submit_file.specs.Placed.{with_placed}
use Rattle.submit_file.specs.Placings.{placing_of}
use Rattle.submit_file.proofs.Places.{told, line_placed, all_placed}
use Rattle.submit_file.proofs.Utf8.{first_text, all_texts}
use Rattle.submit_file.proofs.placed.place_lines.Goals as goal

pub place-requires : goal.place-requires
place-requires c =
    let n = c.loop-rest.number in
    let first = c.in_ok-first.first in
    rw c.as_slice.ensures.value ((first_text n first.text.items (statements n (lines c.loop-rest.rest.now)) (statements (n + first.lines) (lines first.rest.now)) (c.in_ok-first.ensures.first n) c.loop-rest.invariant.texts).0)

pub loop-rest-init : goal.loop-rest-init
loop-rest-init c = record { same = rw c.new.ensures.items refl; bound = omega arith; texts = all_texts 1 c.args.text.now c.requires }

pub loop-rest-preserved : goal.loop-rest-preserved
loop-rest-preserved c =
    let n = c.loop-rest.number in
    let first = c.in_ok-first.first in
    let all = statements n (lines c.loop-rest.rest.now) in
    let more = statements (n + first.lines) (lines first.rest.now) in
    let reads = c.in_ok-first.ensures.first n in
    let p = placing_of c.loop-rest.placer in
    record {
      same = line_placed p (placing_of c.place.new.self) n first.text.items all more reads
          (ap (λ (t : List ℕ). told (with_placed p n (line_says p.queued t))) (sym c.as_slice.ensures.value) ∙ c.in_ok-place.ensures) ∙ c.loop-rest.invariant.same;
      bound = omega (arith, c.in_ok-first.ensures.shorter, c.loop-rest.invariant.bound);
      texts = (first_text n first.text.items all more reads c.loop-rest.invariant.texts).1;
    }

pub returns : goal.returns
returns c =
    ap Ok (sym c.loop-rest.invariant.same ∙ all_placed (placing_of c.loop-rest.placer) c.loop-rest.number c.loop-rest.rest.now (eqb-true _ _ (sym c.is_empty.ensures ∙ c.loop-rest-test.false)))
