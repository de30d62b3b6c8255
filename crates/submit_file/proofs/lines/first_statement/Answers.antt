use Rattle.std.proofs.Common.{◌≡◌, List, ℕ, true, sym, subst, ◌∙◌}
use Rattle.submit_file.specs.Lines.{is_continued}
use Rattle.submit_file.specs.Fronts.{BeginsWithBlanks}
use Rattle.submit_file.proofs.Fronts.{kept}
use Rattle.submit_file.proofs.lines.first_statement.Goals as goal

pub blanks_end-blanks-requires-in-loop-rest : goal.blanks_end-blanks-requires-in-loop-rest
blanks_end-blanks-requires-in-loop-rest c =
    let goes : is_continued c.loop-rest.joined.items ≡ true = subst (λ (t : List ℕ). is_continued t ≡ true) c.as_slice-in-loop-rest.ensures.value (sym c.is_continued.ensures ∙ c.loop-rest-test.true) in
    subst (BeginsWithBlanks c.loop-rest.blanks) (sym (c.as_slice-in-loop-rest-2.ensures.value ∙ c.in_ok-extend_from_slice.ensures.items))
    (kept c.loop-rest.joined.items c.pop.new.self.items c.pop.result c.split_line-in-loop-rest.result.0.now c.loop-rest.blanks c.pop.ensures.items
    c.loop-rest.invariant.front.front goes)
