use Rattle.std.proofs.Common.{nat_le, chars, arith, sym, ap, ◌∙◌}
use Rattle.run_progress.specs.Columns.{columns}
use Rattle.run_progress.proofs.Shortening.{longest_list-shorter}
use Rattle.run_progress.proofs.line.longest_text.Goals as goal

pub loop-count-preserved : goal.loop-count-preserved
loop-count-preserved c =
    let listed = c.as_str.ensures.value ∙ c.in_ok-text.ensures in
    let wide = ap (λ text. nat_le (columns (chars text)) c.args.room) (sym listed) ∙ (sym c.fits.ensures ∙ c.if-fits.false) in
    record {
      within = omega (arith, c.loop-count.invariant.within);
      same = c.loop-count.invariant.same ∙ longest_list-shorter _ _ _ _ c.loop-count-test.true wide;
    }
