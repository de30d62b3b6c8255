use Rattle.std.proofs.Common.{sym, ◌∙◌, arith}
use Rattle.submit_file.proofs.Fronts.{all_counted}
use Rattle.submit_file.proofs.lines.blanks_end.Goals as goal

pub returns-else-is_blank : goal.returns-else-is_blank
returns-else-is_blank c = record {
  front = c.loop-end.invariant;
  behind = all_counted c.args.text.now c.loop-end.end c.loop-end.invariant (λ less. sym c.is_blank.ensures ∙ c.if-is_blank.false);
}

pub returns-after-loop-end : goal.returns-after-loop-end
returns-after-loop-end c = record {
  front = c.loop-end.invariant;
  behind = all_counted c.args.text.now c.loop-end.end c.loop-end.invariant (λ less. absurd (omega (arith, less, c.loop-end-test.false)));
}
