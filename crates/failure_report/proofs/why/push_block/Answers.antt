use Rattle.std.proofs.Common.{◌++◌, List, ℕ, string_bytes, ap, ◌∙◌}
use Rattle.failure_report.proofs.why.push_block.Goals as goal

pub returns : goal.returns
returns g c = record {
  gap = c.gap_behind.result.now;
  block = string_bytes c.in_ok-block.block;
  reported = c.in_ok-block.ensures;
  added = c.in_ok-push_str-2.ensures.bytes ∙ ap (λ (t : List ℕ). t ++ c.as_str-2.result.now) c.in_ok-push_str.ensures.bytes ∙ ap (λ (b : List ℕ). (string_bytes c.args.text.now ++ c.gap_behind.result.now) ++ b) c.as_str-2.ensures.value;
}
