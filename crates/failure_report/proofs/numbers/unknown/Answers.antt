use Rattle.std.proofs.Common.{Bor, List, ℕ}
use Rattle.std.specs.Option.{option_map}
use Rattle.failure_report.proofs.Naming.{parts-of}
use Rattle.failure_report.proofs.numbers.unknown.Goals as goal

pub returns : goal.returns
returns c = record {
  near = option_map (λ (n : Bor (List ℕ)). n.now) c.in_ok-near.near;
  line_is = parts-of _ _ _ _ _ _ _ _ _ _ _ c.new-text.ensures.bytes c.in_ok-push_str.ensures.bytes c.in_ok-push_word.ensures c.in_ok-push_str-2.ensures.bytes c.in_ok-push_word-2.ensures c.in_ok-push_nearest.ensures;
}
