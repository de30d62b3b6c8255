use Rattle.std.proofs.Common.{◌≡◌, ◌+◌, ◌-◌, ◌≤◌, ℕ, length, drop}
use Rattle.std.specs.Option.{option_map}
use Rattle.dag_reader.specs.Macros.{closing_quote}
use Rattle.dag_reader.proofs.macro_reader.closing_quote.Given as goal

abbrev pub invariant-loop-at : goal.invariant-loop-at
invariant-loop-at l = (l.at ≤ length l.bytes) × (closing_quote l.bytes ≡ option_map (λ (n : ℕ). l.at + n) (closing_quote (drop l.at l.bytes)))

abbrev pub decreases-loop-at : goal.decreases-loop-at
decreases-loop-at l = length l.bytes - l.at
