use Rattle.std.proofs.Common.{◌≡◌, All, map, take}
use Rattle.run_times.specs.declared.limits.Limit.{Limit}
use Rattle.run_times.specs.declared.gains.Gain.{Gain}
use Rattle.run_times.specs.Gains.{IsGain}
use Rattle.run_times.proofs.gains.gains_of.Given as goal

abbrev pub invariant-loop-limit : goal.invariant-loop-limit
invariant-loop-limit l = record {
  counted : map (λ (gain : Gain). gain.counted) l.gains.items ≡ map (λ (limit : Limit). limit.counted) (take l.limit-index l.limit-items);
  each : All (IsGain l.plan.graph l.runs l.limits) l.gains.items;
}
