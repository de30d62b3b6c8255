use Rattle.std.proofs.Common.{◌++◌, codes, string_bytes}
use Rattle.run_times.specs.Table.{seconds_text}
use Rattle.run_times.proofs.Chains.{added}
use Rattle.run_times.proofs.summary.push_limits.Goals as goal

pub returns : goal.returns
returns c =
    added (string_bytes c.args.text.now) (codes "without limits it would have taken at least ") (seconds_text c.args.soonest ++ codes " s\n") c.in_ok-push_str.ensures.bytes
    (added (string_bytes c.push_str.new.self) (seconds_text c.args.soonest) (codes " s\n") c.in_ok-push_seconds.ensures c.in_ok-push_str-2.ensures.bytes)
