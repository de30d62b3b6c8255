use Rattle.std.proofs.Common.{◌++◌, codes, string_bytes}
use Rattle.run_times.specs.Table.{seconds_text}
use Rattle.run_times.specs.Summary.{counted_text}
use Rattle.run_times.proofs.Chains.{added}
use Rattle.run_times.proofs.summary.push_gain.Goals as goal

pub returns : goal.returns
returns c =
    let gain = c.args.gain.now in
    let counted = counted_text gain.counted in
    let without = seconds_text gain.without in
    let all = seconds_text gain.under_all in
    added (string_bytes c.args.text.now) (codes "with no limit on ") (counted ++ (codes " it would have taken " ++ (without ++ (codes " s, " ++ (all ++ codes " s with all limits\n"))))) c.in_ok-push_str.ensures.bytes
    (added (string_bytes c.push_str.new.self) counted (codes " it would have taken " ++ (without ++ (codes " s, " ++ (all ++ codes " s with all limits\n")))) c.in_ok-push_counted.ensures
    (added (string_bytes c.push_counted.new.text) (codes " it would have taken ") (without ++ (codes " s, " ++ (all ++ codes " s with all limits\n"))) c.in_ok-push_str-2.ensures.bytes
    (added (string_bytes c.push_str-2.new.self) without (codes " s, " ++ (all ++ codes " s with all limits\n")) c.in_ok-push_seconds.ensures
    (added (string_bytes c.push_seconds.new.text) (codes " s, ") (all ++ codes " s with all limits\n") c.in_ok-push_str-3.ensures.bytes
    (added (string_bytes c.push_str-3.new.self) all (codes " s with all limits\n") c.in_ok-push_seconds-2.ensures c.in_ok-push_str-4.ensures.bytes)))))
