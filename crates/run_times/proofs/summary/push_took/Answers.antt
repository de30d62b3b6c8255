use Rattle.std.proofs.Common.{◌++◌, codes, string_bytes}
use Rattle.run_times.specs.Table.{seconds_text}
use Rattle.run_times.proofs.Chains.{added}
use Rattle.run_times.proofs.summary.push_took.Goals as goal

pub returns : goal.returns
returns c =
    added (string_bytes c.args.text.now) (codes "took ") (seconds_text c.args.took ++ (codes " s, " ++ (seconds_text c.args.lasted ++ codes " s of it in the phases of the critical path\n"))) c.in_ok-push_str.ensures.bytes
    (added (string_bytes c.push_str.new.self) (seconds_text c.args.took) (codes " s, " ++ (seconds_text c.args.lasted ++ codes " s of it in the phases of the critical path\n")) c.in_ok-push_seconds.ensures
    (added (string_bytes c.push_seconds.new.text) (codes " s, ") (seconds_text c.args.lasted ++ codes " s of it in the phases of the critical path\n") c.in_ok-push_str-2.ensures.bytes
    (added (string_bytes c.push_str-2.new.self) (seconds_text c.args.lasted) (codes " s of it in the phases of the critical path\n") c.in_ok-push_seconds-2.ensures
    c.in_ok-push_str-3.ensures.bytes)))
