use Rattle.std.proofs.Common.{◌++◌, string_bytes}
use Rattle.run_times.specs.Summary.{path_head, parts_text, kinds_head, kinds_text}
use Rattle.run_times.proofs.Chains.{added}
use Rattle.run_times.proofs.summary.push_lists.Goals as goal

pub returns : goal.returns
returns c =
    let shown = c.args.shown.now in
    let path = c.args.path.now in
    let kinds = c.args.kinds.now in
    added (string_bytes c.args.text.now) path_head (parts_text shown.graph.now shown.limits.now shown.runs.now path ++ (kinds_head ++ kinds_text kinds)) c.in_ok-push_str.ensures.bytes
    (added (string_bytes c.push_str.new.self) (parts_text shown.graph.now shown.limits.now shown.runs.now path) (kinds_head ++ kinds_text kinds) c.in_ok-push_parts.ensures
    (added (string_bytes c.push_parts.new.text) kinds_head (kinds_text kinds) c.in_ok-push_str-2.ensures.bytes c.in_ok-push_kinds.ensures))
