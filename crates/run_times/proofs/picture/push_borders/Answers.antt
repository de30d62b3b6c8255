use Rattle.std.proofs.Common.{◌++◌, codes, string_bytes}
use Rattle.run_times.specs.Picture.{line_text}
use Rattle.run_times.proofs.Chains.{added}
use Rattle.run_times.proofs.picture.push_borders.Goals as goal

pub returns : goal.returns
returns c =
    added (string_bytes c.args.text.now) (line_text (c.args.frame.now.left, c.args.frame.now.top) (c.args.frame.now.right, c.args.frame.now.top)) (line_text (c.args.frame.now.left, c.args.frame.now.bottom) (c.args.frame.now.right, c.args.frame.now.bottom) ++ (codes "\n")) c.in_ok-push_line.ensures
    (added (string_bytes c.push_line.new.text) (line_text (c.args.frame.now.left, c.args.frame.now.bottom) (c.args.frame.now.right, c.args.frame.now.bottom)) (codes "\n") c.in_ok-push_line-2.ensures
    c.in_ok-push_str.ensures.bytes)
