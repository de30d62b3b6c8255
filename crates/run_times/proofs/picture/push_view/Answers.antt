use Rattle.std.proofs.Common.{◌++◌, codes, string_bytes}
use Rattle.run_times.specs.Picture.{tenths_text}
use Rattle.run_times.proofs.Chains.{added}
use Rattle.run_times.proofs.picture.push_view.Goals as goal

pub returns : goal.returns
returns c =
    added (string_bytes c.args.text.now) (codes " viewBox=\"0 0 ") (tenths_text c.args.width ++ (codes " " ++ (tenths_text c.args.height ++ (codes "\">\n")))) c.in_ok-push_str.ensures.bytes
    (added (string_bytes c.push_str.new.self) (tenths_text c.args.width) (codes " " ++ (tenths_text c.args.height ++ (codes "\">\n"))) c.in_ok-push_tenths.ensures
    (added (string_bytes c.push_tenths.new.text) (codes " ") (tenths_text c.args.height ++ (codes "\">\n")) c.in_ok-push_str-2.ensures.bytes
    (added (string_bytes c.push_str-2.new.self) (tenths_text c.args.height) (codes "\">\n") c.in_ok-push_tenths-2.ensures
    c.in_ok-push_str-3.ensures.bytes)))
