use Rattle.std.proofs.Common.{◌++◌, codes, string_bytes}
use Rattle.run_times.specs.Picture.{attribute_text, view_text}
use Rattle.run_times.proofs.Chains.{added}
use Rattle.run_times.proofs.picture.push_opening.Goals as goal

pub returns : goal.returns
returns c =
    added (string_bytes c.args.text.now) (codes "<svg xmlns=\"http://www.w3.org/2000/svg\"") (attribute_text (codes "width") c.args.width ++ (attribute_text (codes "height") c.args.height ++ (view_text c.args.width c.args.height))) c.in_ok-push_str.ensures.bytes
    (added (string_bytes c.push_str.new.self) (attribute_text (codes "width") c.args.width) (attribute_text (codes "height") c.args.height ++ (view_text c.args.width c.args.height)) c.in_ok-push_length.ensures
    (added (string_bytes c.push_length.new.text) (attribute_text (codes "height") c.args.height) (view_text c.args.width c.args.height) c.in_ok-push_length-2.ensures
    c.in_ok-push_view.ensures))
