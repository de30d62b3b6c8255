use Rattle.std.proofs.Common.{◌++◌, codes, string_bytes}
use Rattle.run_times.specs.Picture.{attribute_text, line_text, tick_text}
use Rattle.run_times.proofs.Chains.{added}
use Rattle.run_times.proofs.picture.push_mark.Goals as goal

pub returns : goal.returns
returns c =
    added (string_bytes c.args.text.now) (line_text (c.args.place, c.args.head) (c.args.place, c.args.bottom)) (codes "<text text-anchor=\"middle\"" ++ (attribute_text (codes "x") c.args.place ++ (attribute_text (codes "y") c.args.head ++ (codes " dy=\"-6\">" ++ (tick_text c.args.time c.args.step ++ (codes "</text>\n")))))) c.in_ok-push_line.ensures
    (added (string_bytes c.push_line.new.text) (codes "<text text-anchor=\"middle\"") (attribute_text (codes "x") c.args.place ++ (attribute_text (codes "y") c.args.head ++ (codes " dy=\"-6\">" ++ (tick_text c.args.time c.args.step ++ (codes "</text>\n"))))) c.in_ok-push_str.ensures.bytes
    (added (string_bytes c.push_str.new.self) (attribute_text (codes "x") c.args.place) (attribute_text (codes "y") c.args.head ++ (codes " dy=\"-6\">" ++ (tick_text c.args.time c.args.step ++ (codes "</text>\n")))) c.in_ok-push_length.ensures
    (added (string_bytes c.push_length.new.text) (attribute_text (codes "y") c.args.head) (codes " dy=\"-6\">" ++ (tick_text c.args.time c.args.step ++ (codes "</text>\n"))) c.in_ok-push_length-2.ensures
    (added (string_bytes c.push_length-2.new.text) (codes " dy=\"-6\">") (tick_text c.args.time c.args.step ++ (codes "</text>\n")) c.in_ok-push_str-2.ensures.bytes
    (added (string_bytes c.push_str-2.new.self) (tick_text c.args.time c.args.step) (codes "</text>\n") c.in_ok-push_tick.ensures
    c.in_ok-push_str-3.ensures.bytes)))))
