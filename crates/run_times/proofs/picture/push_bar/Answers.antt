use Rattle.std.proofs.Common.{◌++◌, codes, string_bytes}
use Rattle.run_times.specs.Picture.{class_text, bar_title, rectangle_text, label_of}
use Rattle.run_times.proofs.Chains.{added}
use Rattle.run_times.proofs.picture.push_bar.Goals as goal

pub returns : goal.returns
returns c =
    added (string_bytes c.args.text.now) (class_text c.args.bar.now) (bar_title c.args.bar.now.run ++ (rectangle_text c.args.canvas.now c.args.bar.now ++ (label_of c.args.canvas.now c.args.bar.now c.args.bar.now.label ++ (codes "</g>\n")))) c.in_ok-push_class.ensures
    (added (string_bytes c.push_class.new.text) (bar_title c.args.bar.now.run) (rectangle_text c.args.canvas.now c.args.bar.now ++ (label_of c.args.canvas.now c.args.bar.now c.args.bar.now.label ++ (codes "</g>\n"))) c.in_ok-push_title.ensures
    (added (string_bytes c.push_title.new.text) (rectangle_text c.args.canvas.now c.args.bar.now) (label_of c.args.canvas.now c.args.bar.now c.args.bar.now.label ++ (codes "</g>\n")) c.in_ok-push_rectangle.ensures
    (added (string_bytes c.push_rectangle.new.text) (label_of c.args.canvas.now c.args.bar.now c.args.bar.now.label) (codes "</g>\n") c.in_ok-push_label_of.ensures
    c.in_ok-push_str.ensures.bytes)))
