use Rattle.std.proofs.Common.{◌++◌, codes, string_bytes, ◌∙◌}
use Rattle.run_times.specs.Canvas.{letters_of}
use Rattle.run_times.specs.Names.{bar_label}
use Rattle.run_times.specs.Picture.{attribute_text}
use Rattle.run_times.proofs.Chains.{added}
use Rattle.run_times.proofs.picture.push_text.Goals as goal

pub returns : goal.returns
returns c =
    let y = c.in_ok-push_length-2.ensures ∙ (λ j. string_bytes c.push_length.new.text ++ attribute_text (codes "y") (c.letters.ensures j)) in
    added (string_bytes c.args.text.now) (codes "<text") (attribute_text (codes "x") c.args.place ++ (attribute_text (codes "y") (letters_of c.args.canvas.now c.args.bar.now.slot) ++ (attribute_text (codes "textLength") c.args.bar.now.label_width ++ (codes ">" ++ (bar_label c.args.bar.now.run ++ (codes "</text>")))))) c.in_ok-push_str.ensures.bytes
    (added (string_bytes c.push_str.new.self) (attribute_text (codes "x") c.args.place) (attribute_text (codes "y") (letters_of c.args.canvas.now c.args.bar.now.slot) ++ (attribute_text (codes "textLength") c.args.bar.now.label_width ++ (codes ">" ++ (bar_label c.args.bar.now.run ++ (codes "</text>"))))) c.in_ok-push_length.ensures
    (added (string_bytes c.push_length.new.text) (attribute_text (codes "y") (letters_of c.args.canvas.now c.args.bar.now.slot)) (attribute_text (codes "textLength") c.args.bar.now.label_width ++ (codes ">" ++ (bar_label c.args.bar.now.run ++ (codes "</text>")))) y
    (added (string_bytes c.push_length-2.new.text) (attribute_text (codes "textLength") c.args.bar.now.label_width) (codes ">" ++ (bar_label c.args.bar.now.run ++ (codes "</text>"))) c.in_ok-push_length-3.ensures
    (added (string_bytes c.push_length-3.new.text) (codes ">") (bar_label c.args.bar.now.run ++ (codes "</text>")) c.in_ok-push_str-2.ensures.bytes
    (added (string_bytes c.push_str-2.new.self) (bar_label c.args.bar.now.run) (codes "</text>") c.in_ok-push_label.ensures
    c.in_ok-push_str-3.ensures.bytes)))))
