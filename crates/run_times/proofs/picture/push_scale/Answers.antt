use Rattle.std.proofs.Common.{◌++◌, codes, string_bytes}
use Rattle.std.specs.Fmt.{decimal}
use Rattle.run_times.specs.Picture.{word_opening}
use Rattle.run_times.proofs.Chains.{added}
use Rattle.run_times.proofs.picture.push_scale.Goals as goal

pub returns : goal.returns
returns c =
    added (string_bytes c.args.text.now) (word_opening c.args.frame.now.left c.args.frame.now.words) (codes "phases at once: at most " ++ (decimal c.args.peak ++ (codes "</text>" ++ (word_opening c.args.frame.now.scale c.args.frame.now.top ++ (decimal c.args.peak ++ (codes "</text>" ++ (word_opening c.args.frame.now.scale c.args.frame.now.bottom ++ (codes "0</text>\n")))))))) c.in_ok-push_word_at.ensures
    (added (string_bytes c.push_word_at.new.text) (codes "phases at once: at most ") (decimal c.args.peak ++ (codes "</text>" ++ (word_opening c.args.frame.now.scale c.args.frame.now.top ++ (decimal c.args.peak ++ (codes "</text>" ++ (word_opening c.args.frame.now.scale c.args.frame.now.bottom ++ (codes "0</text>\n"))))))) c.in_ok-push_str.ensures.bytes
    (added (string_bytes c.push_str.new.self) (decimal c.args.peak) (codes "</text>" ++ (word_opening c.args.frame.now.scale c.args.frame.now.top ++ (decimal c.args.peak ++ (codes "</text>" ++ (word_opening c.args.frame.now.scale c.args.frame.now.bottom ++ (codes "0</text>\n")))))) c.in_ok-push_number.ensures
    (added (string_bytes c.push_number.new.text) (codes "</text>") (word_opening c.args.frame.now.scale c.args.frame.now.top ++ (decimal c.args.peak ++ (codes "</text>" ++ (word_opening c.args.frame.now.scale c.args.frame.now.bottom ++ (codes "0</text>\n"))))) c.in_ok-push_str-2.ensures.bytes
    (added (string_bytes c.push_str-2.new.self) (word_opening c.args.frame.now.scale c.args.frame.now.top) (decimal c.args.peak ++ (codes "</text>" ++ (word_opening c.args.frame.now.scale c.args.frame.now.bottom ++ (codes "0</text>\n")))) c.in_ok-push_word_at-2.ensures
    (added (string_bytes c.push_word_at-2.new.text) (decimal c.args.peak) (codes "</text>" ++ (word_opening c.args.frame.now.scale c.args.frame.now.bottom ++ (codes "0</text>\n"))) c.in_ok-push_number-2.ensures
    (added (string_bytes c.push_number-2.new.text) (codes "</text>") (word_opening c.args.frame.now.scale c.args.frame.now.bottom ++ (codes "0</text>\n")) c.in_ok-push_str-3.ensures.bytes
    (added (string_bytes c.push_str-3.new.self) (word_opening c.args.frame.now.scale c.args.frame.now.bottom) (codes "0</text>\n") c.in_ok-push_word_at-3.ensures
    c.in_ok-push_str-4.ensures.bytes)))))))
