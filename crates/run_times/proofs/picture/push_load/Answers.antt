use Rattle.std.proofs.Common.{◌++◌, codes, string_bytes}
use Rattle.std.specs.Prelude.{flat_map}
use Rattle.run_times.specs.Picture.{tenths_text, level_text, scale_text, borders_text}
use Rattle.run_times.proofs.Chains.{added}
use Rattle.run_times.proofs.picture.push_load.Goals as goal

pub returns : goal.returns
returns c =
    added (string_bytes c.args.text.now) (codes "<path class=\"load\" d=\"M") (tenths_text c.args.frame.now.left ++ (codes " " ++ (tenths_text c.args.frame.now.bottom ++ (flat_map (level_text c.args.canvas.now c.args.peak) c.args.levels.now ++ (codes "V" ++ (tenths_text c.args.frame.now.bottom ++ (codes "Z\"/>\n" ++ (scale_text c.args.frame.now c.args.peak ++ (borders_text c.args.frame.now))))))))) c.in_ok-push_str.ensures.bytes
    (added (string_bytes c.push_str.new.self) (tenths_text c.args.frame.now.left) (codes " " ++ (tenths_text c.args.frame.now.bottom ++ (flat_map (level_text c.args.canvas.now c.args.peak) c.args.levels.now ++ (codes "V" ++ (tenths_text c.args.frame.now.bottom ++ (codes "Z\"/>\n" ++ (scale_text c.args.frame.now c.args.peak ++ (borders_text c.args.frame.now)))))))) c.in_ok-push_tenths.ensures
    (added (string_bytes c.push_tenths.new.text) (codes " ") (tenths_text c.args.frame.now.bottom ++ (flat_map (level_text c.args.canvas.now c.args.peak) c.args.levels.now ++ (codes "V" ++ (tenths_text c.args.frame.now.bottom ++ (codes "Z\"/>\n" ++ (scale_text c.args.frame.now c.args.peak ++ (borders_text c.args.frame.now))))))) c.in_ok-push_str-2.ensures.bytes
    (added (string_bytes c.push_str-2.new.self) (tenths_text c.args.frame.now.bottom) (flat_map (level_text c.args.canvas.now c.args.peak) c.args.levels.now ++ (codes "V" ++ (tenths_text c.args.frame.now.bottom ++ (codes "Z\"/>\n" ++ (scale_text c.args.frame.now c.args.peak ++ (borders_text c.args.frame.now)))))) c.in_ok-push_tenths-2.ensures
    (added (string_bytes c.push_tenths-2.new.text) (flat_map (level_text c.args.canvas.now c.args.peak) c.args.levels.now) (codes "V" ++ (tenths_text c.args.frame.now.bottom ++ (codes "Z\"/>\n" ++ (scale_text c.args.frame.now c.args.peak ++ (borders_text c.args.frame.now))))) c.in_ok-push_levels.ensures
    (added (string_bytes c.push_levels.new.text) (codes "V") (tenths_text c.args.frame.now.bottom ++ (codes "Z\"/>\n" ++ (scale_text c.args.frame.now c.args.peak ++ (borders_text c.args.frame.now)))) c.in_ok-push_str-3.ensures.bytes
    (added (string_bytes c.push_str-3.new.self) (tenths_text c.args.frame.now.bottom) (codes "Z\"/>\n" ++ (scale_text c.args.frame.now c.args.peak ++ (borders_text c.args.frame.now))) c.in_ok-push_tenths-3.ensures
    (added (string_bytes c.push_tenths-3.new.text) (codes "Z\"/>\n") (scale_text c.args.frame.now c.args.peak ++ (borders_text c.args.frame.now)) c.in_ok-push_str-4.ensures.bytes
    (added (string_bytes c.push_str-4.new.self) (scale_text c.args.frame.now c.args.peak) (borders_text c.args.frame.now) c.in_ok-push_scale.ensures
    c.in_ok-push_borders.ensures))))))))
