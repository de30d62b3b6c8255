use Rattle.std.proofs.Common.{List, ℕ, ◌++◌, length, codes, string_bytes, ap, subst, ◌∙◌}
use Rattle.std.specs.Prelude.{flat_map}
use Rattle.run_times.specs.declared.bars.Bar.{Bar}
use Rattle.run_times.specs.declared.load.Level.{Level}
use Rattle.run_times.specs.declared.canvas.Canvas.{Canvas}
use Rattle.run_times.specs.declared.canvas.Frame.{Frame}
use Rattle.run_times.specs.declared.canvas.TheConstants.{MARKS, WIDTH}
use Rattle.run_times.specs.declared.style.TheConstants.{STYLE}
use Rattle.run_times.specs.Bars.{AreBars}
use Rattle.run_times.specs.Canvas.{frame_of, picture_height_of}
use Rattle.run_times.specs.Picture.{axis_text, bar_text, load_text, axis_marks, svg_opening, peak_of, picture_text_of}
use Rattle.run_times.proofs.Chains.{added}
use Rattle.run_times.proofs.picture.picture_text.Goals as goal

pub returns : goal.returns
returns c =
    let canvas = c.new-canvas.result in
    let bars = c.in_ok-bars.bars.items in
    let levels = c.in_ok-levels.levels.items in
    let step = c.step_of-step.result in
    let ticks = axis_marks canvas.total step in
    let peak = peak_of levels (length levels) in
    let opening = c.in_ok-push_opening.ensures ∙ ap (λ (height : ℕ). string_bytes c.new-text.result ++ svg_opening WIDTH height) c.picture_height.ensures in
    let drawn = c.in_ok-push_bars.ensures ∙ ap (λ (xs : List Bar). string_bytes c.push_axis.new.text ++ flat_map (bar_text canvas) xs) c.deref.ensures.value in
    let load = c.in_ok-push_load.ensures ∙ ap (λ (frame : Frame). string_bytes c.push_bars.new.text ++ load_text canvas frame c.peak_of.result c.deref-3.result.now) c.frame.ensures
    ∙ ap (λ (n : ℕ). string_bytes c.push_bars.new.text ++ load_text canvas (frame_of canvas) n c.deref-3.result.now) c.peak_of.ensures
    ∙ ap (λ (xs : List Level). string_bytes c.push_bars.new.text ++ load_text canvas (frame_of canvas) (peak_of xs (length xs)) c.deref-3.result.now) c.deref-2.ensures.value
    ∙ ap (λ (xs : List Level). string_bytes c.push_bars.new.text ++ load_text canvas (frame_of canvas) peak xs) c.deref-3.ensures.value in
    let axis = c.in_ok-push_axis.ensures ∙ ap (λ (n : ℕ). string_bytes c.push_str.new.self ++ axis_text canvas MARKS step n) c.marks_of.ensures in
    let whole =
    added (string_bytes c.new-text.result) (svg_opening WIDTH (picture_height_of canvas)) (STYLE.now ++ (axis_text canvas MARKS step ticks ++ (flat_map (bar_text canvas) bars ++ (load_text canvas (frame_of canvas) peak levels ++ (codes "</svg>\n"))))) opening
    (added (string_bytes c.push_opening.new.text) (STYLE.now) (axis_text canvas MARKS step ticks ++ (flat_map (bar_text canvas) bars ++ (load_text canvas (frame_of canvas) peak levels ++ (codes "</svg>\n")))) c.in_ok-push_str.ensures.bytes
    (added (string_bytes c.push_str.new.self) (axis_text canvas MARKS step ticks) (flat_map (bar_text canvas) bars ++ (load_text canvas (frame_of canvas) peak levels ++ (codes "</svg>\n"))) axis
    (added (string_bytes c.push_axis.new.text) (flat_map (bar_text canvas) bars) (load_text canvas (frame_of canvas) peak levels ++ (codes "</svg>\n")) drawn
    (added (string_bytes c.push_bars.new.text) (load_text canvas (frame_of canvas) peak levels) (codes "</svg>\n") load
    c.in_ok-push_str-2.ensures.bytes)))) in
    record {
      slots = c.in_ok-slots.slots.of.items;
      count = c.in_ok-slots.slots.count;
      are_slots = c.in_ok-slots.ensures;
      bars = bars;
      are_bars = subst (λ (drawn_on : Canvas). AreBars drawn_on c.args.runs.now c.args.marks.now c.in_ok-slots.slots.of.items bars) c.new-canvas.ensures c.in_ok-bars.ensures;
      step = step;
      levels = levels;
      are_levels = c.in_ok-levels.ensures;
      text_is = whole ∙ ap (λ (text : List ℕ). text ++ picture_text_of canvas bars step levels) c.new-text.ensures.bytes
          ∙ ap (λ (drawn_on : Canvas). picture_text_of drawn_on bars step levels) c.new-canvas.ensures;
    }
