use Rattle.std.proofs.Common.{◌≡◌, ℕ, suc, ◌+◌, ◌++◌, string_bytes, append_assoc, ap, ◌∙◌, arith}
use Rattle.run_times.specs.Canvas.{axis_place}
use Rattle.run_times.specs.Picture.{axis_text, axis_mark}
use Rattle.run_times.proofs.picture.push_axis.Goals as goal

pub loop-mark-preserved : goal.loop-mark-preserved
loop-mark-preserved c =
    let canvas = c.args.canvas.now in
    let n = c.loop-mark.mark in
    let one : suc n ≡ n + 1 = omega arith in
    let time = c.saturating_mul-time.ensures in
    c.in_ok-push_mark.ensures
    ∙ (λ j. c.loop-mark.invariant j ++ axis_mark ((c.place.ensures ∙ ap (axis_place canvas) time) j) c.args.head (c.load_bottom.ensures j) (time j) c.args.step)
    ∙ append_assoc (string_bytes c.args.text.now) (axis_text canvas c.args.head c.args.step n) _
    ∙ ap (λ (m : ℕ). string_bytes c.args.text.now ++ axis_text canvas c.args.head c.args.step m) one
