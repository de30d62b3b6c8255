use Rattle.std.specs.Prelude.{string_bytes}
use Rattle.std.proofs.lemmas.Result.{on_ok_weaker}
use Rattle.report_page.specs.Drawings.{all_shapes_text, drawing_head, drawing_text, omission_text}
use Rattle.report_page.proofs.Joined.{joined}
use Rattle.report_page.proofs.drawings.push_drawing.Goals as goal

pub returns : goal.returns
unfolding drawing_text
returns c = on_ok_weaker c.push_own.result (λ end. joined (string_bytes c.args.text.now) (string_bytes c.push_omission.new.text) _ (omission_text c.args.drawing.now.omission) _ c.in_ok-push_omission.ensures (joined (string_bytes c.push_omission.new.text) (string_bytes c.push_drawing_head.new.text) _ (drawing_head c.args.name.now c.args.drawing.now.width c.args.drawing.now.height) _ c.in_ok-push_drawing_head.ensures (joined (string_bytes c.push_drawing_head.new.text) (string_bytes c.push_shapes_of.new.text) _ (all_shapes_text c.args.drawing.now) _ c.in_ok-push_shapes_of.ensures end))) c.push_own.ensures
