use Rattle.std.specs.Prelude.{string_bytes, codes}
use Rattle.std.proofs.lemmas.Result.{on_ok_weaker}
use Rattle.report_page.specs.Rows.{job_text, node_row, status_cells, time_cells}
use Rattle.report_page.specs.States.{look_class, look_of}
use Rattle.report_page.proofs.Joined.{joined}
use Rattle.report_page.proofs.rows.push_row.Goals as goal

pub returns : goal.returns
unfolding node_row
returns c = on_ok_weaker c.push_own-4.result (λ end. joined (string_bytes c.args.text.now) (string_bytes c.push_own.new.text) _ (codes "<tr class=\"") _ c.in_ok-push_own.ensures (joined (string_bytes c.push_own.new.text) (string_bytes c.push_state_class.new.text) _ (look_class (look_of c.args.row.now.state)) _ c.in_ok-push_state_class.ensures (joined (string_bytes c.push_state_class.new.text) (string_bytes c.push_own-2.new.text) _ (codes "\">") _ c.in_ok-push_own-2.ensures (joined (string_bytes c.push_own-2.new.text) (string_bytes c.push_status_cells.new.text) _ (status_cells c.args.row.now) _ c.in_ok-push_status_cells.ensures (joined (string_bytes c.push_status_cells.new.text) (string_bytes c.push_time_cells.new.text) _ (time_cells c.args.row.now) _ c.in_ok-push_time_cells.ensures (joined (string_bytes c.push_time_cells.new.text) (string_bytes c.push_own-3.new.text) _ (codes "<td>") _ c.in_ok-push_own-3.ensures (joined (string_bytes c.push_own-3.new.text) (string_bytes c.push_job.new.text) _ (job_text c.args.row.now) _ c.in_ok-push_job.ensures end))))))) c.push_own-4.ensures
