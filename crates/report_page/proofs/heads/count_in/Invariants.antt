use Rattle.std.proofs.Common.{◌≡◌, ◌≤◌}
use Rattle.report_page.specs.Heads.{count_in}
use Rattle.report_page.proofs.heads.count_in.Given as goal

abbrev pub invariant-loop-place : goal.invariant-loop-place
invariant-loop-place l = (l.count ≡ count_in l.rows l.state l.place) × (l.count ≤ l.place)
