use Rattle.std.proofs.Common.{◌≡◌, map, drop}
use Rattle.splices_flat.specs.Notices.{overridden, place, with_notices}
use Rattle.splices.proofs.notices.Notices.add_replaced.Given as goal

abbrev pub invariant-loop-line : goal.invariant-loop-line
invariant-loop-line l =
    with_notices l.self (map (λ line. overridden (place l.path line) (place l.path l.later_line)) (drop l.line-index l.lines))
    ≡ with_notices l.initial.self (map (λ line. overridden (place l.path line) (place l.path l.later_line)) l.lines)
