use Rattle.std.proofs.Common.{◌≡◌, ◌++◌, map, drop}
use Rattle.std.specs.List.{flat_map}
use Rattle.fault_list.specs.Emptied.{lines_emptied}
use Rattle.fault_list.specs.Emptying.{with_line_feed, left_by}
use Rattle.fault_list.proofs.emptying.joined_without.Given as goal

abbrev pub invariant-loop-line : goal.invariant-loop-line
invariant-loop-line l =
    l.text.items ++ flat_map with_line_feed (left_by l.emptying (map (λ line. line.now) (drop l.line-index l.lines)))
    ≡ flat_map with_line_feed (lines_emptied l.fn.above (map (λ line. line.now) l.lines))
