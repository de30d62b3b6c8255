use Rattle.std.proofs.Common.{◌≡◌, ◌∙◌, arith, ap}
use Rattle.status_report.specs.Text.{lines_of, reported}
use Rattle.status_report.proofs.lines.status_text.Goals as goal

pub returns : goal.returns
returns c =
    let e = c.reported-node-end.ensures.is in
    let f = c.reported-node-end.ensures.few in
    let n : c.loop-node.node ≡ reported c.args.core.now.plan = omega arith in
    c.loop-node.invariant ∙ ap (lines_of c.args.core.now.plan c.args.core.now.past) n
