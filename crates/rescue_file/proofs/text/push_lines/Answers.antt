use Rattle.std.proofs.Common.{refl, ◌++◌, string_bytes}
use Rattle.rescue_file.proofs.DoneLines.{lines_of, with_node, all_lines}
use Rattle.rescue_file.proofs.text.push_lines.Goals as goal

pub loop-number-preserved : goal.loop-number-preserved
loop-number-preserved c =
    let nodes = c.args.nodes.now in
    let marks = c.args.marks.now in
    with_node nodes marks c.loop-number.number c.index-nodes-number.result c.loop-number-test.true c.requires c.index-nodes-number.is
    (string_bytes c.loop-number.text) (string_bytes c.push_marked.new.text) c.as_str.result.now (string_bytes c.args.text.now ++ lines_of nodes marks) _
    refl c.as_str.ensures c.in_ok-push_marked.ensures c.loop-number.invariant

pub returns : goal.returns
returns c =
    let nodes = c.args.nodes.now in
    let marks = c.args.marks.now in
    all_lines nodes marks c.loop-number.number (string_bytes c.loop-number.text) (string_bytes c.args.text.now ++ lines_of nodes marks) c.loop-number-test.false c.loop-number.invariant
