use Rattle.std.proofs.Common.{◌∙◌, sym, ap, ℕ, List, ◌++◌, length}
use Rattle.std.proofs.lemmas.List.{length-map}
use Rattle.splices_flat.specs.declared.flat.FlatNode.{FlatNode}
use Rattle.rescue_file.specs.Written.{head_text}
use Rattle.rescue_file.proofs.DoneLines.{node_names, lines_of, marked_count}
use Rattle.rescue_file.proofs.text.text_of_nodes.Goals as goal

pub returns : goal.returns
returns c =
    let nodes = c.args.nodes.now in
    let marks = c.args.marks.now in
    let total = length-map nodes (λ (n : FlatNode). n.name) in
    let done = marked_count (node_names nodes) marks (c.requires ∙ sym total) in
    c.in_ok-push_lines.ensures
    ∙ ap (λ (t : List ℕ). t ++ lines_of nodes marks)
    (c.in_ok-push_head.ensures ∙ ap (λ (t : List ℕ). t ++ head_text (length nodes) c.count_marks.result) c.new-text.ensures.bytes
    ∙ ap (λ (n : ℕ). head_text n c.count_marks.result) (sym total) ∙ ap (head_text (length (node_names nodes))) (c.count_marks.ensures ∙ sym done))
