use Rattle.std.proofs.Common.{◌++◌, codes, ap, ◌∙◌}
use Rattle.std.specs.List.{join_by}
use Rattle.failure_report.proofs.Joined.{joined_now}
use Rattle.failure_report.proofs.hanging.hung.Goals as goal

pub returns : goal.returns
returns c =
    let joined = rw c.deref.ensures.value at c.in_ok-block.ensures.ok in
    c.in_ok-push_str.ensures.bytes ∙ ap (λ block. block ++ codes "\n")
    (joined ∙ joined_now (codes "\n    ") c.in_ok-lines_of.field-0.items ∙ ap (join_by (λ line. line) (codes "\n    ")) c.in_ok-lines_of.ensures)
