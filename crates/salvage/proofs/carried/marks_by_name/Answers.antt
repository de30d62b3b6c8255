use Rattle.std.proofs.Common.{◌∙◌}
use Rattle.salvage.proofs.Results.{if-ok}
use Rattle.salvage.proofs.NameLists.{marks-same}
use Rattle.salvage.proofs.carried.marks_by_name.Goals as goal

pub returns : goal.returns
returns c = if-ok _ _ c.marks_in.result c.marks_in.ensures
    (λ marks are. are ∙ marks-same c.in_ok-table.table c.args.done.now c.args.names.now c.in_ok-table.ensures)
