use Rattle.std.proofs.Common.{◌∙◌}
use Rattle.salvage.proofs.Results.{if-ok}
use Rattle.salvage.proofs.NameLists.{gone-same}
use Rattle.salvage.proofs.carried.gone_names.Goals as goal

pub returns : goal.returns
returns c = if-ok _ _ c.names_missing.result c.names_missing.ensures
    (λ gone are. are ∙ gone-same c.in_ok-table.table c.args.names.now c.args.done.now c.in_ok-table.ensures)
