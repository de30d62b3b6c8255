use Rattle.std.proofs.Common.{refl, arith}
use Rattle.std.proofs.lemmas.Grind.{common_steps}
use Rattle.salvage.proofs.NameLists.{all_told}
use Rattle.salvage.proofs.carried.push_warnings.Goals as goal

pub returns : goal.returns
returns c = all_told _ _ _ c.args.gone.now _ _ _ c.min-told.ensures (grind (arith, common_steps)) refl c.in_ok-push_first.ensures c.in_ok-push_more.ensures
