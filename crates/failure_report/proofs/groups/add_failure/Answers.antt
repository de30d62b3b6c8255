use Rattle.std.proofs.Common.{refl, sym, subst}
use Rattle.failure_report.specs.Joining.{IsAddedToGroups, began_one}
use Rattle.failure_report.proofs.groups.add_failure.Goals as goal

pub returns : goal.returns
returns c = subst (IsAddedToGroups c.args.failure.now c.args.groups.now.items) (sym c.in_ok-push.ensures.items) (began_one _ refl c.new.ensures.items)
