use Rattle.std.proofs.Common.{◌≡◌, ◌++◌, Bool, [], sym, subst, append-nil}
use Rattle.dag_main_check.proofs.Refusals.{weaker}
use Rattle.dag_main_files.specs.Changes.{Makes}
use Rattle.dag_main_run.specs.InTheWay.{IsReadyFault, rescues_stay}
use Rattle.dag_main_run.specs.RunChanges.{clears_rescues}
use Rattle.dag_main_run.proofs.RunChanges.{none-higher}
use Rattle.dag_main_run.proofs.site.clear_rescues.Goals as goal

pub returns-then-not-round-clause-changes : goal.returns-then-not-round-clause-changes
returns-then-not-round-clause-changes g c = (
  [],
  none-higher c.args.round.now.used,
  subst (λ (b : Bool). c.args.changes.now ≡ c.args.changes.now ++ clears_rescues b c.args.place.now.top.now []) (sym c.if-not-round.true) (sym (append-nil c.args.changes.now)),
)

pub returns-clause-refused : goal.returns-clause-refused
returns-clause-refused g c =
    weaker (IsReadyFault c.args.place.now.top.now c.args.round.now) c.put_rescues_away.result c.put_rescues_away.ensures.refused
    (λ fault is. rescues_stay fault c.if-not-round.false is)

pub returns-clause-changes : goal.returns-clause-changes
returns-clause-changes g c =
    let made = c.put_rescues_away.ensures.changes in (
      made.0,
      made.1,
      subst (λ (b : Bool). Makes c.put_rescues_away.result (clears_rescues b c.args.place.now.top.now made.0) c.args.changes.now c.put_rescues_away.new.changes)
          (sym c.if-not-round.false) made.2,
    )
