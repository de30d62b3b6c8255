use Rattle.std.proofs.Common.{◌∙◌, List, ℕ, ap, sym, subst, take, ◌+◌}
use Rattle.salvage.specs.Carried.{is_among_names}
use Rattle.salvage.proofs.NameLists.{HasNames, next_kept, next_added}
use Rattle.salvage.proofs.carried.table_of.Goals as goal
use Rattle.salvage.proofs.carried.table_of.Goals.{then-not-has+in_ok-add, else-not-has}

pub loop-name-preserved : goal.loop-name-preserved
loop-name-preserved c =
    let names = c.args.names.now in
    let is_next = λ (t : List (List ℕ)). HasNames t (take (c.loop-name.name-index + 1) names) in
    elim c.if-not-has.branch [
      | then-not-has+in_ok-add w ↦ subst is_next (sym w.table-is)
          (next_added c.loop-name.table _ names c.loop-name.name-index c.name-item.result _ c.loop-name-test.true c.name-item.is
          w.as_str-then-not-has.ensures w.in_ok-add.ensures.ok c.loop-name.invariant)
      | else-not-has w ↦ subst is_next (sym w.table-is)
          (next_kept c.loop-name.table names c.loop-name.name-index c.name-item.result c.loop-name-test.true c.name-item.is
          (ap (is_among_names c.loop-name.table) (sym c.as_str.ensures) ∙ sym c.has.ensures ∙ w.if-not-has.false) c.loop-name.invariant)
    ]
