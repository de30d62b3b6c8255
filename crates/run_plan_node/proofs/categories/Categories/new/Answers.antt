use Rattle.std.proofs.Common.{◌≡◌, true, List, ℕ, ap, sym, ◌∙◌}
use Rattle.std.specs.List.{list_any}
use Rattle.std.specs.Str.{bytes_eq}
use Rattle.run_plan_node.proofs.CategoryPlaces.{again_more, new_more}
use Rattle.run_plan_node.proofs.categories.Categories.new.Goals.{then-not-has+in_ok-add+in_ok-push, else-not-has}
use Rattle.run_plan_node.proofs.categories.Categories.new.Goals as goal

pub loop-place-preserved : goal.loop-place-preserved
loop-place-preserved c =
    let limit = c.index-limits-place.result in
    elim c.if-not-has.branch [
      | then-not-has+in_ok-add+in_ok-push w ↦
          rw (w.names-is, w.places-is, w.in_ok-add.ensures.ok, w.in_ok-push.ensures.items, w.as_str-then-not-has.ensures)
          (new_more c.args.limits.now c.loop-place.place limit c.loop-place.names c.loop-place.places.items c.loop-place-test.true c.index-limits-place.is c.loop-place.invariant)
      | else-not-has w ↦
          let there : list_any (bytes_eq limit.name) c.loop-place.names ≡ true = ap (λ (n : List ℕ). list_any (bytes_eq n) c.loop-place.names) (sym c.as_str.ensures) ∙ sym c.has.ensures ∙ w.if-not-has.false in
          rw (w.names-is, w.places-is)
          (again_more c.args.limits.now c.loop-place.place limit c.loop-place.names c.loop-place.places.items c.loop-place-test.true c.index-limits-place.is c.loop-place.invariant there)
    ]
