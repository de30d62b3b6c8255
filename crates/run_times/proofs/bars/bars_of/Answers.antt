use Rattle.std.proofs.Common.{◌≡◌, ℕ, List, [], ◌∷◌, length, length-append, Some, sym, ap, subst, ◌∙◌, arith}
use Rattle.std.specs.Prelude.{slice_get}
use Rattle.run_times.specs.declared.bars.Bar.{Bar}
use Rattle.run_times.specs.Bars.{IsBarAt}
use Rattle.run_times.proofs.Apart.{bar-there, pushed-all, are-before}
use Rattle.run_times.proofs.bars.bars_of.Goals as goal

pub loop-place-preserved : goal.loop-place-preserved
loop-place-preserved c =
    let is = IsBarAt c.args.canvas.now c.args.runs.now c.args.marks.now c.args.slots.now.of.items c.in_ok-limits.limits.items in
    let new = bar-there c.args.canvas.now c.args.runs.now c.args.marks.now c.args.slots.now.of.items c.in_ok-limits.limits.items c.loop-place.place _ _ c.bar_of.result c.loop-place-test.true
    c.requires.marks c.requires.slots.each c.in_ok-limits.ensures.each c.index.result.now c.index-in-loop-place.result.now c.class_of-class.result c.index.ensures
    c.index-in-loop-place.ensures c.class_of-class.ensures c.bar_of.ensures.is c.bar_of.ensures.mark c.bar_of.ensures.class c.bar_of.ensures.slot in
    let longer = ap length c.in_ok-push.ensures.items in
    record {
      each = omega (arith, longer, length-append c.loop-place.bars.items (c.bar_of.result ∷ []), c.loop-place.invariant.each);
      are = subst (λ (bars : List Bar). (place : ℕ) (bar : Bar) → slice_get bars place ≡ Some bar → is place bar) (sym c.in_ok-push.ensures.items)
          (pushed-all is c.loop-place.bars.items c.bar_of.result c.loop-place.place c.loop-place.invariant.each c.loop-place.invariant.are new);
    }

pub returns : goal.returns
returns c = record {
  limits = c.in_ok-limits.limits.items;
  each = c.loop-place.invariant.each ∙ omega (arith, c.loop-place-test.false, c.loop-place.auto.place-end);
  are = c.loop-place.invariant.are;
  before = are-before c.args.canvas.now c.args.runs.now c.args.marks.now c.args.slots.now.of.items c.in_ok-limits.limits.items c.loop-place.bars.items c.args.slots.now.count
      c.requires.slots c.in_ok-limits.ensures.limits c.loop-place.invariant.are;
}
