use Rattle.std.proofs.Common.{◌≡◌, ◌+◌, ◌∙◌, ℕ, suc, None, length, take, arith, refl, sym, subst}
use Rattle.std.specs.Prelude.{find}
use Rattle.run_times.specs.Limits.{holds_run}
use Rattle.run_times.proofs.Finding.{none-more, first-at}
use Rattle.run_times.proofs.limits.holder_among.Goals as goal

pub returns-then-holds : goal.returns-then-holds
returns-then-holds c =
    sym (first-at (holds_run c.args.graph.now c.args.runs.now c.args.run.now) c.args.limits.now c.loop-limit.limit-index _ c.loop-limit-test.true c.loop-limit.invariant
    (sym c.holds.ensures ∙ c.if-holds.true))

pub loop-limit-preserved : goal.loop-limit-preserved
loop-limit-preserved c =
    let i = c.loop-limit.limit-index in
    let test = holds_run c.args.graph.now c.args.runs.now c.args.run.now in
    let one : suc i ≡ i + 1 = omega arith in
    subst (λ (n : ℕ). find test (take n c.args.limits.now) ≡ None) one
    (none-more test c.args.limits.now i _ c.loop-limit-test.true c.loop-limit.invariant (sym c.holds.ensures ∙ c.if-holds.false))
