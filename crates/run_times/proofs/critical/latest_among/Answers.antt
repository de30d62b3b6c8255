use Rattle.std.proofs.Common.{◌≡◌, ℕ, ◌+◌, length, sym, subst, arith}
use Rattle.run_times.specs.Critical.{IsLatestOf, IsLastAmong}
use Rattle.run_times.proofs.Waiting.{among-more}
use Rattle.run_times.proofs.critical.latest_among.Goals as goal

pub loop-parent-preserved : goal.loop-parent-preserved
loop-parent-preserved c =
    subst (IsLatestOf c.args.runs.now (λ place. IsLastAmong c.args.last.now c.args.parents.now (c.loop-parent.parent-index + 1) place)) (sym c.latest_with-latest.ensures)
    (among-more c.args.runs.now c.args.last.now c.args.parents.now c.loop-parent.parent-index c.loop-parent.latest c.last_in.result c.last_in.ensures c.loop-parent.invariant)

pub returns : goal.returns
returns c =
    let all : c.loop-parent.parent-index ≡ length c.args.parents.now = omega (arith, c.loop-parent-test.false, c.loop-parent.auto.parent-index-end) in
    subst (λ (count : ℕ). IsLatestOf c.args.runs.now (λ place. IsLastAmong c.args.last.now c.args.parents.now count place) c.loop-parent.latest) all c.loop-parent.invariant
