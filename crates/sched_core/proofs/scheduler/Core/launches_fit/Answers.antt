use Rattle.std.proofs.Common.{◌≡◌, ◌∙◌, true, List, get_or, take, ap, sym, arith, rules}
use Rattle.node_machine.specs.declared.Key.{Key}
use Rattle.node_machine.specs.declared.Phase.TheVariants.{Pre}
use Rattle.sched_core.specs.Run.{may_follow}
use Rattle.sched_core.specs.Ahead.{launch_of, launched}
use Rattle.sched_core.proofs.Ahead.{all-step, all-front}
use Rattle.sched_core.proofs.scheduler.Core.launches_fit.Goals as goal

abbrev some : Key
some = record { node = 0; attempt = 0; phase = Pre }

pub loop-place-preserved : goal.loop-place-preserved
loop-place-preserved c =
    let plan = c.args.self.now.plan in
    let past = c.args.self.now.past in
    let keys = c.args.keys.now in
    let v = c.loop-place.invariant in
    let inside = c.loop-place-test.true in
    let same : c.launch_fits.result ≡ true = search rules in
    let follows = sym c.launch_fits.ensures ∙ same in
    let front = c.split_at.ensures.front in
    let here : may_follow plan (launched past (take c.loop-place.place keys)) (launch_of (launched past (take c.loop-place.place keys)) (get_or keys c.loop-place.place some)) ≡ true = ap (λ (l : List Key). may_follow plan (launched past l) (launch_of (launched past l) (get_or keys c.loop-place.place some))) (sym front) ∙ follows in
    record {
      inside = omega (arith, inside);
      front = all-front plan past keys c.loop-place.place some inside v.front here;
      same = all-step plan past keys c.loop-place.place some inside v.same here;
    }
