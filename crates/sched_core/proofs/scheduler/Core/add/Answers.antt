use Rattle.std.proofs.Common.{◌∙◌, ◌+◌, ◌≤◌, ◌∷◌, ap, subst, arith}
use Rattle.sched_core.specs.Core.{Progress}
use Rattle.sched_core.specs.Looks.{stops, further_looks}
use Rattle.sched_core.proofs.Keeping.{most-one}
use Rattle.sched_core.proofs.scheduler.Core.add.Goals as goal

pub returns-in_default : goal.returns-in_default
returns-in_default c =
    let now = c.keep-in_default.new.self in let lent = c.look-looked.new.self in
    let same = c.look-looked.ensures.unchanged in
    let kept = c.keep-in_default.ensures in
    let moved : now.looks ≤ lent.looks + further_looks c.args.self.now.plan c.args.entry (stops c.args.self.now.plan c.args.self.now.past c.args.entry) =
    subst (λ (v : Progress). now.looks ≤ lent.looks + further_looks v.plan c.args.entry (stops v.plan v.past c.args.entry)) same kept.looks in
    let one = c.look-looked.ensures.looks in
    let most = most-one c.args.self.now.plan c.args.self.now.past c.args.entry c.in_default.not-Life in
    let room = kept.room in let had = ap (λ (v : Progress). v.room) same in
    record {
      plan = kept.plan ∙ ap (λ (v : Progress). v.plan) same;
      limits = kept.limits ∙ ap (λ (v : Progress). v.limits) same;
      past = kept.past ∙ ap (λ (v : Progress). c.args.entry ∷ v.past) same;
      room = omega (arith, room, had);
      looks = omega (arith, moved, one, most);
    }
