use Rattle.std.proofs.Common.{◌≡◌, ◌∙◌, ◌+◌, ◌≤◌, ◌∷◌, true, false, not, ap, sym, subst, refl, arith, if◌then◌else◌}
use Rattle.std.proofs.lemmas.Bool.{false≢true}
use Rattle.sched_core.specs.Core.{Progress}
use Rattle.sched_core.specs.Looks.{stops, further_looks}
use Rattle.sched_core.specs.declared.CoreFault.TheVariants.{NotLawful, Finished}
use Rattle.sched_core.specs.Run.{may_follow, is_over}
use Rattle.sched_core.proofs.Keeping.{most-one, least-one, life-follows}
use Rattle.sched_core.proofs.scheduler.Core.apply.Goals as goal

pub keep-requires-clause-lawful : goal.keep-requires-clause-lawful
keep-requires-clause-lawful c =
    life-follows c.args.self.now.plan c.args.self.now.past c.args.entry c.in-Life.is ∙ ap not (sym c.is_over.ensures ∙ c.if-is_over.false)

pub returns-then-is_over-clause-lawful : goal.returns-then-is_over-clause-lawful
returns-then-is_over-clause-lawful c = (
  λ f. absurd (false≢true f),
  λ may. sym (life-follows c.args.self.now.plan c.args.self.now.past c.args.entry c.in-Life.is ∙ ap not (sym c.is_over.ensures ∙ c.if-is_over.true)) ∙ may,
)

pub returns-in-Life-clause-lawful : goal.returns-in-Life-clause-lawful
returns-in-Life-clause-lawful c = (
  λ t. life-follows c.args.self.now.plan c.args.self.now.past c.args.entry c.in-Life.is ∙ ap not (sym c.is_over.ensures ∙ c.if-is_over.false),
  λ may. refl,
)

pub returns-then-not-follows : goal.returns-then-not-follows
returns-then-not-follows c =
    let same = c.look-looked.ensures.unchanged in
    let one = c.look-looked.ensures.looks in
    let least = least-one c.args.self.now.plan c.args.self.now.past c.args.entry c.in_default.not-Life in
    let told : false ≡ may_follow c.args.self.now.plan c.args.self.now.past c.args.entry =
    sym c.if-not-follows.true ∙ c.follows.ensures ∙ ap (λ (v : Progress). may_follow v.plan v.past c.args.entry) same in
    record {
      lawful = (λ f. absurd (false≢true f), λ may. told ∙ may);
      plan = ap (λ (v : Progress). v.plan) same;
      limits = ap (λ (v : Progress). v.limits) same;
      past = tt;
      room = tt;
      unchanged = same;
      err = c.fault_by.ensures ∙ (λ j. if (c.is_over-then-not-follows.ensures ∙ ap (λ (v : Progress). is_over v.past) same) j then Finished else NotLawful);
      looks = omega (arith, one, least);
    }

pub returns : goal.returns
returns c =
    let now = c.keep-2.new.self in let lent = c.look-looked.new.self in
    let same = c.look-looked.ensures.unchanged in
    let kept = c.keep-2.ensures in
    let moved : now.looks ≤ lent.looks + further_looks c.args.self.now.plan c.args.entry (stops c.args.self.now.plan c.args.self.now.past c.args.entry) =
    subst (λ (v : Progress). now.looks ≤ lent.looks + further_looks v.plan c.args.entry (stops v.plan v.past c.args.entry)) same kept.looks in
    let one = c.look-looked.ensures.looks in
    let most = most-one c.args.self.now.plan c.args.self.now.past c.args.entry c.in_default.not-Life in
    let room = kept.room in let had = ap (λ (v : Progress). v.room) same in
    let may : may_follow c.args.self.now.plan c.args.self.now.past c.args.entry ≡ true =
    ap (λ (v : Progress). may_follow v.plan v.past c.args.entry) (sym same) ∙ sym c.follows.ensures ∙ c.if-not-follows.false in
    record {
      lawful = (λ t. may, λ m. refl);
      plan = kept.plan ∙ ap (λ (v : Progress). v.plan) same;
      limits = kept.limits ∙ ap (λ (v : Progress). v.limits) same;
      past = kept.past ∙ ap (λ (v : Progress). c.args.entry ∷ v.past) same;
      room = omega (arith, room, had);
      unchanged = tt;
      err = tt;
      looks = omega (arith, moved, one, most);
    }
