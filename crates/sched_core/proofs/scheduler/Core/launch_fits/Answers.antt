use Rattle.std.proofs.Common.{◌≡◌, ◌∙◌, ◌<◌, ◌≤◌, ◌&&◌, not, true, false, List, ℕ, [], ◌∷◌, length, ap, sym, arith, rules}
use Rattle.std.proofs.lemmas.Bool.{and_parts}
use Rattle.node_machine.specs.declared.Key.{Key}
use Rattle.node_machine.specs.declared.Record.{Record}
use Rattle.node_machine.specs.declared.Record.TheVariants.{Launch}
use Rattle.run_plan.specs.Plan.{Plan, count_of}
use Rattle.sched_core.specs.Run.{may_follow, is_among}
use Rattle.sched_core.specs.Ahead.{launch_of, launched, may_launch_all}
use Rattle.sched_core.proofs.Ahead.{launch-behind, final-behind}
use Rattle.sched_core.proofs.scheduler.Core.launch_fits.Goals as goal

none : (plan : Plan) (past : List Record) (keys : List Key) (key : Key) → length keys ≡ 0 → may_follow plan past (launch_of past key) ≡ may_follow plan (launched past keys) (launch_of (launched past keys) key)
none plan past [] key is = λ j. may_follow plan past (launch_of past key)
none plan past (first ∷ keys) key is = absurd (omega (arith, is))

final : (plan : Plan) (past : List Record) (keys : List Key) (key : Key) → 0 < length keys → count_of plan ≤ key.node → may_launch_all plan past keys ≡ true → may_follow plan (launched past keys) (launch_of (launched past keys) key) ≡ false
final plan past [] key some high all = absurd (omega (arith, some))
final plan past (first ∷ keys) key some high all = final-behind plan past first keys key high (and_parts _ _ all).0

pub returns-then-is_empty : goal.returns-then-is_empty
returns-then-is_empty c =
    let is : length c.args.keys.now ≡ 0 = search rules in
    c.fits.ensures ∙ ap (λ (n : ℕ). may_follow c.args.self.now.plan c.args.self.now.past (Launch c.args.key.now n)) c.launch_number.ensures
    ∙ none c.args.self.now.plan c.args.self.now.past c.args.keys.now c.args.key.now is

pub returns-then-key-count : goal.returns-then-key-count
returns-then-key-count c =
    let some : 0 < length c.args.keys.now = search rules in
    let last : c.count.result ≡ count_of c.args.self.now.plan = c.count.ensures.is ∙ ap count_of c.plan.ensures in
    sym (final c.args.self.now.plan c.args.self.now.past c.args.keys.now c.args.key.now some (omega (arith, last, c.if-key-count.true)) c.requires)

pub returns-then-is_among : goal.returns-then-is_among
returns-then-is_among c =
    let last : c.count.result ≡ count_of c.args.self.now.plan = c.count.ensures.is ∙ ap count_of c.plan.ensures in
    let plan = c.args.self.now.plan in
    let past = c.args.self.now.past in
    let among : is_among c.args.key.now c.args.keys.now ≡ true = sym c.is_among.ensures ∙ c.if-is_among.true in
    sym (launch-behind plan past c.args.keys.now c.args.key.now (omega (arith, last, c.if-key-count.false)) c.requires
    ∙ (λ j. may_follow plan past (launch_of past c.args.key.now) && not (among j)) ∙ and_false (may_follow plan past (launch_of past c.args.key.now)))
  where
    and_false : (b : _) → (b && false) ≡ false
    and_false true = λ j. false
    and_false false = λ j. false

pub returns : goal.returns
returns c =
    let last : c.count.result ≡ count_of c.args.self.now.plan = c.count.ensures.is ∙ ap count_of c.plan.ensures in
    let plan = c.args.self.now.plan in
    let past = c.args.self.now.past in
    let apart : is_among c.args.key.now c.args.keys.now ≡ false = sym c.is_among.ensures ∙ c.if-is_among.false in
    c.fits-2.ensures ∙ ap (λ (n : ℕ). may_follow plan past (Launch c.args.key.now n)) c.launch_number.ensures
    ∙ sym (launch-behind plan past c.args.keys.now c.args.key.now (omega (arith, last, c.if-key-count.false)) c.requires
    ∙ (λ j. may_follow plan past (launch_of past c.args.key.now) && not (apart j)) ∙ and_true (may_follow plan past (launch_of past c.args.key.now)))
  where
    and_true : (b : _) → (b && true) ≡ b
    and_true true = λ j. true
    and_true false = λ j. false
