use Rattle.std.proofs.Common.{◌≡◌, ◌≢◌, ℕ, ◌-◌, [], ◌∷◌, ◌++◌, arith, rules}
use Rattle.std.specs.BTreeMap.{get}
use Rattle.std.specs.Ordering.{nat_cmp}
use Rattle.std.proofs.lemmas.Grind.{common_steps}
use Rattle.vars_macros.proofs.Closers.{none_from_end, after_closer, after_pair, after_unclosed, after_other}
use Rattle.vars_macros.proofs.pairs.Pairs.of.Goals as goal

pub loop-at-init : goal.loop-at-init
loop-at-init c = none_from_end c.args.text.now c.new-unpaired.result.items (get nat_cmp c.new-closers.result) c.new-unpaired.ensures.items (λ k. search rules)

pub loop-at-preserved-in-Continue-1 : goal.loop-at-preserved-in-Continue-1
loop-at-preserved-in-Continue-1 c =
    let l = c.loop-at in
    after_closer c.args.text.now l.at l.unpaired.items (get nat_cmp l.closers) l.invariant (omega arith) (omega arith) c.push.new.self.items c.in-41.is c.in_ok-push-in-41.ensures.items

pub loop-at-preserved-in_ok-insert-in-40 : goal.loop-at-preserved-in_ok-insert-in-40
loop-at-preserved-in_ok-insert-in-40 c =
    let l = c.loop-at in
    let popped : l.unpaired.items ≡ c.pop.new.self.items ++ c.in-Some.close ∷ [] = search rules in
    let updates = c.in_ok-insert-in-40.ensures.updates in
    let others : (k : ℕ) → k ≢ l.at - 1 → get nat_cmp c.insert.new.self k ≡ get nat_cmp l.closers k = λ k apart. grind (arith, common_steps) in
    after_pair c.args.text.now l.at l.unpaired.items (get nat_cmp l.closers) l.invariant (omega arith) (omega arith) c.in-Some.close c.pop.new.self.items (get nat_cmp c.insert.new.self)
    c.in-40.is popped updates.1 others

pub loop-at-preserved-in_default-pop : goal.loop-at-preserved-in_default-pop
loop-at-preserved-in_default-pop c =
    let l = c.loop-at in
    after_unclosed c.args.text.now l.at l.unpaired.items (get nat_cmp l.closers) l.invariant (omega arith) (omega arith) c.pop.new.self.items c.in-40.is (search rules) (search rules)

pub loop-at-preserved : goal.loop-at-preserved
loop-at-preserved c =
    let l = c.loop-at in
    after_other c.args.text.now l.at l.unpaired.items (get nat_cmp l.closers) l.invariant (omega arith) (omega arith) (λ e. omega arith) (λ e. omega arith)

pub returns : goal.returns
returns c = λ k opens. c.loop-at.invariant.paired k (omega arith) opens
