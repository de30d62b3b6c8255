use Rattle.std.proofs.Common.{◌≡◌, ℕ, ◌<◌, [], List, length, get_or, subst, sym, ◌∙◌, arith}
use Rattle.std.proofs.lemmas.List.FromFn.{fill_by_all}
use Rattle.dag_graph.specs.Numbers.{IsLast, has, holders_of, holders_below}
use Rattle.dag_graph.proofs.Lists.{filter_last, holders_more, within_read}
use Rattle.dag_graph.proofs.numbers.inverted.Goals as goal

pub add_at-requires-clause-within : goal.add_at-requires-clause-within
add_at-requires-clause-within c =
    let turn : c.loop-number.number < length c.args.lists.now = omega arith in
    within_read c.args.lists.now c.as_slice.result.now _ c.loop-number.number _ c.args.count turn c.index-lists-number.is c.as_slice.ensures c.requires.within c.loop-number.invariant.len

pub add_at-requires-clause-unused : goal.add_at-requires-clause-unused
add_at-requires-clause-unused c = λ v small.
    let low : v < c.args.count = omega (arith, c.loop-number.invariant.len) in
    subst (λ (ns : List ℕ). ¬ (IsLast ns c.loop-number.number)) (sym (c.loop-number.invariant.each v low)) (filter_last (λ u. has (get_or c.args.lists.now u []) v) c.loop-number.number)

pub loop-number-preserved : goal.loop-number-preserved
loop-number-preserved c =
    let inv = c.loop-number.invariant in
    let turn : c.loop-number.number < length c.args.lists.now = omega arith in
    record {
      len = c.add_at.ensures.len ∙ inv.len;
      each = λ v small.
          let low : v < length c.loop-number.inverse.items = omega (arith, inv.len) in
          holders_more c.args.lists.now c.as_slice.result.now c.index-lists-number.result c.loop-number.inverse.items c.add_at.new.lists.items c.loop-number.number v turn c.index-lists-number.is c.as_slice.ensures (inv.each v small) (c.in_ok-add_at.ensures.each v low);
    }

pub returns : goal.returns
returns c =
    let inv = c.loop-number.invariant in
    let all : c.loop-number.number ≡ length c.args.lists.now = omega arith in
    fill_by_all (holders_of c.args.lists.now) c.loop-number.inverse.items c.args.count [] inv.len (λ v small. subst (λ (n : ℕ). get_or c.loop-number.inverse.items v [] ≡ holders_below n c.args.lists.now v) all (inv.each v small))
