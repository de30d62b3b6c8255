use Rattle.std.proofs.Common.{◌≡◌, ℕ, ◌<◌, [], List, length, get_or, subst, sym, refl, ◌∙◌, arith}
use Rattle.std.proofs.lemmas.List.{length-map}
use Rattle.std.proofs.lemmas.List.FromFn.{fill_by_all}
use Rattle.std.specs.List.{All}
use Rattle.dag_graph.specs.Numbers.{IsLast, has, holders_of, holders_below, named, all_named}
use Rattle.dag_graph.proofs.Groups.{named_at, named_below}
use Rattle.dag_graph.proofs.Lists.{filter_last, holders_more, within_read}
use Rattle.dag_graph.proofs.relatives.parents_by.Goals as goal

pub named-requires : goal.named-requires
named-requires c =
    let turn : c.loop-number.number < length c.args.homes.now = omega arith in
    within_read c.args.homes.now c.as_slice.result.now _ c.loop-number.number _ (length c.args.children.now) turn c.index-homes-number.is c.as_slice.ensures c.requires.homes refl

pub add_at-requires-clause-within : goal.add_at-requires-clause-within
add_at-requires-clause-within c =
    let turn : c.loop-number.number < length c.args.homes.now = omega arith in
    let places = within_read c.args.homes.now c.as_slice.result.now _ c.loop-number.number _ (length c.args.children.now) turn c.index-homes-number.is c.as_slice.ensures c.requires.homes refl in
    subst (λ (n : ℕ). All (λ m. m < n) c.as_slice-in-loop-number.result.now) (sym c.loop-number.invariant.len)
    (subst (λ (ns : List ℕ). All (λ m. m < length c.args.homes.now) ns) (sym (c.as_slice-in-loop-number.ensures ∙ c.in_ok-numbers.ensures)) (named_below (length c.args.homes.now) c.args.children.now c.as_slice.result.now c.requires.children places))

pub add_at-requires-clause-unused : goal.add_at-requires-clause-unused
add_at-requires-clause-unused c = λ v small.
    let low : v < length c.args.homes.now = omega (arith, c.loop-number.invariant.len) in
    subst (λ (ns : List ℕ). ¬ (IsLast ns c.loop-number.number)) (sym (c.loop-number.invariant.each v low)) (filter_last (λ u. has (get_or (all_named c.args.children.now c.args.homes.now) u []) v) c.loop-number.number)

pub loop-number-preserved : goal.loop-number-preserved
loop-number-preserved c =
    let inv = c.loop-number.invariant in
    let lists = all_named c.args.children.now c.args.homes.now in
    let numbers = c.as_slice-in-loop-number.result.now in
    let turn : c.loop-number.number < length c.args.homes.now = omega arith in
    let all : length lists ≡ length c.args.homes.now = length-map c.args.homes.now (named c.args.children.now) in
    let there : c.loop-number.number < length lists = omega (arith, all) in
    let at : numbers ≡ get_or lists c.loop-number.number numbers = named_at c.args.children.now c.args.homes.now c.loop-number.number _ c.as_slice.result.now numbers turn c.index-homes-number.is c.as_slice.ensures (c.as_slice-in-loop-number.ensures ∙ c.in_ok-numbers.ensures) in
    record {
      len = c.add_at.ensures.len ∙ inv.len;
      each = λ v small.
          let low : v < length c.loop-number.parents.items = omega (arith, inv.len) in
          holders_more lists numbers numbers c.loop-number.parents.items c.add_at.new.lists.items c.loop-number.number v there at refl (inv.each v small) (c.in_ok-add_at.ensures.each v low);
    }

pub returns : goal.returns
returns c =
    let inv = c.loop-number.invariant in
    let lists = all_named c.args.children.now c.args.homes.now in
    let all : c.loop-number.number ≡ length lists = omega (arith, length-map c.args.homes.now (named c.args.children.now)) in
    fill_by_all (holders_of lists) c.loop-number.parents.items (length c.args.homes.now) [] inv.len (λ v small. subst (λ (n : ℕ). get_or c.loop-number.parents.items v [] ≡ holders_below n lists v) all (inv.each v small))
