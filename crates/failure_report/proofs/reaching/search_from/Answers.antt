use Rattle.std.proofs.Common.{◌≡◌, ◌<◌, ◌≤◌, ℕ, List, length, slice_index, false, sym, ap, ◌∙◌, subst, arith}
use Rattle.std.proofs.lemmas.List.{length-replicate, length-map}
use Rattle.std.specs.Prelude.{Vec}
use Rattle.std.specs.Global.{Global}
use Rattle.dag_graph.specs.Search.{Searched, MeetsNodes}
use Rattle.failure_report.specs.Reaching.{nodes_in, next_in}
use Rattle.failure_report.proofs.Searching.{read_list, list_below, fresh, begins, more, over}
use Rattle.failure_report.proofs.reaching.search_from.Goals as goal

pub meet_all-requires-clause-below : goal.meet_all-requires-clause-below
meet_all-requires-clause-below c =
    let len : length c.in_ok-search.search.met ≡ length c.args.lists.now = ap (λ (s : Searched). length s.met) c.in_ok-search.ensures ∙ length-replicate (length c.args.lists.now) false in
    list_below c.args.lists.now c.args.node c.index-lists-node.result c.deref.result.now (length c.in_ok-search.search.met) c.requires.node c.index-lists-node.is c.deref.ensures.value c.requires.below len

pub loop-done-init : goal.loop-done-init
loop-done-init c =
    let lists = nodes_in c.args.lists.now in
    let own : c.deref.result.now ≡ next_in lists c.args.node = read_list c.args.lists.now c.args.node c.index-lists-node.result c.deref.result.now c.requires.node c.index-lists-node.is c.deref.ensures.value in
    let many : length c.args.lists.now ≡ length lists = sym (length-map c.args.lists.now (λ (v : Vec ℕ Global). v.items)) in
    begins lists c.args.node c.meet_all.new.self
    (subst (λ (n : ℕ). MeetsNodes (next_in lists c.args.node) (fresh n) c.meet_all.new.self) many
    (subst (λ (s : Searched). MeetsNodes (next_in lists c.args.node) s c.meet_all.new.self) c.in_ok-search.ensures
    (subst (λ (ns : List ℕ). MeetsNodes ns c.in_ok-search.search c.meet_all.new.self) own c.in_ok-meet_all.ensures)))

pub meet_all-requires-in-loop-done-clause-below : goal.meet_all-requires-in-loop-done-clause-below
meet_all-requires-in-loop-done-clause-below c =
    let inv = c.loop-done.invariant in
    let lt : c.loop-done.done < length c.loop-done.search.found = omega (arith, c.count.ensures) in
    let inside = inv.search.below c.loop-done.done lt in
    let many = length-map c.args.lists.now (λ (v : Vec ℕ Global). v.items) in
    let len : length c.loop-done.search.met ≡ length c.args.lists.now = inv.len ∙ many in
    let next : c.node_at-next.result < length c.args.lists.now = omega (arith, inside, c.node_at-next.ensures, len) in
    list_below c.args.lists.now c.node_at-next.result c.index-lists-next.result c.deref-in-loop-done.result.now (length c.loop-done.search.met) next c.index-lists-next.is c.deref-in-loop-done.ensures.value c.requires.below len

pub loop-done-preserved : goal.loop-done-preserved
loop-done-preserved c =
    let lists = nodes_in c.args.lists.now in
    let inv = c.loop-done.invariant in
    let lt : c.loop-done.done < length c.loop-done.search.found = omega (arith, c.count.ensures) in
    let inside = inv.search.below c.loop-done.done lt in
    let many = length-map c.args.lists.now (λ (v : Vec ℕ Global). v.items) in
    let len : length c.loop-done.search.met ≡ length c.args.lists.now = inv.len ∙ many in
    let next : c.node_at-next.result < length c.args.lists.now = omega (arith, inside, c.node_at-next.ensures, len) in
    let own : c.deref-in-loop-done.result.now ≡ next_in lists (slice_index c.loop-done.search.found c.loop-done.done) =
    read_list c.args.lists.now c.node_at-next.result c.index-lists-next.result c.deref-in-loop-done.result.now next c.index-lists-next.is c.deref-in-loop-done.ensures.value ∙ ap (λ (v : ℕ). next_in lists v) c.node_at-next.ensures in
    more lists c.args.node c.loop-done.done c.loop-done.search c.meet_all-in-loop-done.new.self inv lt
    (subst (λ (ns : List ℕ). MeetsNodes ns c.loop-done.search c.meet_all-in-loop-done.new.self) own c.in_ok-meet_all-2.ensures)

pub returns : goal.returns
returns c =
    let inv = c.loop-done.invariant in
    let end : length c.loop-done.search.found ≤ c.loop-done.done = omega (arith, c.count.ensures) in
    record { search = inv.search; len = inv.len; are = over (nodes_in c.args.lists.now) c.args.node c.loop-done.done c.loop-done.search inv end }
