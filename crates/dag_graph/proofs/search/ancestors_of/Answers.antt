use Rattle.std.proofs.Common.{◌≡◌, ◌<◌, ◌≤◌, ℕ, List, [], Bool, true, false, length, slice_index, slice_index_or, sym, ap, ◌∙◌, subst, arith}
use Rattle.std.specs.Prelude.{◌↔◌}
use Rattle.std.proofs.lemmas.List.{get_or_read, length-replicate}
use Rattle.dag_graph.specs.Climb.{up}
use Rattle.dag_graph.specs.Graph.{IsAncestor}
use Rattle.dag_graph.specs.Search.{Searched, MeetsNodes}
use Rattle.dag_graph.proofs.Lists.{within_read}
use Rattle.dag_graph.proofs.Families.{lists_len, all_below}
use Rattle.dag_graph.proofs.Told.{Tells, tells}
use Rattle.dag_graph.proofs.Searches.{upward_begins, upward_more, upward_over}
use Rattle.dag_graph.proofs.search.ancestors_of.Goals as goal

pub bounds-parents-node : goal.bounds-parents-node
bounds-parents-node c = omega (arith, c.requires.node, lists_len (length c.args.dag.now.nodes) c.args.dag.now.edges c.args.parents.now c.requires.parents)

pub meet_all-requires-clause-below : goal.meet_all-requires-clause-below
meet_all-requires-clause-below c =
    let node : c.args.node < length c.args.parents.now = omega (arith, c.requires.node, lists_len (length c.args.dag.now.nodes) c.args.dag.now.edges c.args.parents.now c.requires.parents) in
    let len : length c.in_ok-search.search.met ≡ length c.args.parents.now = ap (λ (s : Searched). length s.met) c.in_ok-search.ensures ∙ length-replicate (length c.args.parents.now) false in
    within_read c.args.parents.now c.as_slice.result.now c.index-parents-node.result c.args.node (length c.in_ok-search.search.met) (length c.args.parents.now) node c.index-parents-node.is c.as_slice.ensures (all_below (length c.args.dag.now.nodes) c.args.dag.now.edges c.args.parents.now c.requires.parents) len

pub loop-done-init : goal.loop-done-init
loop-done-init c =
    let node : c.args.node < length c.args.parents.now = omega (arith, c.requires.node, lists_len (length c.args.dag.now.nodes) c.args.dag.now.edges c.args.parents.now c.requires.parents) in
    let told : Tells (length c.args.dag.now.nodes) c.args.dag.now.edges c.args.parents.now = tells (length c.args.dag.now.nodes) c.args.dag.now.edges c.args.parents.now c.edges.ensures.within c.requires.parents in
    let own : c.as_slice.result.now ≡ up c.args.parents.now c.args.node = c.as_slice.ensures ∙ get_or_read c.args.parents.now c.args.node c.index-parents-node.result node c.index-parents-node.is [] in
    upward_begins (length c.args.dag.now.nodes) c.args.dag.now.edges c.args.parents.now c.args.node c.meet_all.new.self told
    (subst (λ (s : Searched). MeetsNodes (up c.args.parents.now c.args.node) s c.meet_all.new.self) c.in_ok-search.ensures (subst (λ (ns : List ℕ). MeetsNodes ns c.in_ok-search.search c.meet_all.new.self) own c.in_ok-meet_all.ensures))

pub meet_all-requires-in-loop-done-clause-below : goal.meet_all-requires-in-loop-done-clause-below
meet_all-requires-in-loop-done-clause-below c =
    let inv = c.loop-done.invariant in
    let lt : c.loop-done.done < length c.loop-done.search.found = omega (arith, c.count.ensures) in
    let inside = inv.search.below c.loop-done.done lt in
    let next : c.node_at-next.result < length c.args.parents.now = omega (arith, inside, c.node_at-next.ensures, inv.len) in
    within_read c.args.parents.now c.as_slice-in-loop-done.result.now c.index-parents-next.result c.node_at-next.result (length c.loop-done.search.met) (length c.args.parents.now) next c.index-parents-next.is c.as_slice-in-loop-done.ensures (all_below (length c.args.dag.now.nodes) c.args.dag.now.edges c.args.parents.now c.requires.parents) inv.len

pub loop-done-preserved : goal.loop-done-preserved
loop-done-preserved c =
    let inv = c.loop-done.invariant in
    let lt : c.loop-done.done < length c.loop-done.search.found = omega (arith, c.count.ensures) in
    let inside = inv.search.below c.loop-done.done lt in
    let next : c.node_at-next.result < length c.args.parents.now = omega (arith, inside, c.node_at-next.ensures, inv.len) in
    let told : Tells (length c.args.dag.now.nodes) c.args.dag.now.edges c.args.parents.now = tells (length c.args.dag.now.nodes) c.args.dag.now.edges c.args.parents.now c.edges.ensures.within c.requires.parents in
    let own : c.as_slice-in-loop-done.result.now ≡ up c.args.parents.now (slice_index c.loop-done.search.found c.loop-done.done) = c.as_slice-in-loop-done.ensures ∙ get_or_read c.args.parents.now c.node_at-next.result c.index-parents-next.result next c.index-parents-next.is [] ∙ ap (λ (v : ℕ). up c.args.parents.now v) c.node_at-next.ensures in
    upward_more (length c.args.dag.now.nodes) c.args.dag.now.edges c.args.parents.now c.args.node c.loop-done.done c.loop-done.search c.meet_all-in-loop-done.new.self told inv lt
    (subst (λ (ns : List ℕ). MeetsNodes ns c.loop-done.search c.meet_all-in-loop-done.new.self) own c.in_ok-meet_all-2.ensures)

pub returns-clause-len : goal.returns-clause-len
returns-clause-len c =
    ap (λ (ms : List Bool). length ms) c.into_marks.ensures ∙ c.loop-done.invariant.len ∙ lists_len (length c.args.dag.now.nodes) c.args.dag.now.edges c.args.parents.now c.requires.parents

pub returns-clause-met : goal.returns-clause-met
returns-clause-met c =
    let told : Tells (length c.args.dag.now.nodes) c.args.dag.now.edges c.args.parents.now = tells (length c.args.dag.now.nodes) c.args.dag.now.edges c.args.parents.now c.edges.ensures.within c.requires.parents in
    let over : length c.loop-done.search.found ≤ c.loop-done.done = omega (arith, c.count.ensures) in
    subst (λ (ms : List Bool). (a : ℕ) → (slice_index_or ms a false ≡ true) ↔ IsAncestor c.args.dag.now.edges a c.args.node) (sym c.into_marks.ensures)
    (upward_over (length c.args.dag.now.nodes) c.args.dag.now.edges c.args.parents.now c.args.node c.loop-done.done c.loop-done.search told c.loop-done.invariant over)
