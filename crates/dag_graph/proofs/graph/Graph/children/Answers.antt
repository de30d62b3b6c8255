use Rattle.std.proofs.Common.{◌≡◌, ◌<◌, ◌≤◌, List, ℕ, get_or, length, sym, subst, ap, ◌∙◌, arith}
use Rattle.splices_flat.specs.Dag.{Dag}
use Rattle.dag_graph.specs.Graph.{Network, children_of}
use Rattle.dag_graph.proofs.Families.{children_len, children_read, no_children}
use Rattle.dag_graph.proofs.graph.Graph.children.Goals as goal

pub returns-in-Some : goal.returns-in-Some
returns-in-Some c =
    let dag : c.self.inside.flat ≡ c.args.self.now.dag = ap (λ (n : Network). n.dag) c.self.view_is in
    let len = children_len c.self.inside.flat c.self.inside.relatives.children.items c.self.invariant.children_are in
    let there : c.args.node < length c.self.inside.relatives.children.items = subst (λ (ls : List (List ℕ)). c.args.node < length ls) c.deref.ensures.value c.in-Some.ensures.lookup.3.0 in
    let here : c.in-Some.children.now ≡ get_or c.self.inside.relatives.children.items c.args.node c.in-Some.children.now =
    subst (λ (ls : List (List ℕ)). c.in-Some.children.now ≡ get_or ls c.args.node c.in-Some.children.now) c.deref.ensures.value c.in-Some.ensures.lookup.1 in
    c.as_slice.ensures ∙ children_read c.self.inside.flat c.self.inside.relatives.children.items c.args.node c.in-Some.children.now (omega (arith, len, there)) c.self.invariant.children_are here
    ∙ ap (λ (d : Dag). children_of d c.args.node) dag

pub returns-in-None : goal.returns-in-None
returns-in-None c =
    let dag : c.self.inside.flat ≡ c.args.self.now.dag = ap (λ (n : Network). n.dag) c.self.view_is in
    let len = children_len c.self.inside.flat c.self.inside.relatives.children.items c.self.invariant.children_are in
    let past : length c.self.inside.relatives.children.items ≤ c.args.node = subst (λ (ls : List (List ℕ)). length ls ≤ c.args.node) c.deref.ensures.value c.in-None.ensures.lookup.3 in
    sym (no_children c.self.inside.flat c.args.node c.edges.ensures.within (omega (arith, len, past))) ∙ ap (λ (d : Dag). children_of d c.args.node) dag
