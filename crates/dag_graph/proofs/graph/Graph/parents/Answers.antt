use Rattle.std.proofs.Common.{◌≡◌, ◌<◌, ◌≤◌, List, ℕ, get_or, length, sym, subst, ap, ◌∙◌, arith}
use Rattle.splices_flat.specs.Dag.{Dag}
use Rattle.dag_graph.specs.Graph.{Network, parents_of}
use Rattle.dag_graph.proofs.Families.{parents_len, parents_read, no_parents}
use Rattle.dag_graph.proofs.graph.Graph.parents.Goals as goal

pub returns-in-Some : goal.returns-in-Some
returns-in-Some c =
    let dag : c.self.inside.flat ≡ c.args.self.now.dag = ap (λ (n : Network). n.dag) c.self.view_is in
    let len = parents_len c.self.inside.flat c.self.inside.relatives.parents.items c.self.invariant.parents_are in
    let there : c.args.node < length c.self.inside.relatives.parents.items = subst (λ (ls : List (List ℕ)). c.args.node < length ls) c.deref.ensures.value c.in-Some.ensures.lookup.3.0 in
    let here : c.in-Some.parents.now ≡ get_or c.self.inside.relatives.parents.items c.args.node c.in-Some.parents.now =
    subst (λ (ls : List (List ℕ)). c.in-Some.parents.now ≡ get_or ls c.args.node c.in-Some.parents.now) c.deref.ensures.value c.in-Some.ensures.lookup.1 in
    c.as_slice.ensures ∙ parents_read c.self.inside.flat c.self.inside.relatives.parents.items c.args.node c.in-Some.parents.now (omega (arith, len, there)) c.self.invariant.parents_are here
    ∙ ap (λ (d : Dag). parents_of d c.args.node) dag

pub returns-in-None : goal.returns-in-None
returns-in-None c =
    let dag : c.self.inside.flat ≡ c.args.self.now.dag = ap (λ (n : Network). n.dag) c.self.view_is in
    let len = parents_len c.self.inside.flat c.self.inside.relatives.parents.items c.self.invariant.parents_are in
    let past : length c.self.inside.relatives.parents.items ≤ c.args.node = subst (λ (ls : List (List ℕ)). length ls ≤ c.args.node) c.deref.ensures.value c.in-None.ensures.lookup.3 in
    sym (no_parents c.self.inside.flat c.args.node c.edges.ensures.within (omega (arith, len, past))) ∙ ap (λ (d : Dag). parents_of d c.args.node) dag
