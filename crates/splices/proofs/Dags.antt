-- The DAG of opened files.
use Rattle.std.proofs.Common.{◌≡◌, ℕ, ◌+◌, ◌≤◌, List, [], length, map, Option, Some, None, Result, Ok, Err, sym, ap, subst, ◌∙◌, arith}
use Rattle.std.proofs.lemmas.List.{length-append}
use Rattle.std.specs.List.{All, flat_map}
use Rattle.splices_flat.specs.declared.flat.FlatNode.{FlatNode}
use Rattle.splices_flat.specs.declared.flat.EdgeGroup.{EdgeGroup}
use Rattle.splices_flat.specs.declared.fault.DagFault.{DagFault}
use Rattle.splices_flat.specs.declared.fault.SpliceFault.{SpliceFault}
use Rattle.splices.specs.declared.open.DagBuilder.{DagBuilder}
use Rattle.splices_flat.specs.declared.used.Used.{Used}
use Rattle.splices_flat.specs.Dag.{Dag, IsGroupBelow, IsWellSized}
use Rattle.splices_flat.specs.Places.{edges_of}
use Rattle.splices_flat.specs.Nodes.{own_count, finals_in}
use Rattle.splices_flat.specs.Notices.{warning_of}
use Rattle.splices_flat.specs.Warnings.{Warned}
use Rattle.splices_flat.specs.Forest.{Forest, none, more, Tree, opened_as, forest_files, tree_files, forest_count, job_nodes}
use Rattle.splices_flat.specs.Edges.{tree_count}
use Rattle.splices_flat.specs.Faults.{files_fault}
use Rattle.splices_flat.specs.Opening.{forest_declared}
use Rattle.splices.specs.Adds.{Fails, OpensTop, IsFew}
use Rattle.splices_flat.specs.Opened.{first_of, flat_of, dag_unless, dag_of}
use Rattle.splices_flat.proofs.Opened.{own-length, nodes-length}
use Rattle.splices.proofs.DagBuilders.{fails_bind}
use Rattle.splices.proofs.Within.{edges_below, tree_below}

pub dag_fails : (top : List ℕ) (e : SpliceFault) (read : Result Tree DagFault) → Fails e read → Fails e (dag_of top read)
dag_fails top e read fails = fails_bind e read (λ tree. dag_unless top (files_fault (tree_files [] tree)) tree) fails

abbrev pub drawn : List ℕ → DagBuilder → Dag
drawn top d = record { top = top; nodes = d.nodes.items; final_node = first_of d.finals.items; edges = edges_of d.edges.items; categories = d.warned.limits; warnings = map warning_of d.warned.notices }

pub dag_faulty : (top : List ℕ) (found : DagBuilder × Option DagFault) (fault : DagFault) (read : Result Tree DagFault) → OpensTop (Ok found) read → found.1 ≡ Some fault → dag_of top read ≡ Err fault
dag_faulty top found fault read opened is =
    let tree = opened.0 in
    ap (dag_of top) opened.1 ∙ ap (λ (f : Option DagFault). dag_unless top f tree) (sym opened.6 ∙ is)

pub dag_given : (top : List ℕ) (found : DagBuilder × Option DagFault) (read : Result Tree DagFault) → OpensTop (Ok found) read → found.1 ≡ None → dag_of top read ≡ Ok (drawn top found.0)
dag_given top found read opened is =
    let tree = opened.0 in
    let d = found.0 in
    ap (dag_of top) opened.1 ∙ ap (λ (f : Option DagFault). dag_unless top f tree) (sym opened.6 ∙ is)
    ∙ ap (λ (ns : List FlatNode). Ok (record (flat_of top tree) { nodes = ns })) (sym opened.2)
    ∙ ap (λ (ns : List FlatNode). Ok (record (flat_of top tree) { nodes = d.nodes.items; final_node = first_of ns })) (sym opened.3)
    ∙ ap (λ (es : List EdgeGroup). Ok (record (flat_of top tree) { nodes = d.nodes.items; final_node = first_of d.finals.items; edges = edges_of es })) (sym opened.4)
    ∙ ap (λ (t : Warned). Ok (record { top = top; nodes = d.nodes.items; final_node = first_of d.finals.items; edges = edges_of d.edges.items; categories = t.limits; warnings = map warning_of t.notices })) (sym opened.5)

count_le : (f : Forest) → forest_count f ≤ forest_declared f
count_le none = omega arith
count_le (more name file inner others) =
    let a : forest_count inner ≤ forest_declared inner = count_le inner in
    let b : forest_count others ≤ forest_declared others = count_le others in
    omega arith

tree-length : (t : Tree) → length (flat_map job_nodes (tree_files [] t)) ≡ tree_count t
tree-length t =
    let this = opened_as [] t.file t.inner in
    length-append (job_nodes this) (flat_map job_nodes (forest_files [] t.inner))
    ∙ ap (λ (n : ℕ). n + length (flat_map job_nodes (forest_files [] t.inner))) (own-length this)
    ∙ ap (λ (n : ℕ). own_count t.file.commands + n) (nodes-length [] t.inner)

pub drawn_below : (found : DagBuilder × Option DagFault) (read : Result Tree DagFault) → OpensTop (Ok found) read → All (IsGroupBelow (length found.0.nodes.items)) found.0.edges.items
drawn_below found read opened =
    let t = opened.0 in
    let nodes : length found.0.nodes.items ≡ tree_count t = ap (λ (ns : List FlatNode). length ns) opened.2 ∙ tree-length t in
    subst (λ (n : ℕ). All (IsGroupBelow n) found.0.edges.items) (sym nodes) (subst (All (IsGroupBelow (tree_count t))) (sym opened.4) (tree_below t))

pub drawn_within : (top : List ℕ) (found : DagBuilder × Option DagFault) (read : Result Tree DagFault) → OpensTop (Ok found) read → IsFew found.0.used → IsWellSized (drawn top found.0)
drawn_within top found read opened few =
    let t = opened.0 in
    let nodes : length found.0.nodes.items ≡ tree_count t = ap (λ (ns : List FlatNode). length ns) opened.2 ∙ tree-length t in
    let used : found.0.used.nodes ≡ (0 + (own_count t.file.commands + length (finals_in t.file.commands))) + forest_declared t.inner = ap (λ (u : Used). u.nodes) opened.7 in
    let most : found.0.used.nodes ≤ 65536 = few.nodes in
    let inner : forest_count t.inner ≤ forest_declared t.inner = count_le t.inner in
    record {
      few = omega arith;
      edges = edges_below (length found.0.nodes.items) found.0.edges.items (drawn_below found read opened);
    }
