use Rattle.std.proofs.Common.{rules, Bool, Result, Vec, Global, IfOk, ◌≡◌, ◌∙◌, ◌<◌, ℕ, List, Bor, sym, ap, subst, length, false}
use Rattle.std.specs.Prelude.{slice_index_or, option_map}
use Rattle.splices_flat.specs.Dag.{Dag}
use Rattle.splices_flat.specs.FileSet.{bytes_of}
use Rattle.splices_flat.specs.declared.file_set.FileSet.{FileSet}
use Rattle.splices_flat.specs.declared.flat.FlatNode.{FlatNode}
use Rattle.run_plan.specs.Specs.{is_listed}
use Rattle.run_plan.specs.declared.fault.PlanFault.{PlanFault}
use Rattle.run_plan.proofs.PlanMade.{fails_nodes, fails_final, fails_rescue, planned_at}
use Rattle.run_plan.proofs.plan.nodes_of.Goals as goal

pub returns-in_err-ordinary : goal.returns-in_err-ordinary
returns-in_err-ordinary c = λ digest. search (rules, fails_nodes)

pub returns-in_err-final_node : goal.returns-in_err-final_node
returns-in_err-final_node c = λ digest. search (rules, fails_final)

pub returns-in_err-_numbers : goal.returns-in_err-_numbers
returns-in_err-_numbers c = λ digest. search (rules, fails_rescue)

pub returns : goal.returns
returns c = λ digest.
    let nodes = c.nodes-count.ensures.are ∙ ap (λ (d : Dag). d.nodes) c.flat.ensures in
    let marked = subst (λ (r : Result (Vec ℕ Global) PlanFault). IfOk r (λ numbers. (n : ℕ) → n < length c.nodes-count.result.now → slice_index_or c.in_ok-marks.marks.items n false ≡ is_listed numbers.items n))
    c.in_ok-_numbers.was c.in_ok-marks.ensures in
    planned_at c.args.always_post c.args.graph.now (option_map (λ (set : Bor FileSet). bytes_of set.now) c.args.files) (option_map (λ (b : Bor (List ℕ)). b.now) c.args.rescue) digest
    c.in_ok-_numbers._numbers.items c.as_slice.result.now c.in_ok-ordinary.ordinary.items c.in_ok-final_node.final_node
    c.in_ok-ordinary.ensures.faults (search rules) (search rules)
    (λ n small. ap (λ (m : List Bool). slice_index_or m n false) c.as_slice.ensures.value ∙ marked n (subst (λ (ns : List FlatNode). n < length ns) (sym nodes) small))
    c.in_ok-ordinary.ensures.specs (search rules)
