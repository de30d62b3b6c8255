-- The plan of a graph and its files, from what was read one after another.
use Rattle.std.proofs.Common.{◌≡◌, ℕ, ◌+◌, ◌<◌, Bool, false, List, [], ◌∷◌, ◌++◌, length, Option, Result, Ok, Err, refl, sym, ap, subst, ◌∙◌, arith, take, drop, get_or, add-one, drop-cons}
use Rattle.std.specs.Prelude.{slice_index_or, option_to_list}
use Rattle.std.specs.Option.{option_map}
use Rattle.std.proofs.lemmas.List.{take_more, take-append-drop}
use Rattle.splices_flat.specs.Dag.{Dag}
use Rattle.splices_flat.specs.Opening.{Files}
use Rattle.splices_flat.specs.declared.flat.FlatNode.{FlatNode}
use Rattle.dag_graph.specs.Graph.{Network, parents_of}
use Rattle.run_plan.specs.declared.fault.PlanFault.{PlanFault}
use Rattle.run_plan.specs.declared.fault.PlanFault.TheVariants.{MissingFile, InSubmit, InMacro, NoExecutable, BadUniverse, InRescue, Memory}
use Rattle.run_plan.specs.PlanAnswers.{Fails}
use Rattle.run_plan_node.specs.Node.{Job, NodeSpec}
use Rattle.run_plan.specs.Planned.{marked_sources}
use Rattle.run_plan_node.specs.Specs.{spec_of}
use Rattle.run_plan.specs.Specs.{specs_from, final_spec, plan_from, is_listed}
use Rattle.run_plan.specs.Submitted.{◌>>=◌, job_at, first_plan_fault, all_nodes, rescued_in, sources_of, plan_at}

-- A fault of the first part is that of the whole.
pub fails_first : {A B : Type 0} (fault : PlanFault) (first : Result A PlanFault) (rest : A → Result B PlanFault) → Fails fault first → Fails fault (first >>= rest)
fails_first Memory first rest says = tt
fails_first (MissingFile path) first rest says = ap (λ (r : Result _ PlanFault). r >>= rest) says
fails_first (InSubmit path fault) first rest says = ap (λ (r : Result _ PlanFault). r >>= rest) says
fails_first (InMacro node fault) first rest says = ap (λ (r : Result _ PlanFault). r >>= rest) says
fails_first (NoExecutable node) first rest says = ap (λ (r : Result _ PlanFault). r >>= rest) says
fails_first (BadUniverse node) first rest says = ap (λ (r : Result _ PlanFault). r >>= rest) says
fails_first (InRescue fault) first rest says = ap (λ (r : Result _ PlanFault). r >>= rest) says

-- Where the first part has none, a fault of the rest is that of the whole.
pub fails_rest : {A B : Type 0} (fault : PlanFault) (first : Result A PlanFault) (rest : A → Result B PlanFault) (x : A) → first ≡ Ok x → Fails fault (rest x) → Fails fault (first >>= rest)
fails_rest fault first rest x is says = subst (λ (r : Result _ PlanFault). Fails fault (r >>= rest)) (sym is) says

-- the faults of nodes in two parts
pub faults_append : (files : Option Files) (xs ys : List FlatNode) → first_plan_fault files (xs ++ ys) ≡ (first_plan_fault files xs >>= λ none. first_plan_fault files ys)
faults_append files [] ys = refl
faults_append files (x ∷ xs) ys = go (job_at files x) (faults_append files xs ys)
  where
    go : (r : Result Job PlanFault) → first_plan_fault files (xs ++ ys) ≡ (first_plan_fault files xs >>= λ none. first_plan_fault files ys)
        → (r >>= λ job. first_plan_fault files (xs ++ ys)) ≡ ((r >>= λ job. first_plan_fault files xs) >>= λ none. first_plan_fault files ys)
    go (Ok job) rest = rest
    go (Err fault) rest = refl

at_drop : (nodes : List FlatNode) (i : ℕ) (d : FlatNode) → i < length nodes → drop i nodes ≡ get_or nodes i d ∷ drop (i + 1) nodes
at_drop nodes i d small = rw (add-one, drop-cons nodes i d)

-- one node more
pub faults_more : (files : Option Files) (nodes : List FlatNode) (i : ℕ) (d : FlatNode) (job : Job) → i < length nodes
    → first_plan_fault files (take i nodes) ≡ Ok tt → job_at files (get_or nodes i d) ≡ Ok job → first_plan_fault files (take (i + 1) nodes) ≡ Ok tt
faults_more files nodes i d job small none is =
    ap (first_plan_fault files) (take_more nodes i d small) ∙ faults_append files (take i nodes) (get_or nodes i d ∷ [])
    ∙ ap (λ (r : Result (Unit {0}) PlanFault). r >>= λ done. first_plan_fault files (get_or nodes i d ∷ [])) none
    ∙ ap (λ (r : Result Job PlanFault). r >>= λ done. first_plan_fault files []) is

-- A fault of a node is that of all, where the nodes before it have none.
pub fails_at : (files : Option Files) (nodes : List FlatNode) (i : ℕ) (d : FlatNode) (fault : PlanFault) → i < length nodes
    → first_plan_fault files (take i nodes) ≡ Ok tt → Fails fault (job_at files (get_or nodes i d)) → Fails fault (first_plan_fault files nodes)
fails_at files nodes i d fault small none says =
    let rest = drop (i + 1) nodes in
    let split : take i nodes ++ (get_or nodes i d ∷ rest) ≡ nodes = ap (λ (ns : List FlatNode). take i nodes ++ ns) (sym (at_drop nodes i d small)) ∙ take-append-drop i nodes in
    subst (λ (ns : List FlatNode). Fails fault (first_plan_fault files ns)) split
    (subst (Fails fault) (sym (faults_append files (take i nodes) (get_or nodes i d ∷ rest)))
    (fails_rest fault (first_plan_fault files (take i nodes)) (λ none. first_plan_fault files (get_or nodes i d ∷ rest)) tt none
    (fails_first fault (job_at files (get_or nodes i d)) (λ job. first_plan_fault files rest) says)))

-- the specifications with the same jobs and other marks, which agree for these numbers
pub specs_same : (always : Bool) (dag : Dag) (job : FlatNode → Job) (marked other : ℕ → Bool) (number : ℕ) (nodes : List FlatNode)
    → ((n : ℕ) → n < number + length nodes → marked n ≡ other n)
    → specs_from dag (record { job = job; marked = marked; always_post = always }) number nodes ≡ specs_from dag (record { job = job; marked = other; always_post = always }) number nodes
specs_same always dag job marked other number [] same = refl
specs_same always dag job marked other number (x ∷ xs) same =
    ap (λ (m : Bool). spec_of always dag.categories (parents_of dag number) (job x) m x ∷ specs_from dag (record { job = job; marked = marked; always_post = always }) (number + 1) xs) (same number (omega arith))
    ∙ ap (λ (ss : List NodeSpec). spec_of always dag.categories (parents_of dag number) (job x) (other number) x ∷ ss)
    (specs_same always dag job marked other (number + 1) xs (λ n small. same n (omega arith)))

module _ (always : Bool) (graph : Network) (files : Option Files) (rescue : Option (List ℕ)) (digest : List ℕ) where
  pub fails_nodes : (fault : PlanFault) → Fails fault (first_plan_fault files graph.dag.nodes) → Fails fault (plan_at always graph files rescue digest)
  unfolding plan_at
  fails_nodes fault says =
      fails_first fault (first_plan_fault files (all_nodes graph.dag)) _
      (subst (Fails fault) (sym (faults_append files graph.dag.nodes (option_to_list graph.dag.final_node))) (fails_first fault (first_plan_fault files graph.dag.nodes) _ says))

  pub fails_final : (fault : PlanFault) → first_plan_fault files graph.dag.nodes ≡ Ok tt → Fails fault (first_plan_fault files (option_to_list graph.dag.final_node))
      → Fails fault (plan_at always graph files rescue digest)
  unfolding plan_at
  fails_final fault none says =
      fails_first fault (first_plan_fault files (all_nodes graph.dag)) _
      (subst (Fails fault) (sym (faults_append files graph.dag.nodes (option_to_list graph.dag.final_node))) (fails_rest fault (first_plan_fault files graph.dag.nodes) _ tt none says))

  no_fault : first_plan_fault files graph.dag.nodes ≡ Ok tt → first_plan_fault files (option_to_list graph.dag.final_node) ≡ Ok tt → first_plan_fault files (all_nodes graph.dag) ≡ Ok tt
  no_fault none none_final =
      faults_append files graph.dag.nodes (option_to_list graph.dag.final_node)
      ∙ ap (λ (r : Result (Unit {0}) PlanFault). r >>= λ done. first_plan_fault files (option_to_list graph.dag.final_node)) none ∙ none_final

  pub fails_rescue : (fault : PlanFault) → first_plan_fault files graph.dag.nodes ≡ Ok tt → first_plan_fault files (option_to_list graph.dag.final_node) ≡ Ok tt
      → Fails fault (rescued_in graph.dag rescue) → Fails fault (plan_at always graph files rescue digest)
  unfolding plan_at
  fails_rescue fault none none_final says =
      fails_rest fault (first_plan_fault files (all_nodes graph.dag)) _ tt (no_fault none none_final) (fails_first fault (rescued_in graph.dag rescue) _ says)

  pub planned_at : (numbers : List ℕ) (marks : List Bool) (specs : List NodeSpec) (final_node : Option NodeSpec)
      → first_plan_fault files graph.dag.nodes ≡ Ok tt → first_plan_fault files (option_to_list graph.dag.final_node) ≡ Ok tt → rescued_in graph.dag rescue ≡ Ok numbers
      → ((n : ℕ) → n < length graph.dag.nodes → slice_index_or marks n false ≡ is_listed numbers n)
      → specs ≡ specs_from graph.dag (marked_sources always files marks) 0 graph.dag.nodes
      → final_node ≡ option_map (final_spec (marked_sources always files [])) graph.dag.final_node
      → plan_at always graph files rescue digest ≡ Ok (record { nodes = specs; final_node = final_node; graph = graph; digest = digest; always_post = always })
  unfolding plan_at
  planned_at numbers marks specs final_node none none_final rescued same specs_are final_is =
      ap (λ (r : Result (Unit {0}) PlanFault). r >>= λ done. rescued_in graph.dag rescue >>= λ found. Ok (plan_from graph (sources_of always files found) digest)) (no_fault none none_final)
      ∙ ap (λ (r : Result (List ℕ) PlanFault). r >>= λ found. Ok (plan_from graph (sources_of always files found) digest)) rescued
      ∙ ap (λ (ss : List NodeSpec). Ok (record { nodes = ss; final_node = option_map (final_spec (marked_sources always files [])) graph.dag.final_node; graph = graph; digest = digest; always_post = always }))
      (sym (specs_are ∙ specs_same always graph.dag (sources_of always files []).job (λ n. slice_index_or marks n false) (is_listed numbers) 0 graph.dag.nodes (λ n small. same n (omega arith))))
      ∙ ap (λ (f : Option NodeSpec). Ok (record { nodes = specs; final_node = f; graph = graph; digest = digest; always_post = always })) (sym final_is)
