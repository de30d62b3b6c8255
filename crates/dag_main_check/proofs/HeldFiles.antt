-- What is said of files that are read where they are held is said of those that are held.
use Rattle.std.proofs.Common.{◌≡◌, ℕ, ◌+◌, Bool, true, false, List, [], ◌∷◌, Option, Some, None, Result, Ok, Err, refl, sym, ap, ◌∙◌, if◌then◌else◌}
use Rattle.std.specs.Prelude.{option_to_list}
use Rattle.std.specs.Option.{option_map}
use Rattle.splices_flat.specs.Dag.{Dag}
use Rattle.splices_flat.specs.Opening.{Files}
use Rattle.splices_flat.specs.declared.flat.FlatNode.{FlatNode}
use Rattle.splices_flat.specs.Opened.{dag_at}
use Rattle.dag_graph.specs.Graph.{Network, parents_of}
use Rattle.run_plan_node.specs.Node.{Job, NodeSpec, Program}
use Rattle.run_plan_node.specs.Specs.{spec_of}
use Rattle.run_plan.specs.Plan.{Plan}
use Rattle.run_plan.specs.Digest.{digest_of}
use Rattle.run_plan.specs.Specs.{Sources, specs_from, final_spec, plan_from, is_listed}
use Rattle.run_plan.specs.declared.fault.PlanFault.{PlanFault}
use Rattle.run_plan.specs.declared.fault.PlanFault.TheVariants as plans
use Rattle.run_plan.specs.Submitted.{◌>>=◌, submit_at, described_by, job_at, job_or_program, first_plan_fault, all_nodes, rescued_in, sources_of, plan_at}
use Rattle.run_plan.proofs.PlanMade.{faults_append}
use Rattle.dag_main_check.specs.Planned.{IsPlanOf, IsGraphOf, IsGraphFault, not_opened, cyclic, opening_had_no_memory, IsPlanBy, IsPlanByFault, has_plan_fault, planning_had_no_memory, IsPlanWith, IsPlanWithFault, has_no_graph as without_graph, not_planned}
use Rattle.dag_main_check.specs.declared.form.CheckForm.{CheckForm}
use Rattle.dag_main_check.specs.Checked.{IsCheckOf, IsCheckFault, has_no_graph, not_sound, checking_had_no_memory}
use Rattle.dag_main_check.specs.Missing.{missing_in}
use Rattle.dag_main_check.specs.declared.fault.RunFault.{RunFault}
use Rattle.dag_main_check.proofs.Openings.{dag-same}

module _ (set holds : Files) (held : (path bytes : List ℕ) → set path ≡ Some bytes → holds path ≡ Some bytes) where
  abbrev pub NoneHeld : {A : Type 0} → Result A PlanFault → Type 0
  NoneHeld r = (path : List ℕ) → r ≡ Err (plans.MissingFile path) → holds path ≡ None

  abbrev pub SameJob : {A : Type 0} → Result A PlanFault → Result A PlanFault → Type 0
  SameJob r other = NoneHeld r → other ≡ r

  bind-job : {A B : Type 0} (r other : Result A PlanFault) (f g : A → Result B PlanFault) → SameJob r other → ((a : A) → SameJob (f a) (g a)) → SameJob (r >>= f) (other >>= g)
  bind-job (Ok a) other f g same each none = ap (λ o. o >>= g) (same (λ path is. absurd cc)) ∙ each a none
  bind-job (Err e) other f g same each none = ap (λ o. o >>= g) (same (λ path is. none path cc))

  submit-same : (path : List ℕ) (found : Option (List ℕ)) → set path ≡ found → SameJob (submit_at path found) (submit_at path (holds path))
  submit-same path None at none = ap (submit_at path) (none path refl)
  submit-same path (Some bytes) at none = ap (submit_at path) (held path bytes at)

  job-same : (node : FlatNode) (noop : Bool) → node.noop ≡ noop → SameJob (job_at (Some set) node) (job_at (Some holds) node)
  unfolding job_at
  job-same node true is none = ap (λ b. if b then Ok (Program node.file) else described_by holds node) is ∙ sym (ap (λ b. if b then Ok (Program node.file) else described_by set node) is)
  job-same node false is none =
      ap (λ b. if b then Ok (Program node.file) else described_by holds node) is
      ∙ bind-job (submit_at node.file (set node.file)) (submit_at node.file (holds node.file)) _ _ (submit-same node.file (set node.file) refl) (λ submitted misses. refl)
      (λ path at. none path (ap (λ b. if b then Ok (Program node.file) else described_by set node) is ∙ at))
      ∙ sym (ap (λ b. if b then Ok (Program node.file) else described_by set node) is)

  pub faults-same : (nodes : List FlatNode) → SameJob (first_plan_fault (Some set) nodes) (first_plan_fault (Some holds) nodes)
  faults-same [] = λ none. refl
  faults-same (node ∷ nodes) = bind-job (job_at (Some set) node) (job_at (Some holds) node) _ _ (job-same node node.noop refl) (λ job. faults-same nodes)

  pub found-dag : (top : List ℕ) (dag : Dag) → dag_at set top ≡ Ok dag → dag_at holds top ≡ Ok dag
  found-dag top dag is = dag-same set holds held top (λ path missing. absurd cc) ∙ is

  pub checked : (form : CheckForm) (top text warnings : List ℕ) (status : ℕ) → IsCheckOf form set top text warnings status → IsCheckOf form holds top text warnings status
  checked form top text warnings status is = record {
    dag = is.dag;
    is_dag = found-dag top is.dag is.is_dag;
    acyclic = is.acyclic;
    sound = faults-same (all_nodes is.dag) (λ path missing. absurd cc) ∙ is.sound;
    text_is = is.text_is;
    warnings_are = is.warnings_are;
    status_is = is.status_is;
  }

  pub graph-refused : (top : List ℕ) (fault : RunFault) → ((path : List ℕ) → missing_in fault ≡ Some path → holds path ≡ None) → IsGraphFault set top fault → IsGraphFault holds top fault
  graph-refused top fault none (not_opened why is) =
      not_opened why (dag-same set holds held top (λ path missing. none path cc) ∙ is)
  graph-refused top fault none (cyclic dag names is names_one) = cyclic dag names (found-dag top dag is) names_one
  graph-refused top fault none opening_had_no_memory = opening_had_no_memory

  pub refused : (top : List ℕ) (fault : RunFault) → ((path : List ℕ) → missing_in fault ≡ Some path → holds path ≡ None) → IsCheckFault set top fault → IsCheckFault holds top fault
  refused top fault none (has_no_graph why is) = has_no_graph why (graph-refused top why none is)
  refused top fault none (not_sound dag why is acyclic first) =
      not_sound dag why (found-dag top dag is) acyclic (faults-same (all_nodes dag) (λ path missing. none path cc) ∙ first)
  refused top fault none checking_had_no_memory = checking_had_no_memory

  -- the jobs of nodes that have no fault
  abbrev job-by : Files → FlatNode → Job
  job-by files node = job_or_program node (job_at (Some files) node)

  abbrev made-by : Files → (ℕ → Bool) → Bool → Sources
  made-by files marked always = record { job = job-by files; marked = marked; always_post = always }

  module _ (dag : Dag) (marked : ℕ → Bool) (always : Bool) where
    first-same : (node : FlatNode) (nodes : List FlatNode) (number : ℕ) → first_plan_fault (Some set) (node ∷ nodes) ≡ Ok tt
        → (first_plan_fault (Some set) nodes ≡ Ok tt → specs_from dag (made-by holds marked always) (number + 1) nodes ≡ specs_from dag (made-by set marked always) (number + 1) nodes)
        → (r : Result Job PlanFault) → job_at (Some set) node ≡ r
        → specs_from dag (made-by holds marked always) number (node ∷ nodes) ≡ specs_from dag (made-by set marked always) number (node ∷ nodes)
    first-same node nodes number fine rest (Ok job) is =
        let others : first_plan_fault (Some set) nodes ≡ Ok tt = sym (ap (λ (r : Result Job PlanFault). r >>= λ job. first_plan_fault (Some set) nodes) is) ∙ fine in
        let same : job_at (Some holds) node ≡ job_at (Some set) node = job-same node node.noop refl (λ path missing. absurd cc) in
        ap (λ (r : Result Job PlanFault). spec_of always dag.categories (parents_of dag number) (job_or_program node r) (marked number) node
        ∷ specs_from dag (made-by holds marked always) (number + 1) nodes) same
        ∙ ap (λ (specs : List NodeSpec). spec_of always dag.categories (parents_of dag number) (job-by set node) (marked number) node ∷ specs) (rest others)
    first-same node nodes number fine rest (Err fault) is =
        let no : Err fault ≡ Ok tt = sym (ap (λ (r : Result Job PlanFault). r >>= λ job. first_plan_fault (Some set) nodes) is) ∙ fine in
        absurd cc

    jobs-same : (nodes : List FlatNode) (number : ℕ) → first_plan_fault (Some set) nodes ≡ Ok tt
        → specs_from dag (made-by holds marked always) number nodes ≡ specs_from dag (made-by set marked always) number nodes
    jobs-same [] number fine = refl
    jobs-same (node ∷ nodes) number fine = first-same node nodes number fine (λ others. jobs-same nodes (number + 1) others) (job_at (Some set) node) refl

  final-same : (found : Option FlatNode) → first_plan_fault (Some set) (option_to_list found) ≡ Ok tt → (always : Bool) (numbers : List ℕ)
      → option_map (final_spec (sources_of always (Some holds) numbers)) found ≡ option_map (final_spec (sources_of always (Some set) numbers)) found
  final-same None fine always numbers = refl
  final-same (Some node) fine always numbers = go (job_at (Some set) node) refl
    where
      go : (r : Result Job PlanFault) → job_at (Some set) node ≡ r
          → option_map (final_spec (sources_of always (Some holds) numbers)) (Some node) ≡ option_map (final_spec (sources_of always (Some set) numbers)) (Some node)
      go (Ok job) is =
          let same : job_at (Some holds) node ≡ job_at (Some set) node = job-same node node.noop refl (λ path missing. absurd cc) in
          ap (λ (r : Result Job PlanFault). Some (spec_of always [] [] (job_or_program node r) false node)) same
      go (Err fault) is =
          let no : Err fault ≡ Ok tt = sym (ap (λ (r : Result Job PlanFault). r >>= λ job. first_plan_fault (Some set) []) is) ∙ fine in
          absurd cc

  abbrev faults-then : Result (Unit {0}) PlanFault → Result (Unit {0}) PlanFault → Result (Unit {0}) PlanFault
  faults-then first rest = first >>= λ none. rest

  first-fine : (first rest : Result (Unit {0}) PlanFault) → faults-then first rest ≡ Ok tt → (first ≡ Ok tt) × (rest ≡ Ok tt)
  first-fine (Ok done) rest is = (refl, is)
  first-fine (Err fault) rest is = absurd cc

  made-same : (graph : Network) → first_plan_fault (Some set) (all_nodes graph.dag) ≡ Ok tt → (always : Bool) (numbers digest : List ℕ)
      → plan_from graph (sources_of always (Some holds) numbers) digest ≡ plan_from graph (sources_of always (Some set) numbers) digest
  made-same graph fine always numbers digest =
      let both = first-fine (first_plan_fault (Some set) graph.dag.nodes) (first_plan_fault (Some set) (option_to_list graph.dag.final_node))
      (sym (faults_append (Some set) graph.dag.nodes (option_to_list graph.dag.final_node)) ∙ fine) in
      ap (λ (specs : List NodeSpec). record { nodes = specs; final_node = option_map (final_spec (sources_of always (Some holds) numbers)) graph.dag.final_node; graph = graph; digest = digest; always_post = always })
      (jobs-same graph.dag (is_listed numbers) always graph.dag.nodes 0 both.0)
      ∙ ap (λ (last : Option NodeSpec). record { nodes = specs_from graph.dag (sources_of always (Some set) numbers) 0 graph.dag.nodes; final_node = last; graph = graph; digest = digest; always_post = always })
      (final-same graph.dag.final_node both.1 always numbers)

  bind-found : {A B : Type 0} (r other : Result A PlanFault) (f g : A → Result B PlanFault) → SameJob r other → ((a : A) → r ≡ Ok a → SameJob (f a) (g a)) → SameJob (r >>= f) (other >>= g)
  bind-found (Ok a) other f g same each none = ap (λ o. o >>= g) (same (λ path is. absurd cc)) ∙ each a refl none
  bind-found (Err e) other f g same each none = ap (λ o. o >>= g) (same (λ path is. none path cc))

  marked-same : (graph : Network) → first_plan_fault (Some set) (all_nodes graph.dag) ≡ Ok tt → (always : Bool) (digest : List ℕ) (rescued : Result (List ℕ) PlanFault)
      → (rescued >>= λ numbers. Ok (plan_from graph (sources_of always (Some holds) numbers) digest)) ≡ (rescued >>= λ numbers. Ok (plan_from graph (sources_of always (Some set) numbers) digest))
  marked-same graph fine always digest (Ok numbers) = ap (λ (plan : Plan). Ok plan) (made-same graph fine always numbers digest)
  marked-same graph fine always digest (Err fault) = refl

  plan-same : (always : Bool) (graph : Network) (rescue : Option (List ℕ)) (digest : List ℕ) → SameJob (plan_at always graph (Some set) rescue digest) (plan_at always graph (Some holds) rescue digest)
  unfolding plan_at
  plan-same always graph rescue digest =
      bind-found (first_plan_fault (Some set) (all_nodes graph.dag)) (first_plan_fault (Some holds) (all_nodes graph.dag)) _ _ (faults-same (all_nodes graph.dag))
      (λ done fine misses. marked-same graph fine always digest (rescued_in graph.dag rescue))

  pub graph-held : (top : List ℕ) (graph : Network) → IsGraphOf set top graph → IsGraphOf holds top graph
  graph-held top graph is = record { is_dag = found-dag top graph.dag is.is_dag; acyclic = is.acyclic }

  pub bare-held : (always : Bool) (top : List ℕ) (plan : Plan) → IsPlanOf always set top plan → IsPlanOf always holds top plan
  bare-held always top plan is = record { is_dag = found-dag top plan.graph.dag is.is_dag; acyclic = is.acyclic; is_order = is.is_order; made = is.made }

  pub plan-held : (always : Bool) (entries : List (List ℕ × List ℕ)) (rescue : Option (List ℕ)) (graph : Network) (plan : Plan) → IsPlanBy always set entries rescue graph plan
      → IsPlanBy always holds entries rescue graph plan
  plan-held always entries rescue graph plan is = plan-same always graph rescue (digest_of graph.dag.top entries rescue) (λ path missing. absurd cc) ∙ is

  pub plan-refused : (entries : List (List ℕ × List ℕ)) (rescue : Option (List ℕ)) (graph : Network) (fault : RunFault) → ((path : List ℕ) → missing_in fault ≡ Some path → holds path ≡ None)
      → IsPlanByFault set entries rescue graph fault → IsPlanByFault holds entries rescue graph fault
  plan-refused entries rescue graph fault none (has_plan_fault always why is) =
      has_plan_fault always why (plan-same always graph rescue (digest_of graph.dag.top entries rescue) (λ path missing. none path cc) ∙ is)
  plan-refused entries rescue graph fault none planning_had_no_memory = planning_had_no_memory

  pub planned-held : (always : Bool) (entries : List (List ℕ × List ℕ)) (top : List ℕ) (rescue : Option (List ℕ)) (plan : Plan) → IsPlanWith always set entries top rescue plan
      → IsPlanWith always holds entries top rescue plan
  planned-held always entries top rescue plan is = record { graph = is.graph; is_graph = graph-held top is.graph is.is_graph; made = plan-held always entries rescue is.graph plan is.made }

  pub planned-refused : (entries : List (List ℕ × List ℕ)) (top : List ℕ) (rescue : Option (List ℕ)) (fault : RunFault) → ((path : List ℕ) → missing_in fault ≡ Some path → holds path ≡ None)
      → IsPlanWithFault set entries top rescue fault → IsPlanWithFault holds entries top rescue fault
  planned-refused entries top rescue fault none (without_graph why is) = without_graph why (graph-refused top why none is)
  planned-refused entries top rescue fault none (not_planned graph why is made) = not_planned graph why (graph-held top graph is) (plan-refused entries rescue graph why none made)
