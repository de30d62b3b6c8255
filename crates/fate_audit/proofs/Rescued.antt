-- The rescue text of a run, read again.
use Rattle.std.proofs.Common.{◌≡◌, ℕ, zero, suc, ◌+◌, ◌<◌, Bool, true, false, ◌||◌, List, [], ◌∷◌, length, map, Option, Some, unwrap_or, Result, Ok, Err, refl, sym, ap, ◌∙◌, subst, arith, add-zero, eq-eqb, inl, inr, if◌then◌else◌}
use Rattle.std.specs.Prelude.{slice_get}
use Rattle.std.specs.List.{range_with_len}
use Rattle.std.specs.Option.{option_map}
use Rattle.std.proofs.lemmas.Bool.{cases_eq}
use Rattle.std.proofs.lemmas.Bool.{ne_eqb}
use Rattle.splices_flat.specs.Dag.{Dag}
use Rattle.splices_flat.specs.Opening.{Files}
use Rattle.splices_flat.specs.Opened.{dag_at}
use Rattle.splices_flat.specs.declared.flat.CategoryLimit.{CategoryLimit}
use Rattle.splices_flat.specs.declared.flat.FlatNode.{FlatNode}
use Rattle.dag_graph.specs.Graph.{Network, parents_of}
use Rattle.node_machine.specs.Story.{is_good_after}
use Rattle.rescue_file.specs.Written.{ordinary_names, marked, rescue_text_of}
use Rattle.rescue_file.specs.Reading.{rescued_of}
use Rattle.rescue_file.proofs.OpenedNames.{dag_fit}
use Rattle.rescue_file.proofs.ReadBack.{read_again}
use Rattle.run_plan.specs.declared.fault.PlanFault.{PlanFault}
use Rattle.run_plan_node.specs.Node.{Job, NodeSpec, no_node}
use Rattle.run_plan.specs.Plan.{Plan, node_at, count_of}
use Rattle.run_plan_node.specs.Specs.{spec_of}
use Rattle.run_plan.specs.Specs.{Sources, specs_from, final_spec, plan_from, is_listed}
use Rattle.run_plan.specs.Submitted.{◌>>=◌, first_plan_fault, all_nodes, rescued_in, in_rescue, sources_of, plan_at}
use Rattle.run_plan.proofs.PlanFacts.{count-is}
use Rattle.node_machine.specs.declared.Record.{Record}
use Rattle.sched_core.specs.Run.{history, is_done, needs_rescue}
use Rattle.sched_core.specs.Rounds.{Round, IsFinishedRound, IsRescuedBy, AreRounds}
use Rattle.recovery_manager.specs.Rescue.{marks_of, rescue_text_for}

-- a part of a node's specification that no mark changes
abbrev IsUnmarked : {X : Type 0} → (NodeSpec → X) → Type 0
IsUnmarked F =
    (always : Bool) (limits : List CategoryLimit) (parents : List ℕ) (job : Job) (mark other : Bool) (node : FlatNode)
    → F (spec_of always limits parents job mark node) ≡ F (spec_of always limits parents job other node)

module _ (dag : Dag) (one two : Sources) (job : one.job ≡ two.job) (flag : one.always_post ≡ two.always_post) where
  same-part : {X : Type 0} (F : NodeSpec → X) → IsUnmarked F → (number : ℕ) (nodes : List FlatNode) (d : NodeSpec) (i : ℕ)
      → F (unwrap_or (slice_get (specs_from dag one number nodes) i) d) ≡ F (unwrap_or (slice_get (specs_from dag two number nodes) i) d)
  same-part F un number [] d i = refl
  same-part F un number (node ∷ nodes) d zero =
      un one.always_post dag.categories (parents_of dag number) (one.job node) (one.marked number) (two.marked number) node
      ∙ (λ j. F (spec_of (flag j) dag.categories (parents_of dag number) (job j node) (two.marked number) node))
  same-part F un number (node ∷ nodes) d (suc i) = same-part F un (number + 1) nodes d i

-- whether a node is done from the start: its line says so, or it is marked
done-by : (dag : Dag) (one two : Sources) (number : ℕ) (nodes : List FlatNode) (d : NodeSpec) (i : ℕ) → i < length nodes
    → (flag : Bool) × ((unwrap_or (slice_get (specs_from dag one number nodes) i) d).done ≡ (flag || one.marked (number + i)))
    × ((unwrap_or (slice_get (specs_from dag two number nodes) i) d).done ≡ (flag || two.marked (number + i)))
done-by dag one two number [] d i lt = absurd (omega arith)
done-by dag one two number (node ∷ nodes) d zero lt =
    (node.done, ap (λ (k : ℕ). node.done || one.marked k) (sym (add-zero number)), ap (λ (k : ℕ). node.done || two.marked k) (sym (add-zero number)))
done-by dag one two number (node ∷ nodes) d (suc i) lt =
    let r = done-by dag one two (number + 1) nodes d i (omega arith) in
    let e : number + 1 + i ≡ number + suc i = omega arith in
    (r.0, r.1 ∙ ap (λ (k : ℕ). r.0 || one.marked k) e, r.2 ∙ ap (λ (k : ℕ). r.0 || two.marked k) e)

-- the numbers at which a mark is
marked-past : (f : ℕ → Bool) (n number node : ℕ) → node < number → is_listed (marked (range_with_len number n) (map f (range_with_len number n))) node ≡ false
marked-past f zero number node lt = refl
marked-past f (suc n) number node lt = go (f number) (marked-past f n (number + 1) node (omega arith))
  where
    go : (b : Bool) → is_listed (marked (range_with_len (number + 1) n) (map f (range_with_len (number + 1) n))) node ≡ false
        → is_listed (if b then number ∷ marked (range_with_len (number + 1) n) (map f (range_with_len (number + 1) n)) else marked (range_with_len (number + 1) n) (map f (range_with_len (number + 1) n))) node ≡ false
    go true rest = λ j. ne_eqb number node (λ e. omega arith) j || rest j
    go false rest = rest

marked-is : (f : ℕ → Bool) (n number node : ℕ) → number < node + 1 → node < number + n
    → is_listed (marked (range_with_len number n) (map f (range_with_len number n))) node ≡ f node
marked-is f zero number node low high = absurd (omega arith)
marked-is f (suc n) number node low high = elim (cases_eq number node) [
  | inl same ↦ here same (f number) refl
  | inr other ↦ later other (f number) (marked-is f n (number + 1) node (omega arith) (omega arith))
]
  where
    here : number ≡ node → (b : Bool) → f number ≡ b → is_listed (if b then number ∷ marked (range_with_len (number + 1) n) (map f (range_with_len (number + 1) n)) else marked (range_with_len (number + 1) n) (map f (range_with_len (number + 1) n))) node ≡ f node
    here same true is = (λ j. eq-eqb number node same j || is_listed (marked (range_with_len (number + 1) n) (map f (range_with_len (number + 1) n))) node) ∙ sym is ∙ ap f same
    here same false is = marked-past f n (number + 1) node (omega arith) ∙ sym is ∙ ap f same

    later : (number ≡ node → ⊥) → (b : Bool) → is_listed (marked (range_with_len (number + 1) n) (map f (range_with_len (number + 1) n))) node ≡ f node
        → is_listed (if b then number ∷ marked (range_with_len (number + 1) n) (map f (range_with_len (number + 1) n)) else marked (range_with_len (number + 1) n) (map f (range_with_len (number + 1) n))) node ≡ f node
    later other true is = (λ j. ne_eqb number node other j || is_listed (marked (range_with_len (number + 1) n) (map f (range_with_len (number + 1) n))) node) ∙ is
    later other false is = is

-- a plan that is made
abbrev or-given : Plan → Result Plan PlanFault → Plan
or-given other (Ok plan) = plan
or-given other (Err fault) = other

abbrev is-given : Result Plan PlanFault → Type 0
is-given (Ok plan) = Unit {0}
is-given (Err fault) = ⊥

made-from : (none : Result (Unit {0}) PlanFault) (some : Result (List ℕ) PlanFault) (f : List ℕ → Plan) (plan : Plan)
    → (none >>= λ x. some >>= λ numbers. Ok (f numbers)) ≡ Ok plan
    → (none ≡ Ok tt) × (numbers : List ℕ) × (some ≡ Ok numbers) × (plan ≡ f numbers)
made-from (Ok x) (Ok numbers) f plan is = (refl, numbers, refl, sym (ap (or-given plan) is))
made-from (Ok x) (Err fault) f plan is = absurd (subst is-given (sym is) tt)
made-from (Err fault) some f plan is = absurd (subst is-given (sym is) tt)

done-again : (flag mark good : Bool) → (flag || ((flag || mark) || good)) ≡ ((flag || mark) || good)
done-again true mark good = refl
done-again false mark good = refl

module _ (set : Files) (top : List ℕ) (graph : Network) (opened : dag_at set top ≡ Ok graph.dag) (always : Bool) (files : Option Files) (rescue : Option (List ℕ)) (digest next : List ℕ) where
  module _ (plan : Plan) (made : plan_at always graph files rescue digest ≡ Ok plan) (past : List Record) where
    parts : (first_plan_fault files (all_nodes graph.dag) ≡ Ok tt) × (numbers : List ℕ) × (rescued_in graph.dag rescue ≡ Ok numbers) × (plan ≡ plan_from graph (sources_of always files numbers) digest)
    unfolding plan_at
    parts = made-from (first_plan_fault files (all_nodes graph.dag)) (rescued_in graph.dag rescue) (λ numbers. plan_from graph (sources_of always files numbers) digest) plan made

    abbrev numbers : List ℕ
    numbers = parts.1

    is-made : plan ≡ plan_from graph (sources_of always files parts.1) digest
    is-made = parts.3

    count : count_of plan ≡ length graph.dag.nodes
    count = ap count_of is-made ∙ count-is graph (sources_of always files parts.1) digest

    abbrev said : List ℕ
    said = marked (range_with_len 0 (length graph.dag.nodes)) (marks_of plan past)

    -- the text says the nodes that are done
    text-says : rescued_in graph.dag (Some (rescue_text_for plan past)) ≡ Ok said
    text-says =
        ap in_rescue
        (ap (λ (p : Plan). rescued_of graph.dag (rescue_text_of (ordinary_names p.graph.dag) (marks_of plan past))) is-made
        ∙ read_again graph.dag (marks_of plan past) (dag_fit set top graph.dag opened))

    again-is : plan_at always graph files (Some (rescue_text_for plan past)) next ≡ Ok (plan_from graph (sources_of always files said) next)
    unfolding plan_at
    again-is =
        (λ j. parts.0 j >>= λ none. rescued_in graph.dag (Some (rescue_text_for plan past)) >>= λ ns. Ok (plan_from graph (sources_of always files ns) next))
        ∙ (λ j. text-says j >>= λ ns. Ok (plan_from graph (sources_of always files ns) next))

    pub read : (again : Plan) × (plan_at always graph files (Some (rescue_text_for plan past)) next ≡ Ok again)
    read = (plan_from graph (sources_of always files said) next, again-is)

    module _ (again : Plan) (found : plan_at always graph files (Some (rescue_text_for plan past)) next ≡ Ok again) where
      same-plan : again ≡ plan_from graph (sources_of always files said) next
      same-plan = sym (ap (or-given again) found) ∙ ap (or-given again) again-is

      -- what no mark changes is as it was
      pub same : {X : Type 0} (F : NodeSpec → X) → IsUnmarked F → (node : ℕ) → F (node_at again node) ≡ F (node_at plan node)
      same F un node =
          ap (λ (p : Plan). F (node_at p node)) same-plan
          ∙ same-part graph.dag (sources_of always files said) (sources_of always files parts.1) refl refl F un 0 graph.dag.nodes
          (unwrap_or (option_map (final_spec (sources_of always files parts.1)) graph.dag.final_node) no_node) node
          ∙ sym (ap (λ (p : Plan). F (node_at p node)) is-made)

      pub same-count : count_of again ≡ count_of plan
      same-count = ap count_of same-plan ∙ count-is graph (sources_of always files said) next ∙ sym count

      marks-are : (node : ℕ) → node < length graph.dag.nodes → is_listed said node ≡ is_done plan past node
      marks-are node lt =
          ap (λ (n : ℕ). is_listed (marked (range_with_len 0 (length graph.dag.nodes)) (map (is_done plan past) (range_with_len 0 n))) node) count
          ∙ marked-is (is_done plan past) (length graph.dag.nodes) 0 node (omega arith) (omega arith)

      pub same-done : (node : ℕ) → node < count_of again → (node_at again node).done ≡ is_done plan past node
      same-done node lt =
          let lt' : node < length graph.dag.nodes = subst (λ (n : ℕ). node < n) (same-count ∙ count) lt in
          let d = unwrap_or (option_map (final_spec (sources_of always files parts.1)) graph.dag.final_node) no_node in
          let r = done-by graph.dag (sources_of always files parts.1) (sources_of always files said) 0 graph.dag.nodes d node lt' in
          let zero-on : 0 + node ≡ node = omega arith in
          let before : (node_at plan node).done ≡ (r.0 || is_listed parts.1 node) =
          ap (λ (p : Plan). (node_at p node).done) is-made ∙ r.1 ∙ ap (λ (n : ℕ). r.0 || is_listed parts.1 n) zero-on in
          let good = is_good_after (node_at plan node).course (history past node) in
          let done : is_done plan past node ≡ ((r.0 || is_listed parts.1 node) || good) = ap (λ (b : Bool). b || good) before in
          ap (λ (p : Plan). (node_at p node).done) same-plan ∙ r.2 ∙ ap (λ (n : ℕ). r.0 || is_listed said n) zero-on
          ∙ ap (λ (b : Bool). r.0 || b) (marks-are node lt' ∙ done)
          ∙ done-again r.0 (is_listed parts.1 node) good ∙ sym done

  pub rescued-by : (round : Round) → plan_at always graph files rescue digest ≡ Ok round.plan → (again : Plan)
      → plan_at always graph files (Some (rescue_text_for round.plan round.records)) next ≡ Ok again → IsRescuedBy round again
  rescued-by round made again found = record {
    count = same-count round.plan made round.records again found;
    names = same round.plan made round.records again found (λ (s : NodeSpec). s.name) (λ flag limits parents job mark other node. refl);
    courses = same round.plan made round.records again found (λ (s : NodeSpec). s.course) (λ flag limits parents job mark other node. refl);
    parents = same round.plan made round.records again found (λ (s : NodeSpec). s.parents) (λ flag limits parents job mark other node. refl);
    done = same-done round.plan made round.records again found;
  }

  pub same-launch_spec : (plan : Plan) → plan_at always graph files rescue digest ≡ Ok plan → (past : List Record) → (again : Plan)
      → plan_at always graph files (Some (rescue_text_for plan past)) next ≡ Ok again → (node : ℕ) → (node_at again node).launch_spec ≡ (node_at plan node).launch_spec
  same-launch_spec plan made past again found = same plan made past again found (λ (s : NodeSpec). s.launch_spec) (λ flag limits parents job mark other node. refl)

  pub one-round : (round last : Round) (before : List Round) → AreRounds (last ∷ before) → needs_rescue last.plan last.records ≡ true → IsFinishedRound round
      → plan_at always graph files rescue digest ≡ Ok last.plan → plan_at always graph files (Some (rescue_text_for last.plan last.records)) next ≡ Ok round.plan
      → AreRounds (round ∷ last ∷ before)
  one-round round last before are needs is made found = (is, rescued-by last made round.plan found, needs, are)
