use Rattle.std.proofs.Common.{◌≡◌, ◌∙◌, ℕ, List, [], Bor, Ok, ap, subst, refl}
use Rattle.std.specs.Prelude.{option_map}
use Rattle.std.specs.Option.{option_map_or}
use Rattle.splices_flat.specs.Dag.{Dag}
use Rattle.splices_flat.specs.FileSet.{bytes_of, entries_of}
use Rattle.splices_flat.specs.declared.file_set.FileSet.{FileSet}
use Rattle.run_plan.specs.Digest.{digest_of}
use Rattle.run_plan.specs.PlanAnswers.{Fails}
use Rattle.run_plan.specs.Submitted.{plan_at}
use Rattle.run_plan.proofs.PlanSound.{planned}
use Rattle.run_plan.proofs.plan.Plan.of_parts.Goals as goal

pub invariant_of-result : goal.invariant_of-result
invariant_of-result c = (
  planned c.args.always_post c.args.graph (option_map (λ (set : Bor FileSet). bytes_of set.now) c.args.files) (option_map (λ (b : Bor (List ℕ)). b.now) c.args.rescue) c.digest_of-digest.result _
      (c.in-Ok-nodes_of.ensures c.digest_of-digest.result),
  c.in-Ok.ensures,
)

pub returns-in-Ok-nodes_of-clause-plan : goal.returns-in-Ok-nodes_of-clause-plan
returns-in-Ok-nodes_of-clause-plan c =
    let files = option_map (λ (set : Bor FileSet). bytes_of set.now) c.args.files in
    let rescue = option_map (λ (b : Bor (List ℕ)). b.now) c.args.rescue in
    let entries = option_map_or (λ (set : Bor FileSet). entries_of set.now) c.args.files [] in
    let digest = c.digest_of-digest.ensures ∙ ap (λ (top : List ℕ). digest_of top entries rescue) (c.top.ensures ∙ ap (λ (d : Dag). d.top) c.flat.ensures) in
    subst (λ (found : List ℕ). plan_at c.args.always_post c.args.graph files rescue found
    ≡ Ok (record { nodes = c.in-Ok-nodes_of.nodes.ordinary.items; final_node = c.in-Ok-nodes_of.nodes.final_node; graph = c.args.graph; digest = c.digest_of-digest.result; always_post = c.args.always_post }))
    digest (c.in-Ok-nodes_of.ensures c.digest_of-digest.result)

pub returns-in-Err-nodes_of-clause-refused : goal.returns-in-Err-nodes_of-clause-refused
returns-in-Err-nodes_of-clause-refused c =
    let files = option_map (λ (set : Bor FileSet). bytes_of set.now) c.args.files in
    let rescue = option_map (λ (b : Bor (List ℕ)). b.now) c.args.rescue in
    let entries = option_map_or (λ (set : Bor FileSet). entries_of set.now) c.args.files [] in
    let digest = c.digest_of-digest.ensures ∙ ap (λ (top : List ℕ). digest_of top entries rescue) (c.top.ensures ∙ ap (λ (d : Dag). d.top) c.flat.ensures) in
    (refl, subst (λ (found : List ℕ). Fails c.in-Err-nodes_of.fault (plan_at c.args.always_post c.args.graph files rescue found)) digest (c.in-Err-nodes_of.ensures c.digest_of-digest.result))
