-- The names of a group's nodes, and the line that has them, part by part.
use Rattle.std.proofs.Common.{◌≡◌, ◌⊎◌, inl, inr, ℕ, ◌-◌, ◌<◌, ◌≤◌, min, Option, List, [], ◌∷◌, ◌++◌, length, take, codes, refl, sym, ap, ◌∙◌, append_assoc, arith}
use Rattle.std.proofs.lemmas.Bool.{cases_lt}
use Rattle.std.proofs.lemmas.List.{length-map, take-map, take_min}
use Rattle.std.proofs.lemmas.Option.{slice_get_past}
use Rattle.std.specs.Prelude.{unwrap_or}
use Rattle.run_plan_node.specs.Node.{NodeSpec, no_node}
use Rattle.run_plan.specs.Plan.{Plan, node_at, count_of}
use Rattle.failure_report.specs.declared.failed.Failure.{Failure}
use Rattle.failure_report.specs.Grouped.{failed_names, listed_names, same_front, more_words, same_line}

-- a number after FINAL's is FINAL's
named-by : (plan : Plan) (node k : ℕ) → k ≡ min node (count_of plan) → (node < count_of plan) ⊎ (count_of plan ≤ node) → node_at plan k ≡ node_at plan node
named-by plan node k is (inl low) = let same : k ≡ node = omega (arith, is, low) in ap (node_at plan) same
named-by plan node k is (inr high) =
    let over : count_of plan ≤ k = omega (arith, is, high) in
    ap (λ (o : Option NodeSpec). unwrap_or o (unwrap_or plan.final_node no_node)) (slice_get_past plan.nodes k over ∙ sym (slice_get_past plan.nodes node high))

pub node-or-final : (plan : Plan) (node k : ℕ) → k ≡ min node (count_of plan) → node_at plan k ≡ node_at plan node
node-or-final plan node k is = named-by plan node k is (cases_lt node (count_of plan))

line-of-some : (names : List (List ℕ)) → 0 < length names
    → same_line names ≡ same_front (length names) ++ (listed_names (take 20 names) ++ (more_words (length names - 20) ++ codes "\n"))
line-of-some [] some = absurd (omega (arith, some))
line-of-some (name ∷ names) some = refl

first-twenty : (plan : Plan) (same : List Failure) (cap : ℕ) → cap ≡ min (length same) 20 → failed_names plan (take cap same) ≡ take 20 (failed_names plan same)
first-twenty plan same cap is =
    let turned : cap ≡ min 20 (length same) = omega (arith, is) in
    ap (failed_names plan) (ap (λ (n : ℕ). take n same) turned ∙ take_min 20 same) ∙ sym (take-map (λ (failure : Failure). (node_at plan failure.node).name) 20 same)

pub line-in-parts : (plan : Plan) (same : List Failure) (all cap more : ℕ) (t0 t1 t2 t3 t4 : List ℕ) → 0 < length same → all ≡ length same → cap ≡ min (length same) 20 → more ≡ length same - 20
    → t1 ≡ t0 ++ same_front all → t2 ≡ t1 ++ listed_names (failed_names plan (take cap same)) → t3 ≡ t2 ++ more_words more → t4 ≡ t3 ++ codes "\n"
    → t4 ≡ t0 ++ same_line (failed_names plan same)
line-in-parts plan same all cap more t0 t1 t2 t3 t4 some many capped left e1 e2 e3 e4 =
    let long : length (failed_names plan same) ≡ length same = length-map same (λ (failure : Failure). (node_at plan failure.node).name) in
    let a = same_front (length (failed_names plan same)) in
    let b = listed_names (take 20 (failed_names plan same)) in
    let m = more_words (length (failed_names plan same) - 20) in
    let c1 : t1 ≡ t0 ++ same_front (length (failed_names plan same)) = e1 ∙ ap (λ (n : ℕ). t0 ++ same_front n) (many ∙ sym long) in
    let c2 : t2 ≡ t1 ++ listed_names (take 20 (failed_names plan same)) = e2 ∙ ap (λ (ns : List (List ℕ)). t1 ++ listed_names ns) (first-twenty plan same cap capped) in
    let c3 : t3 ≡ t2 ++ more_words (length (failed_names plan same) - 20) = e3 ∙ ap (λ (n : ℕ). t2 ++ more_words n) (left ∙ ap (λ (n : ℕ). n - 20) (sym long)) in
    let all_parts : t4 ≡ (((t0 ++ a) ++ b) ++ m) ++ codes "\n" =
    e4 ∙ ap (λ (t : List ℕ). t ++ codes "\n") (c3 ∙ ap (λ (t : List ℕ). t ++ m) (c2 ∙ ap (λ (t : List ℕ). t ++ b) c1)) in
    all_parts ∙ append_assoc ((t0 ++ a) ++ b) m (codes "\n") ∙ append_assoc (t0 ++ a) b (m ++ codes "\n") ∙ append_assoc t0 a (b ++ (m ++ codes "\n"))
    ∙ ap (λ (l : List ℕ). t0 ++ l) (sym (line-of-some (failed_names plan same) (omega (arith, long, some))))
