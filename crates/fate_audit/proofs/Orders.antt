-- Fates, filled in along an order with parents first.
use Rattle.std.proofs.Common.{◌≡◌, ℕ, zero, suc, ◌+◌, ◌<◌, ◌≤◌, Bool, true, false, not, List, [], ◌∷◌, ◌==◌, length, slice_index, slice_set, inl, inr, refl, sym, ap, ◌∙◌, subst, arith, eq-eqb, nat_lt, lt-ltb, if◌then◌else◌}
use Rattle.std.proofs.lemmas.Bool.{cases_eq, false≢true, ltb-true}
use Rattle.std.proofs.lemmas.List.{get_or-set_same, get_or-set_other, length-set}
use Rattle.node_machine.specs.declared.State.TheVariants.{NotRun}
use Rattle.node_machine.specs.Story.{Table}
use Rattle.splices_flat.specs.Dag.{Dag}
use Rattle.dag_graph.specs.Graph.{rank_in, IsOrderOf}
use Rattle.run_plan.specs.Plan.{Plan, count_of, IsRankedBy}
use Rattle.sched_core.specs.Fate.{Fate, AreFates, fate_by, without_attempts}
use Rattle.sched_core.proofs.Matching.{by-parents, fates-exist}
use Rattle.fate_audit.specs.Fates.{fate_at, filled, AreFatesOf}

-- a list of fates that says what a solution says is one
pub same-fates : (plan : Plan) (table : Table) (rank : ℕ → ℕ) → IsRankedBy rank plan → (fates sol : ℕ → Fate) → AreFates plan table sol
    → ((node : ℕ) → node < count_of plan → fates node ≡ sol node) → AreFates plan table fates
same-fates plan table rank ranked fates sol are same node lt =
    same node lt ∙ are node lt
    ∙ by-parents plan table rank ranked sol fates node (λ parent c. sym (same parent (ranked node lt parent c).0))

-- those that stand among the first k of the order have their fate
pub record AreFilled (plan : Plan) (table : Table) (order : List ℕ) (fates : List Fate) (k : ℕ) : Type 0 where
  pub many : length fates ≡ count_of plan
  pub each : (sol : ℕ → Fate) → AreFates plan table sol → (node : ℕ) → node < count_of plan → rank_in order node < k → fate_at fates node ≡ sol node

-- the first place of a number is at most any place of it
first-place : (order : List ℕ) (k node : ℕ) → slice_index order k ≡ node → k < length order → rank_in order node ≤ k
first-place [] k node is lt = absurd (omega arith)
first-place (x ∷ xs) zero node is lt =
    let first : rank_in (x ∷ xs) node ≡ 0 = λ j. if not (eq-eqb x node is j) then 1 + rank_in xs node else 0 in
    omega arith
first-place (x ∷ xs) (suc k) node is lt = go (x == node) (first-place xs k node is (omega arith))
  where
    go : (b : Bool) → rank_in xs node ≤ k → (if not b then 1 + rank_in xs node else 0) ≤ suc k
    go true le = omega arith
    go false le = omega arith

module _ (plan : Plan) (table : Table) (order : List ℕ) where
  pub none-filled : (fates : List Fate) → length fates ≡ count_of plan → AreFilled plan table order fates 0
  none-filled fates many = record { many = many; each = λ sol are node lt low. absurd (omega arith) }

  module _ (fates : List Fate) (k : ℕ) (low : k < length order) (is : AreFilled plan table order fates k)
      (ranked : IsRankedBy (rank_in order) plan) (dag : Dag) (ordered : IsOrderOf dag order) (count : count_of plan ≡ length dag.nodes) where
    -- a node whose place is k is the one there
    there : (node : ℕ) → node < count_of plan → (rank_in order node < k → ⊥) → rank_in order node < k + 1 → slice_index order k ≡ node
    there node lt high less =
        let same : rank_in order node ≡ k = omega arith in
        sym (ap (slice_index order) same) ∙ ordered.places node (omega arith)

    pub filled-past : (length fates ≤ slice_index order k) → AreFilled plan table order fates (k + 1)
    filled-past past = record {
      many = is.many;
      each = λ sol are node lt less. elim (cases_eq (rank_in order node) k) [
        | inl same ↦
            let at = there node lt (λ l. omega arith) less in
            let m = is.many in
            absurd (omega arith)
        | inr other ↦ is.each sol are node lt (omega arith)
      ];
    }

    pub filled-more : (fate : Fate) → slice_index order k < count_of plan → fate ≡ fate_by plan table (fate_at fates) (slice_index order k)
        → AreFilled plan table order (slice_set fates (slice_index order k) fate) (k + 1)
    filled-more fate within told = record {
      many = length-set fates (slice_index order k) fate ∙ is.many;
      each = λ sol are node lt less. elim (cases_eq node (slice_index order k)) [
        | inl same ↦
            ap (fate_at (slice_set fates (slice_index order k) fate)) same
            ∙ get_or-set_same fates (slice_index order k) fate (without_attempts NotRun) (subst (λ (n : ℕ). slice_index order k < n) (sym is.many) within)
            ∙ told ∙ here sol are ∙ ap sol (sym same)
        | inr other ↦
            get_or-set_other fates (slice_index order k) node fate (without_attempts NotRun) other
            ∙ is.each sol are node lt (before node lt other less)
      ];
    }
      where
        before : (node : ℕ) → node < count_of plan → (node ≡ slice_index order k → ⊥) → rank_in order node < k + 1 → rank_in order node < k
        before node lt other less = elim (cases_eq (rank_in order node) k) [
          | inl same ↦ absurd (other (sym (there node lt (λ l. omega arith) less)))
          | inr ne ↦ omega arith
        ]

        here : (sol : ℕ → Fate) → AreFates plan table sol → fate_by plan table (fate_at fates) (slice_index order k) ≡ sol (slice_index order k)
        here sol are =
            let place = first-place order k (slice_index order k) refl low in
            by-parents plan table (rank_in order) ranked (fate_at fates) sol (slice_index order k) (λ parent c.
            let r = ranked (slice_index order k) within parent c in
            let lower : rank_in order parent < rank_in order (slice_index order k) = r.1 in
            is.each sol are parent r.0 (omega arith))
            ∙ sym (are (slice_index order k) within)

    pub filled-step : (new : List Fate) → new ≡ filled plan table fates (slice_index order k) → AreFilled plan table order new (k + 1)
    filled-step new e = subst (λ (fs : List Fate). AreFilled plan table order fs (k + 1)) (sym e) (go (nat_lt (slice_index order k) (length fates)) refl)
      where
        go : (b : Bool) → nat_lt (slice_index order k) (length fates) ≡ b
            → AreFilled plan table order (if b then slice_set fates (slice_index order k) (fate_by plan table (fate_at fates) (slice_index order k)) else fates) (k + 1)
        go true less =
            let m = is.many in
            let low' = ltb-true (slice_index order k) (length fates) less in
            filled-more (fate_by plan table (fate_at fates) (slice_index order k)) (omega arith) refl
        go false high =
            let past : slice_index order k < length fates → ⊥ = λ l. false≢true (sym high ∙ lt-ltb (slice_index order k) (length fates) l) in
            filled-past (omega arith)

  pub all-filled : (fates : List Fate) (k : ℕ) → length order ≤ k → AreFilled plan table order fates k → IsRankedBy (rank_in order) plan
      → (dag : Dag) → IsOrderOf dag order → count_of plan ≡ length dag.nodes → AreFatesOf plan table fates
  all-filled fates k enough is ranked dag ordered count =
      let s = fates-exist plan table (rank_in order) ranked in
      record {
        many = is.many;
        are = same-fates plan table (rank_in order) ranked (fate_at fates) s.0 s.1 (λ node lt.
            let w = ordered.within node (omega arith) in
            is.each s.0 s.1 node lt (omega arith));
      }
