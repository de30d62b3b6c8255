-- The nodes in error, one by one.
use Rattle.std.proofs.Common.{◌≡◌, ℕ, ◌+◌, Bool, true, false, List, [], ◌∷◌, ◌++◌, append-nil, filter, sym, ap, ◌∙◌, arith, map-id, if◌then◌else◌}
use Rattle.std.proofs.lemmas.List.{map_push}
use Rattle.std.proofs.lemmas.List.Elements.{All-push}
use Rattle.std.proofs.lemmas.List.FromFn.{filter_of_map_range_with_len_more}
use Rattle.std.specs.List.{range_with_len}
use Rattle.node_machine.specs.declared.Record.{Record}
use Rattle.run_plan.specs.Plan.{Plan}
use Rattle.sched_core.specs.Run.{is_in_error}
use Rattle.failure_report.specs.declared.failed.Failure.{Failure}
use Rattle.failure_report.specs.Failures.{in_error_below, IsFailure, AreInPlanOrder}

module _ (plan : Plan) (past : List Record) where
  -- one node further
  below_more : (n : ℕ) → in_error_below plan past (n + 1) ≡ in_error_below plan past n ++ (if is_in_error plan past n then n ∷ [] else [])
  below_more n =
      ap (filter (is_in_error plan past)) (sym (map-id (range_with_len 0 (n + 1))))
      ∙ filter_of_map_range_with_len_more (is_in_error plan past) (λ k. k) 0 n n (omega arith)
      ∙ ap (λ (xs : List ℕ). filter (is_in_error plan past) xs ++ (if is_in_error plan past n then n ∷ [] else [])) (map-id (range_with_len 0 n))

  pub skip : (n : ℕ) (found : List Failure) → is_in_error plan past n ≡ false → AreInPlanOrder plan past n found → AreInPlanOrder plan past (n + 1) found
  skip n found abort_free is = record {
    nodes =
        is.nodes ∙ sym (append-nil (in_error_below plan past n))
        ∙ sym (ap (λ (b : Bool). in_error_below plan past n ++ (if b then n ∷ [] else [])) abort_free)
        ∙ sym (below_more n);
    each = is.each;
  }

  pub more : (n : ℕ) (found : List Failure) (f : Failure) → is_in_error plan past n ≡ true → f.node ≡ n → IsFailure plan past f → AreInPlanOrder plan past n found
      → AreInPlanOrder plan past (n + 1) (found ++ f ∷ [])
  more n found f stuck own fails is = record {
    nodes =
        map_push (λ (g : Failure). g.node) found f
        ∙ (λ j. is.nodes j ++ own j ∷ [])
        ∙ sym (ap (λ (b : Bool). in_error_below plan past n ++ (if b then n ∷ [] else [])) stuck)
        ∙ sym (below_more n);
    each = All-push (IsFailure plan past) found f is.each fails;
  }
