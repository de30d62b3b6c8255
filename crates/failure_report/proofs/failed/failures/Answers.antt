use Rattle.std.proofs.Common.{ℕ, List, map, subst, rules}
use Rattle.std.specs.List.Sorted.{IsPermutation}
use Rattle.std.proofs.lemmas.List.Sorted.{IsNonDecreasingBy-from_sort_by_key, IsPermutation-map, All-permutation}
use Rattle.failure_report.specs.declared.failed.Failure.{Failure}
use Rattle.failure_report.specs.Failures.{rank_of, IsFailure}
use Rattle.failure_report.proofs.failed.failures.Goals as goal

pub returns : goal.returns
returns c =
    let found = c.in_ok-found.found.items in
    let sorted = c.sort_by_key.new.self.items in
    let moved = c.in_ok-sort_by_key.ensures.permutation in
    record {
      nodes = subst (λ (ns : List ℕ). IsPermutation ns (map (λ (f : Failure). f.node) c.sort_by_key.new.self.items)) c.in_ok-found.ensures.nodes
          (IsPermutation-map (λ (f : Failure). f.node) c.in_ok-found.found.items c.sort_by_key.new.self.items moved);
      each = All-permutation (IsFailure c.args.core.now.plan c.args.core.now.past) c.in_ok-found.found.items c.sort_by_key.new.self.items moved c.in_ok-found.ensures.each;
      ordered = IsNonDecreasingBy-from_sort_by_key rank_of _ c.in_ok-sort_by_key.ensures.sorted (λ a r q k. search rules);
    }
