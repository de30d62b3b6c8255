use Rattle.std.proofs.Common.{ℕ, List, subst, sym, Contains}
use Rattle.std.proofs.lemmas.List.Filters.{dedup_is}
use Rattle.std.proofs.lemmas.List.Kept.{Contains-dedup_nat, Contains-from_dedup}
use Rattle.std.proofs.lemmas.List.Sorted.{Contains-permutation, IsPermutation-sym}
use Rattle.std.proofs.lemmas.Map.Keys.{IsStrictlyIncreasing-dedup}
use Rattle.graph_text.proofs.classes.classes_among.Goals as goal

pub returns : goal.returns
returns c =
    let is = dedup_is _ _ _ c.dedup.ensures.filtered in
    let moved = c.sort_unstable.ensures.permutation in
    let are = c.in_ok-numbers.ensures in
    record {
      rising = rw is (IsStrictlyIncreasing-dedup _ c.sort_unstable.ensures.sorted);
      of_nodes = λ x h. subst (λ (ns : List ℕ). Contains ns x) are (Contains-permutation _ _ x (IsPermutation-sym _ _ moved) (Contains-from_dedup _ _ x (rw is at h)));
      of_all = λ x h. rw is (Contains-dedup_nat _ x (Contains-permutation _ _ x moved (subst (λ (ns : List ℕ). Contains ns x) (sym are) h)));
    }
