-- Lists that have the next ones of the first nodes, of each node those that it has.
use Rattle.std.proofs.Common.{◌≡◌, ℕ, ◌<◌, List, [], map, length, get_or, subst, sym, ap, ◌∙◌, arith}
use Rattle.std.proofs.lemmas.List.Elements.{All-contains}
use Rattle.std.proofs.lemmas.List.FromFn.{get_or-map-range_with_len, length-map-range_with_len}
use Rattle.std.specs.List.{All, Contains, range_with_len}
use Rattle.failure_report.specs.Reaching.{next_in, ListsAreBelow, Reaches, beside, behind}

module _ (next : ℕ → List ℕ) (n : ℕ) (low : (p : ℕ) → All (λ v. v < n) (next p)) where
  pub reach-low : (from v : ℕ) → Reaches next from v → v < n
  reach-low from v (beside there) = All-contains (λ c. c < n) (next from) v (low from) there
  reach-low from v (behind {between = p} is there) = All-contains (λ c. c < n) (next p) v (low p) there

  module _ (lists : List (List ℕ)) (are : lists ≡ map next (range_with_len 0 n)) where
    pub lists-many : length lists ≡ n
    lists-many = ap length are ∙ length-map-range_with_len next 0 n

    next-at : (p : ℕ) → p < n → next_in lists p ≡ next p
    next-at p less = ap (λ (ls : List (List ℕ)). next_in ls p) are ∙ get_or-map-range_with_len next 0 n p p [] less (omega arith)

    low-list : (k : ℕ) (d : List ℕ) → k < n → All (λ v. v < n) (get_or (map next (range_with_len 0 n)) k d)
    low-list k d less = subst (All (λ v. v < n)) (sym (get_or-map-range_with_len next 0 n k k d less (omega arith))) (low k)

    pub lists-below : ListsAreBelow (length lists) lists
    lists-below =
        subst (λ (m : ℕ). ListsAreBelow m lists) (sym lists-many)
        (subst (λ (ls : List (List ℕ)). ListsAreBelow n ls) (sym are)
        (λ k d lt. low-list k d (omega (arith, lt, length-map-range_with_len next 0 n))))

    pub to-next : (from : ℕ) → from < n → (v : ℕ) → Reaches (next_in lists) from v → Reaches next from v
    to-next from less v (beside there) = beside (subst (λ (xs : List ℕ). Contains xs v) (next-at from less) there)
    to-next from less v (behind {between = p} is there) =
        let before = to-next from less p is in
        behind before (subst (λ (xs : List ℕ). Contains xs v) (next-at p (reach-low from p before)) there)

    pub from-next : (from : ℕ) → from < n → (v : ℕ) → Reaches next from v → Reaches (next_in lists) from v
    from-next from less v (beside there) = beside (subst (λ (xs : List ℕ). Contains xs v) (sym (next-at from less)) there)
    from-next from less v (behind {between = p} is there) =
        behind (from-next from less p is) (subst (λ (xs : List ℕ). Contains xs v) (sym (next-at p (reach-low from p is))) there)
