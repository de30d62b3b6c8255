-- Places of numbers in lists of numbers.
use Rattle.std.proofs.Common.{◌≡◌, ◌≢◌, ℕ, ◌+◌, ◌<◌, ◌≤◌, Bool, not, cond, eqb, ◌==◌, ◌++◌, List, [], ◌∷◌, length, get_or, refl, ap, ◌∙◌, arith, ⊎_elim}
use Rattle.std.proofs.lemmas.Bool.{cases_lt, eq-eqb, ne_eqb, eqb-true, cond-true, cond-false}
use Rattle.std.proofs.lemmas.List.{length_push}
use Rattle.std.proofs.lemmas.List.Folds.{position_or_len_push}
use Rattle.std.proofs.lemmas.List.Sums.{prefix_len-le-length, passes_at_first}
use Rattle.dag_graph.specs.Graph.{rank_in}

pub rank_le : (xs : List ℕ) (v : ℕ) → rank_in xs v ≤ length xs
rank_le xs v = prefix_len-le-length (λ n. not (n == v)) xs

pub rank_kept : (xs : List ℕ) (y v : ℕ) → rank_in xs v < length xs → rank_in (xs ++ y ∷ []) v ≡ rank_in xs v
rank_kept xs y v lt =
    position_or_len_push (λ n. n == v) xs y ∙ cond-false (eqb (rank_in xs v) (length xs)) _ _ (ne_eqb _ _ (λ e. absurd (omega arith)))

rank_push : (xs : List ℕ) (y v : ℕ) → rank_in xs v ≡ length xs → rank_in (xs ++ y ∷ []) v ≡ length xs + cond (y == v) 0 1
rank_push xs y v all =
    position_or_len_push (λ n. n == v) xs y ∙ cond-true (eqb (rank_in xs v) (length xs)) _ _ (eq-eqb _ _ all)

pub rank_new : (xs : List ℕ) (v : ℕ) → rank_in xs v ≡ length xs → rank_in (xs ++ v ∷ []) v ≡ length xs
rank_new xs v all =
    let e : rank_in (xs ++ v ∷ []) v ≡ length xs + 0 = rank_push xs v v all ∙ ap (λ (b : Bool). length xs + cond b 0 1) (eq-eqb v v refl) in
    omega arith

pub rank_other : (xs : List ℕ) (y v : ℕ) → rank_in xs v ≡ length xs → y ≢ v → rank_in (xs ++ y ∷ []) v ≡ length xs + 1
rank_other xs y v all differs = rank_push xs y v all ∙ ap (λ (b : Bool). length xs + cond b 0 1) (ne_eqb y v differs)

pub within_push : (xs : List ℕ) (v : ℕ) → rank_in (xs ++ v ∷ []) v < length (xs ++ v ∷ [])
within_push xs v = ⊎_elim
    (λ lt. omega (arith, rank_kept xs v v lt, length_push xs v))
    (λ le. let all : rank_in xs v ≡ length xs = omega (arith, rank_le xs v) in omega (arith, rank_new xs v all, length_push xs v))
    (cases_lt (rank_in xs v) (length xs))

pub within_kept : (xs : List ℕ) (y v : ℕ) → rank_in xs v < length xs → rank_in (xs ++ y ∷ []) v < length (xs ++ y ∷ [])
within_kept xs y v lt = omega (arith, rank_kept xs y v lt, length_push xs y)

pub within_pop : (xs : List ℕ) (y v : ℕ) → y ≢ v → rank_in (xs ++ y ∷ []) v < length (xs ++ y ∷ []) → rank_in xs v < length xs
within_pop xs y v differs lt = ⊎_elim
    (λ less. less)
    (λ le. let all : rank_in xs v ≡ length xs = omega (arith, rank_le xs v) in absurd (omega (arith, rank_other xs y v all differs, length_push xs y)))
    (cases_lt (rank_in xs v) (length xs))

pub rank_at : (xs : List ℕ) (v : ℕ) → rank_in xs v < length xs → get_or xs (rank_in xs v) 0 ≡ v
rank_at xs v lt = eqb-true _ _ (passes_at_first (λ n. n == v) xs 0 lt)
