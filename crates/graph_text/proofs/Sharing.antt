-- The splices that two nodes share, counted one by one.
use Rattle.std.proofs.Common.{◌≡◌, ℕ, ◌+◌, ◌<◌, ◌≤◌, true, false, cond, List, [], ◌∷◌, ◌++◌, append_assoc, map, length, drop, get_or, Bor, refl, sym, ap, ◌∙◌, arith}
use Rattle.std.proofs.lemmas.List.{drop_more, drop_all, get_or-map, length-map}
use Rattle.std.specs.Str.{bytes_eq}
use Rattle.graph_text.specs.Clusters.{shared, opening, openings}

abbrev pub texts : List (Bor (List ℕ)) → List (List ℕ)
texts parts = map (λ part. part.now) parts

module _ (xs ys : List (Bor (List ℕ))) (k : ℕ) (d : Bor (List ℕ)) (left : k < length xs) (right : k < length ys) where
  heads : shared (drop k (texts xs)) (drop k (texts ys))
      ≡ cond (bytes_eq (get_or xs k d).now (get_or ys k d).now) (1 + shared (drop (k + 1) (texts xs)) (drop (k + 1) (texts ys))) 0
  heads =
      let a = drop_more (texts xs) k d.now (omega (arith, left, length-map xs (λ (part : Bor (List ℕ)). part.now))) in
      let b = drop_more (texts ys) k d.now (omega (arith, right, length-map ys (λ (part : Bor (List ℕ)). part.now))) in
      let x = get_or-map (λ (part : Bor (List ℕ)). part.now) xs k d d.now left in
      let y = get_or-map (λ (part : Bor (List ℕ)). part.now) ys k d d.now right in
      (λ j. shared (a j) (b j)) ∙ (λ j. cond (bytes_eq (x j) (y j)) (1 + shared (drop (k + 1) (texts xs)) (drop (k + 1) (texts ys))) 0)

  pub shared-more : bytes_eq (get_or xs k d).now (get_or ys k d).now ≡ true
      → shared (drop k (texts xs)) (drop k (texts ys)) ≡ 1 + shared (drop (k + 1) (texts xs)) (drop (k + 1) (texts ys))
  shared-more same = heads ∙ ap (λ b. cond b (1 + shared (drop (k + 1) (texts xs)) (drop (k + 1) (texts ys))) 0) same

  pub shared-stop : bytes_eq (get_or xs k d).now (get_or ys k d).now ≡ false → shared (drop k (texts xs)) (drop k (texts ys)) ≡ 0
  shared-stop other = heads ∙ ap (λ b. cond b (1 + shared (drop (k + 1) (texts xs)) (drop (k + 1) (texts ys))) 0) other

shared-none : (names : List (List ℕ)) → shared names [] ≡ 0
shared-none [] = refl
shared-none (name ∷ names) = refl

-- after the last of the second there is nothing to share
pub shared-end : (names : List (List ℕ)) (ys : List (Bor (List ℕ))) (k : ℕ) → length ys ≤ k → shared names (drop k (texts ys)) ≡ 0
shared-end names ys k end =
    ap (shared names) (drop_all k (texts ys) (omega (arith, end, length-map ys (λ (part : Bor (List ℕ)). part.now)))) ∙ shared-none names

-- the clusters that begin, one by one
pub openings-more : (node : ℕ) (xs : List (Bor (List ℕ))) (k : ℕ) (d : Bor (List ℕ)) → k < length xs
    → openings node k (drop k (texts xs)) ≡ opening node k (get_or xs k d).now ++ openings node (k + 1) (drop (k + 1) (texts xs))
openings-more node xs k d inside =
    let a = drop_more (texts xs) k d.now (omega (arith, inside, length-map xs (λ (part : Bor (List ℕ)). part.now))) in
    let x = get_or-map (λ (part : Bor (List ℕ)). part.now) xs k d d.now inside in
    (λ j. openings node k (a j)) ∙ (λ j. opening node k (x j) ++ openings node (k + 1) (drop (k + 1) (texts xs)))

pub one-more : (start before now part rest whole : List ℕ) → now ≡ before ++ part → whole ≡ part ++ rest → before ++ whole ≡ start → now ++ rest ≡ start
one-more start before now part rest whole added is inv =
    (λ j. added j ++ rest) ∙ append_assoc before part rest ∙ ap (λ t. before ++ t) (sym is) ∙ inv
