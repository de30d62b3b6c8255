-- Lists with one item more, and with one less.
use Rattle.std.proofs.Common.{◌≡◌, ℕ, ◌+◌, ◌-◌, ◌<◌, ◌≤◌, ◌⊎◌, inl, inr, Bool, true, false, List, length, get_or, refl, sym, ap, ◌∙◌, subst, arith}
use Rattle.std.specs.Prelude.{nat_lt}
use Rattle.std.specs.List.{AllPairs, Contains, insert, remove}
use Rattle.std.proofs.lemmas.Bool.{ltb-true, ltb-false}
use Rattle.std.proofs.lemmas.List.{get_or_default}
use Rattle.std.proofs.lemmas.List.Edits.{length-insert, length-remove, get_or-insert_at, get_or-insert_below, get_or-insert_above, get_or-remove_below, get_or-remove_above}

pub by_lt : {P : Type 0} (a b : ℕ) → (a < b → P) → (b ≤ a → P) → P
by_lt {P} a b less more = go (nat_lt a b) refl
  where
    go : (t : Bool) → nat_lt a b ≡ t → P
    go true e = less (ltb-true a b e)
    go false e = more (ltb-false a b e)

module _ {X : Type 0} where
  pub kept-insert : (xs : List X) (place : ℕ) (new : X) → place ≤ length xs → (x : X) → Contains xs x → Contains (insert xs place new) x
  kept-insert xs place new within x has =
      let long = length-insert xs place new within in
      by_lt has.0 place
      (λ lt. (has.0, (let l = has.1 in omega (arith, l, long)), get_or-insert_below xs place new x has.0 lt within ∙ has.2))
      (λ ge. (has.0 + 1, (let l = has.1 in omega (arith, l, long)), get_or-insert_above xs place new x has.0 ge within ∙ has.2))

  pub new-insert : (xs : List X) (place : ℕ) (new : X) → place ≤ length xs → Contains (insert xs place new) new
  new-insert xs place new within =
      let long = length-insert xs place new within in
      (place, omega (arith, within, long), get_or-insert_at xs place new new within)

  pub insert-cases : (xs : List X) (place : ℕ) (new : X) → place ≤ length xs → (x : X) → Contains (insert xs place new) x → (new ≡ x) ⊎ Contains xs x
  insert-cases xs place new within x has =
      let long = length-insert xs place new within in
      by_lt has.0 place
      (λ lt. inr (has.0, omega (arith, lt, within), sym (get_or-insert_below xs place new x has.0 lt within) ∙ has.2))
      (λ ge. by_lt place has.0
      (λ gt. inr (
        has.0 - 1,
        (let l = has.1 in omega (arith, l, long, gt)),
        (let k : has.0 ≡ (has.0 - 1) + 1 = omega (arith, gt) in
            sym (ap (λ i. get_or (insert xs place new) i x) k ∙ get_or-insert_above xs place new x (has.0 - 1) (omega (arith, gt)) within) ∙ has.2),
      ))
      (λ le. let k : place ≡ has.0 = omega (arith, ge, le) in
      inl (sym (get_or-insert_at xs place new x within) ∙ ap (λ i. get_or (insert xs place new) i x) k ∙ has.2)))

  pub kept-remove : (xs : List X) (place : ℕ) (old : X) → place < length xs → get_or xs place old ≡ old
      → (x : X) → Contains xs x → (old ≡ x → ⊥) → Contains (remove xs place) x
  kept-remove xs place old inside is x has differs =
      let long = length-remove xs place inside in
      by_lt has.0 place
      (λ lt. (has.0, omega (arith, lt, long, inside), get_or-remove_below xs place x has.0 lt inside ∙ has.2))
      (λ ge. by_lt place has.0
      (λ gt. (
        has.0 - 1,
        (let l = has.1 in omega (arith, l, long, gt)),
        (let k : (has.0 - 1) + 1 ≡ has.0 = omega (arith, gt) in
            get_or-remove_above xs place x (has.0 - 1) (omega (arith, gt)) inside ∙ ap (λ i. get_or xs i x) k ∙ has.2),
      ))
      (λ le. let k : place ≡ has.0 = omega (arith, ge, le) in
      absurd (differs (sym is ∙ get_or_default xs place old x inside ∙ ap (λ i. get_or xs i x) k ∙ has.2))))

  pub from-remove : (xs : List X) (place : ℕ) → place < length xs → (x : X) → Contains (remove xs place) x → Contains xs x
  from-remove xs place inside x has =
      let long = length-remove xs place inside in
      by_lt has.0 place
      (λ lt. (has.0, omega (arith, lt, inside), sym (get_or-remove_below xs place x has.0 lt inside) ∙ has.2))
      (λ ge. (has.0 + 1, (let l = has.1 in omega (arith, l, long)), sym (get_or-remove_above xs place x has.0 ge inside) ∙ has.2))

  module _ (R : X → X → Type 0) where
    -- a new item that has its place among items in order
    pub pairs-insert : (xs : List X) (place : ℕ) (new : X) → place ≤ length xs → AllPairs R xs → ((k : ℕ) (d : X) → k < place → R (get_or xs k d) new)
        → ((k : ℕ) (d : X) → place ≤ k → k < length xs → R new (get_or xs k d)) → AllPairs R (insert xs place new)
    pairs-insert xs place new within pairs before after i j d lt len = go (subst (λ n. j < n) (length-insert xs place new within) len)
      where
        more : List X
        more = insert xs place new

        below : (k : ℕ) → k < place → get_or more k d ≡ get_or xs k d
        below k less = get_or-insert_below xs place new d k less within

        there : get_or more place d ≡ new
        there = get_or-insert_at xs place new d within

        above : (k m : ℕ) → k ≡ m + 1 → place ≤ m → get_or more k d ≡ get_or xs m d
        above k m s le = ap (λ n. get_or more n d) s ∙ get_or-insert_above xs place new d m le within

        pair : (x y : X) → get_or more i d ≡ x → get_or more j d ≡ y → R x y → R (get_or more i d) (get_or more j d)
        pair x y ex ey r = subst (λ m. R m (get_or more j d)) (sym ex) (subst (R x) (sym ey) r)

        first : j < length xs + 1 → i < place → R (get_or more i d) (get_or more j d)
        first inside less =
            by_lt j place
            (λ jl. pair _ _ (below i less) (below j jl) (pairs i j d lt (omega (arith, jl, within))))
            (λ jg. by_lt place j
            (λ jm. pair _ _ (below i less) (above j (j - 1) (omega (arith, jm)) (omega (arith, jm))) (pairs i (j - 1) d (omega (arith, less, jm)) (omega (arith, inside, jm))))
            (λ je. let s : place ≡ j = omega (arith, jg, je) in pair _ _ (below i less) (ap (λ n. get_or more n d) (sym s) ∙ there) (before i d less)))

        go : j < length xs + 1 → R (get_or more i d) (get_or more j d)
        go inside =
            by_lt i place (λ less. first inside less)
            (λ ge. by_lt place i
            (λ gt. pair _ _ (above i (i - 1) (omega (arith, gt)) (omega (arith, gt))) (above j (j - 1) (omega (arith, lt)) (omega (arith, lt, gt)))
            (pairs (i - 1) (j - 1) d (omega (arith, lt, gt)) (omega (arith, inside, lt))))
            (λ le. let s : place ≡ i = omega (arith, ge, le) in
            pair _ _ (ap (λ n. get_or more n d) (sym s) ∙ there) (above j (j - 1) (omega (arith, lt)) (omega (arith, lt, s))) (after (j - 1) d (omega (arith, lt, s)) (omega (arith, inside, lt)))))

    -- of items in order each that is left comes before the one that was taken out, or after it
    pub pairs-removed : (xs : List X) (place : ℕ) (old : X) → place < length xs → get_or xs place old ≡ old → AllPairs R xs
        → (x : X) → Contains (remove xs place) x → R x old ⊎ R old x
    pairs-removed xs place old inside is pairs x has =
        let long = length-remove xs place inside in
        let here : get_or xs place x ≡ old = get_or_default xs place x old inside ∙ is in
        by_lt has.0 place
        (λ lt. inl (subst (λ m. R m old) (sym (get_or-remove_below xs place x has.0 lt inside) ∙ has.2) (subst (R (get_or xs has.0 x)) here (pairs has.0 place x lt inside))))
        (λ ge. inr (subst (R old) (sym (get_or-remove_above xs place x has.0 ge inside) ∙ has.2)
        (subst (λ m. R m (get_or xs (has.0 + 1) x)) here (pairs place (has.0 + 1) x (omega (arith, ge)) (let l = has.1 in omega (arith, l, long))))))
