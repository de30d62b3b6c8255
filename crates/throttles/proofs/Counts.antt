-- Counting phases: one more and one less.
use Rattle.std.proofs.Common.{◌≡◌, ◌≢◌, ℕ, zero, suc, ◌+◌, ◌-◌, ◌<◌, ◌≤◌, Bool, true, false, ◌==◌, List, [], ◌∷◌, length, get_or, set, Option, Some, None, refl, sym, ap, ◌∙◌, subst, arith, eqb-true}
use Rattle.std.specs.Prelude.{replicate}
use Rattle.std.specs.List.{sum}
use Rattle.std.proofs.lemmas.Bool.{eqb-false}
use Rattle.std.proofs.lemmas.List.{length-set, length-replicate}
use Rattle.std.proofs.lemmas.Grind.{common_steps}
use Rattle.node_machine.specs.declared.Phase.{Phase}
use Rattle.node_machine.specs.declared.Phase.TheVariants.{Pre, Job, Post}
use Rattle.throttles.specs.Throttled.{Running, IsPlace, of_kind, all_in, such_in, none_running, with_one, without_one}

more-less : (n : ℕ) → n + 1 - 1 ≡ n
more-less n = omega arith

less-more : (n : ℕ) → 0 < n → n + 1 - 1 ≡ n - 1 + 1
less-more n lt = omega arith

-- lists of numbers, changed at two places
set-twice : (xs : List ℕ) (i a b : ℕ) → set (set xs i a) i b ≡ set xs i b
set-twice [] i a b = refl
set-twice (x ∷ xs) zero a b = refl
set-twice (x ∷ xs) (suc i) a b = ap (λ (ys : List ℕ). x ∷ ys) (set-twice xs i a b)

set-own : (xs : List ℕ) (i : ℕ) → set xs i (get_or xs i 0) ≡ xs
set-own [] i = refl
set-own (x ∷ xs) zero = refl
set-own (x ∷ xs) (suc i) = ap (λ (ys : List ℕ). x ∷ ys) (set-own xs i)

set-apart : (xs : List ℕ) (i j a b : ℕ) → i ≢ j → set (set xs i a) j b ≡ set (set xs j b) i a
set-apart [] i j a b ne = refl
set-apart (x ∷ xs) zero zero a b ne = absurd (ne refl)
set-apart (x ∷ xs) zero (suc j) a b ne = refl
set-apart (x ∷ xs) (suc i) zero a b ne = refl
set-apart (x ∷ xs) (suc i) (suc j) a b ne = ap (λ (ys : List ℕ). x ∷ ys) (set-apart xs i j a b (λ e. ne (ap suc e)))

get-other : (xs : List ℕ) (i j a : ℕ) → i ≢ j → get_or (set xs i a) j 0 ≡ get_or xs j 0
get-other [] i j a ne = refl
get-other (x ∷ xs) zero zero a ne = absurd (ne refl)
get-other (x ∷ xs) zero (suc j) a ne = refl
get-other (x ∷ xs) (suc i) zero a ne = refl
get-other (x ∷ xs) (suc i) (suc j) a ne = get-other xs i j a (λ e. ne (ap suc e))

get-same : (xs : List ℕ) (i a : ℕ) → i < length xs → get_or (set xs i a) i 0 ≡ a
get-same [] i a lt = absurd (omega arith)
get-same (x ∷ xs) zero a lt = refl
get-same (x ∷ xs) (suc i) a lt = get-same xs i a (omega arith)

-- as many places as before
pub with-length : (r : Running) (phase : Phase) (category : Option ℕ) → length (with_one r phase category).category_jobs ≡ length r.category_jobs
with-length r Pre category = refl
with-length r Job None = refl
with-length r Job (Some place) = length-set r.category_jobs place _
with-length r Post category = refl

-- the place of a category is one of those that are counted
abbrev pub IsCounted : Running → Option ℕ → Type 0
IsCounted r category = IsPlace r.category_jobs category

-- one more and then one less is as before
pub undo : (r : Running) (phase : Phase) (category : Option ℕ) → IsCounted r category → without_one (with_one r phase category) phase category ≡ r
undo r Pre category p = λ j. record r { pre = more-less r.pre j }
undo r Job None p = λ j. record r { free_jobs = more-less r.free_jobs j }
undo r Post category p = λ j. record r { post = more-less r.post j }
undo r Job (Some place) p =
    let n = get_or r.category_jobs place 0 in
    λ j. record r {
      category_jobs = (set-twice r.category_jobs place (n + 1) (get_or (set r.category_jobs place (n + 1)) place 0 - 1)
          ∙ ap (λ (v : ℕ). set r.category_jobs place (v - 1)) (get-same r.category_jobs place (n + 1) p)
          ∙ ap (λ (v : ℕ). set r.category_jobs place v) (more-less n) ∙ set-own r.category_jobs place) j;
    }

-- with one more there is one
pub one-there : (r : Running) (phase : Phase) (category : Option ℕ) → IsCounted r category → 0 < such_in (with_one r phase category) phase category
one-there r Pre category p = omega arith
one-there r Job None p = omega arith
one-there r Post category p = omega arith
one-there r Job (Some place) p =
    let e = get-same r.category_jobs place (get_or r.category_jobs place 0 + 1) p in
    subst (λ n. 0 < n) (sym e) (omega arith)

-- one more of another kind takes none away
pub still-there : (r : Running) (phase other : Phase) (category its : Option ℕ) → IsCounted r category → 0 < such_in r other its → 0 < such_in (with_one r phase category) other its
still-there r Pre Pre category its p h = omega arith
still-there r Pre Job category None p h = h
still-there r Pre Job category (Some i) p h = h
still-there r Pre Post category its p h = h
still-there r Post Pre category its p h = h
still-there r Post Job category None p h = h
still-there r Post Job category (Some i) p h = h
still-there r Post Post category its p h = omega arith
still-there r Job Pre None its p h = h
still-there r Job Pre (Some i) its p h = h
still-there r Job Post None its p h = h
still-there r Job Post (Some i) its p h = h
still-there r Job Job None None p h = omega arith
still-there r Job Job None (Some j) p h = h
still-there r Job Job (Some i) None p h = h
still-there r Job Job (Some i) (Some j) p h = go (i == j) refl
  where
    go : (b : Bool) → (i == j) ≡ b → 0 < get_or (set r.category_jobs i (get_or r.category_jobs i 0 + 1)) j 0
    go true e =
        subst (λ k. 0 < get_or (set r.category_jobs i (get_or r.category_jobs i 0 + 1)) k 0) (eqb-true i j e)
        (subst (λ n. 0 < n) (sym (get-same r.category_jobs i (get_or r.category_jobs i 0 + 1) p)) (omega arith))
    go false e = subst (λ n. 0 < n) (sym (get-other r.category_jobs i j _ (eqb-false i j e))) h

-- one less of these and one more of those, in either order
pub swap-one : (r : Running) (phase other : Phase) (category its : Option ℕ) → IsCounted r category → 0 < such_in r other its
    → without_one (with_one r phase category) other its ≡ with_one (without_one r other its) phase category
swap-one r Pre Pre category its p h = λ j. record r { pre = less-more r.pre h j }
swap-one r Pre Job category None p h = refl
swap-one r Pre Job category (Some i) p h = refl
swap-one r Pre Post category its p h = refl
swap-one r Post Pre category its p h = refl
swap-one r Post Job category None p h = refl
swap-one r Post Job category (Some i) p h = refl
swap-one r Post Post category its p h = λ j. record r { post = less-more r.post h j }
swap-one r Job Pre None its p h = refl
swap-one r Job Pre (Some i) its p h = refl
swap-one r Job Post None its p h = refl
swap-one r Job Post (Some i) its p h = refl
swap-one r Job Job None None p h = λ j. record r { free_jobs = less-more r.free_jobs h j }
swap-one r Job Job None (Some j) p h = refl
swap-one r Job Job (Some i) None p h = refl
swap-one r Job Job (Some i) (Some k) p h = go (i == k) refl
  where
    apart : i ≢ k → set (set r.category_jobs i (get_or r.category_jobs i 0 + 1)) k (get_or (set r.category_jobs i (get_or r.category_jobs i 0 + 1)) k 0 - 1) ≡ set (set r.category_jobs k (get_or r.category_jobs k 0 - 1)) i (get_or (set r.category_jobs k (get_or r.category_jobs k 0 - 1)) i 0 + 1)
    apart ne =
        ap (λ (v : ℕ). set (set r.category_jobs i (get_or r.category_jobs i 0 + 1)) k (v - 1)) (get-other r.category_jobs i k _ ne)
        ∙ set-apart r.category_jobs i k (get_or r.category_jobs i 0 + 1) (get_or r.category_jobs k 0 - 1) ne
        ∙ ap (λ (v : ℕ). set (set r.category_jobs k (get_or r.category_jobs k 0 - 1)) i (v + 1)) (sym (get-other r.category_jobs k i _ (λ e. ne (sym e))))

    together : 0 < get_or r.category_jobs i 0 → set (set r.category_jobs i (get_or r.category_jobs i 0 + 1)) i (get_or (set r.category_jobs i (get_or r.category_jobs i 0 + 1)) i 0 - 1) ≡ set (set r.category_jobs i (get_or r.category_jobs i 0 - 1)) i (get_or (set r.category_jobs i (get_or r.category_jobs i 0 - 1)) i 0 + 1)
    together lt =
        set-twice r.category_jobs i _ _
        ∙ ap (λ (v : ℕ). set r.category_jobs i (v - 1)) (get-same r.category_jobs i (get_or r.category_jobs i 0 + 1) p)
        ∙ ap (λ (v : ℕ). set r.category_jobs i v) (less-more (get_or r.category_jobs i 0) lt)
        ∙ ap (λ (v : ℕ). set r.category_jobs i (v + 1)) (sym (get-same r.category_jobs i (get_or r.category_jobs i 0 - 1) p))
        ∙ sym (set-twice r.category_jobs i _ _)

    go : (b : Bool) → (i == k) ≡ b → without_one (with_one r Job (Some i)) Job (Some k) ≡ with_one (without_one r Job (Some k)) Job (Some i)
    go true e =
        let same : i ≡ k = eqb-true i k e in
        subst (λ q. without_one (with_one r Job (Some i)) Job (Some q) ≡ with_one (without_one r Job (Some q)) Job (Some i)) same
        (λ j. record r { category_jobs = together (subst (λ q. 0 < get_or r.category_jobs q 0) (sym same) h) j })
    go false e = λ j. record r { category_jobs = apart (eqb-false i k e) j }

-- each phase counts once in all
pub with-all : (r : Running) (phase : Phase) (category : Option ℕ) → IsCounted r category → all_in (with_one r phase category) ≡ all_in r + 1
with-all r Pre category p = omega arith
with-all r Job None p = omega arith
with-all r Post category p = omega arith
with-all r Job (Some place) p =
    let more : sum (set r.category_jobs place (get_or r.category_jobs place 0 + 1)) ≡ sum r.category_jobs + 1 = sum-more r.category_jobs place p in
    omega (arith, more)
  where
    sum-more : (xs : List ℕ) (i : ℕ) → i < length xs → sum (set xs i (get_or xs i 0 + 1)) ≡ sum xs + 1
    sum-more xs i lt = grind (arith, common_steps)

sum-zeros : (n : ℕ) → sum (replicate n 0) ≡ 0
sum-zeros zero = refl
sum-zeros (suc n) = sum-zeros n

pub none-all : (categories : List ℕ) → all_in (none_running categories) ≡ 0
none-all categories = let z = sum-zeros (length categories) in omega (arith, z)

pub none-length : (categories : List ℕ) → length (none_running categories).category_jobs ≡ length categories
none-length categories = length-replicate (length categories) 0

-- one more makes no count less
sum-more : (xs : List ℕ) (i : ℕ) → sum xs ≤ sum (set xs i (get_or xs i 0 + 1))
sum-more [] i = omega arith
sum-more (x ∷ xs) zero = grind (arith, common_steps)
sum-more (x ∷ xs) (suc i) = let h = sum-more xs i in grind (arith, common_steps, h)

pub kind-more : (r : Running) (phase : Phase) (category : Option ℕ) → IsCounted r category → (own : Phase) → of_kind own r ≤ of_kind own (with_one r phase category)
kind-more r Pre category p Pre = omega arith
kind-more r Pre category p Job = omega arith
kind-more r Pre category p Post = omega arith
kind-more r Post category p Pre = omega arith
kind-more r Post category p Job = omega arith
kind-more r Post category p Post = omega arith
kind-more r Job None p Pre = omega arith
kind-more r Job None p Job = omega arith
kind-more r Job None p Post = omega arith
kind-more r Job (Some place) p Pre = omega arith
kind-more r Job (Some place) p Job = let h = sum-more r.category_jobs place in omega (arith, h)
kind-more r Job (Some place) p Post = omega arith

pub category-more : (r : Running) (phase : Phase) (category : Option ℕ) → IsCounted r category → (i : ℕ) → get_or r.category_jobs i 0 ≤ get_or (with_one r phase category).category_jobs i 0
category-more r Pre category p i = omega arith
category-more r Post category p i = omega arith
category-more r Job None p i = omega arith
category-more r Job (Some place) p i = go (place == i) refl
  where
    n : ℕ
    n = get_or r.category_jobs place 0

    go : (b : Bool) → (place == i) ≡ b → get_or r.category_jobs i 0 ≤ get_or (set r.category_jobs place (n + 1)) i 0
    go true e =
        subst (λ k. get_or r.category_jobs k 0 ≤ get_or (set r.category_jobs place (n + 1)) k 0) (eqb-true place i e)
        (let g = get-same r.category_jobs place (n + 1) p in omega (arith, g))
    go false e = let g = get-other r.category_jobs place i (n + 1) (eqb-false place i e) in omega (arith, g)
