-- How many nodes there are of each class, as sums.
use Rattle.std.proofs.Common.{◌≡◌, ℕ, zero, suc, ◌+◌, ◌<◌, ◌≤◌, Bool, true, false, ◌||◌, ◌==◌, refl, arith, eq-eqb, eqb-true, if◌then◌else◌, List, [], ◌∷◌, length, get_or, Option, Some, None}
use Rattle.std.specs.Prelude.{replicate, slice_set, IfSome}
use Rattle.std.proofs.lemmas.Bool.{eqb-false, false_from_ne_true}
use Rattle.sched_core.specs.Bound.{sum_below}
use Rattle.node_machine.specs.declared.Phase.{Phase}
use Rattle.node_machine.specs.declared.Phase.TheVariants.{Pre, Job, Post}
use Rattle.run_plan.specs.Plan.{Plan, node_at, count_of}
use Rattle.sched_core.specs.Queued.{AreRooms, candidates, class_of, classes_of, count_at, may_be_of, share}

-- of two numbers, whether they are one
pub by_same : {P : Type 0} (a b : ℕ) → (a ≡ b → P) → ((a ≡ b → ⊥) → P) → P
by_same {P} a b same other = go (a == b) refl
  where
    go : (t : Bool) → (a == b) ≡ t → P
    go true e = same (eqb-true a b e)
    go false e = other (eqb-false a b e)

pub sum-same : (f g : ℕ → ℕ) (n : ℕ) → ((k : ℕ) → k < n → g k ≡ f k) → sum_below g n ≡ sum_below f n
sum-same f g zero same = refl
sum-same f g (suc n) same = λ j. same n (omega arith) j + sum-same f g n (λ k lt. same k (omega (arith, lt))) j

pub sum-few : (f : ℕ → ℕ) → ((k : ℕ) → f k ≤ 1) → (n : ℕ) → sum_below f n ≤ n
sum-few f one zero = omega arith
sum-few f one (suc n) = let h = one n in let before = sum-few f one n in omega (arith, h, before)

pub sum-none : (n : ℕ) → sum_below (λ k. 0) n ≡ 0
sum-none zero = refl
sum-none (suc n) = let before = sum-none n in omega (arith, before)

pub share-own : (class : ℕ) → share class class ≡ 1
share-own class = λ j. if eq-eqb class class refl j then 1 else 0

pub share-other : (own class : ℕ) → (own ≡ class → ⊥) → share own class ≡ 0
share-other own class ne = λ j. if false_from_ne_true (own == class) (λ t. ne (eqb-true own class t)) j then 1 else 0

pub share-few : (own class : ℕ) → share own class ≤ 1
share-few own class = go (own == class)
  where
    go : (b : Bool) → (if b then 1 else 0) ≤ 1
    go true = omega arith
    go false = omega arith

-- counts that are all none
pub none-at : (n k : ℕ) → count_at (replicate n 0) k ≡ 0
none-at zero k = refl
none-at (suc n) zero = refl
none-at (suc n) (suc k) = none-at n k

-- a class is one of the plan's
pub class-within : (n : ℕ) (phase : Phase) (category : Option ℕ) → IfSome category (λ place. place < n) → class_of phase category < n + 3
class-within n Pre category within = omega arith
class-within n Post category within = omega arith
class-within n Job None within = omega arith
class-within n Job (Some place) within = omega (arith, within)

-- and its number is small
pub place-fits : (n many : ℕ) (category : Option ℕ) → IfSome category (λ place. place < n) → many ≡ n + 3 → many < 18446744073709551616 → IfSome category (λ place. place + 3 < 18446744073709551616)
place-fits n many None within is fits = tt
place-fits n many (Some place) within is fits = omega (arith, within, is, fits)

-- a count that is read
pub get-count : (counts : List ℕ) (class d : ℕ) → class < length counts → get_or counts class d ≡ count_at counts class
get-count [] class d lt = absurd (omega (arith, lt))
get-count (c ∷ counts) zero d lt = refl
get-count (c ∷ counts) (suc class) d lt = get-count counts class d (omega (arith, lt))

-- as many nodes wait in the queue of a class of jobs as have such jobs
pub job-candidates : (plan : Plan) (class : ℕ) → 1 < class → candidates plan class ≡ sum_below (λ node. share (class_of Job (node_at plan node).category) class) (count_of plan)
job-candidates plan class jobs =
    sum-same (λ node. share (class_of Job (node_at plan node).category) class) (λ node. if may_be_of plan class node then 1 else 0) (count_of plan)
    (λ node lt. λ j. if not-pre j || (not-post j || (class_of Job (node_at plan node).category == class)) then 1 else 0)
  where
    not-pre : (class == 0) ≡ false
    not-pre = false_from_ne_true (class == 0) (λ t. let e = eqb-true class 0 t in omega (arith, e, jobs))

    not-post : (class == 1) ≡ false
    not-post = false_from_ne_true (class == 1) (λ t. let e = eqb-true class 1 t in omega (arith, e, jobs))

pub candidates-few : (plan : Plan) (class : ℕ) → candidates plan class ≤ count_of plan
candidates-few plan class = sum-few (λ node. if may_be_of plan class node then 1 else 0) (λ k. one (may_be_of plan class k)) (count_of plan)
  where
    one : (b : Bool) → (if b then 1 else 0) ≤ 1
    one true = omega arith
    one false = omega arith

-- room for all nodes in the queues of scripts, and for those that are counted in the others
pub rooms-are : (plan : Plan) (counts : List ℕ) → length counts ≡ classes_of plan
    → ((class : ℕ) → count_at counts class ≡ sum_below (λ node. share (class_of Job (node_at plan node).category) class) (count_of plan))
    → (n m : ℕ) → n ≡ count_of plan → m ≡ count_of plan → AreRooms plan (slice_set (slice_set counts 0 n) 1 m)
rooms-are plan [] many counted n m is its = let e = many in absurd (omega (arith, e))
rooms-are plan (a ∷ []) many counted n m is its = let e = many in absurd (omega (arith, e))
rooms-are plan (a ∷ b ∷ counts) many counted n m is its = record {
  many = many;
  each = λ class w. go class w;
}
  where
    go : (class : ℕ) → class < classes_of plan → candidates plan class ≤ count_at (n ∷ m ∷ counts) class
    go zero w = let few = candidates-few plan 0 in omega (arith, few, is)
    go (suc zero) w = let few = candidates-few plan 1 in omega (arith, few, its)
    go (suc (suc class)) w = let all = job-candidates plan (suc (suc class)) (omega arith) in let own = counted (suc (suc class)) in omega (arith, all, own)
