-- Sweeps over all numbers below a bound, and one node's change in a list.
use Rattle.std.proofs.Common.{get_or, ◌≡◌, ℕ, zero, suc, ◌<◌, Bool, true, false, ◌&&◌, List, [], ◌∷◌, length, map, ◌==◌, slice_set, refl, sym, ap, ◌∙◌, arith, eqb-true}
use Rattle.std.proofs.lemmas.Bool.{and_from, eqb-false}
use Rattle.run_plan.specs.Plan.{all_below}
use Rattle.node_machine.specs.NodeProgress.{NodeProgress}
use Rattle.sched_core.specs.Core.{run_at}
use Rattle.node_machine.specs.NodeRun.{stopped}

pub all_below-from : (test : ℕ → Bool) (n : ℕ) → ((k : ℕ) → k < n → test k ≡ true) → all_below test n ≡ true
all_below-from test zero h = refl
all_below-from test (suc n) h = and_from _ _ (h n (omega arith)) (all_below-from test n (λ k lt. h k (omega arith)))

pub all_below-not : (test : ℕ → Bool) (n k : ℕ) → k < n → test k ≡ false → all_below test n ≡ false
all_below-not test zero k lt e = absurd (omega arith)
all_below-not test (suc n) k lt e = go (k == n) refl (λ below. all_below-not test n k below e)
  where
    go : (b : Bool) → (k == n) ≡ b → (k < n → all_below test n ≡ false) → (test n && all_below test n) ≡ false
    go true same rest = λ j. (ap test (sym (eqb-true k n same)) ∙ e) j && all_below test n
    go false ne rest =
        let other = eqb-false k n ne in
        (λ j. test n && rest (omega arith) j) ∙ (elim (test n) as (λ b. (b && false) ≡ false) [ true ↦ refl | false ↦ refl ])

pub all_below-same : (test other : ℕ → Bool) (n : ℕ) → ((k : ℕ) → k < n → test k ≡ other k) → all_below test n ≡ all_below other n
all_below-same test other zero h = refl
all_below-same test other (suc n) h = λ j. h n (omega arith) j && all_below-same test other n (λ k lt. h k (omega arith)) j

-- a node after its own change, and after another's
pub run_at-same : (runs : List NodeProgress) (i : ℕ) (run : NodeProgress) → i < length runs → run_at (slice_set runs i run) i ≡ run
run_at-same [] i run lt = absurd (omega arith)
run_at-same (r ∷ runs) zero run lt = refl
run_at-same (r ∷ runs) (suc i) run lt = run_at-same runs i run (omega arith)

pub run_at-other : (runs : List NodeProgress) (i : ℕ) (run : NodeProgress) (node : ℕ) → (i ≡ node → ⊥) → run_at (slice_set runs i run) node ≡ run_at runs node
run_at-other [] i run node ne = refl
run_at-other (r ∷ runs) zero run zero ne = absurd (ne refl)
run_at-other (r ∷ runs) zero run (suc node) ne = refl
run_at-other (r ∷ runs) (suc i) run zero ne = refl
run_at-other (r ∷ runs) (suc i) run (suc node) ne = run_at-other runs i run node (λ e. ne (ap suc e))

pub run_at-stopped : (runs : List NodeProgress) (node : ℕ) → run_at (map stopped runs) node ≡ stopped (run_at runs node)
run_at-stopped [] node = refl
run_at-stopped (r ∷ runs) zero = refl
run_at-stopped (r ∷ runs) (suc node) = run_at-stopped runs node

-- within a list the default does not matter
pub get_or-default : {A : Type 0} (xs : List A) (i : ℕ) (d e : A) → i < length xs → get_or xs i d ≡ get_or xs i e
get_or-default [] i d e lt = absurd (omega arith)
get_or-default (x ∷ xs) zero d e lt = refl
get_or-default (x ∷ xs) (suc i) d e lt = get_or-default xs i d e (omega arith)
