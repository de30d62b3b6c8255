-- The first element of a list that passes a test, as a loop comes to it.
use Rattle.std.proofs.Common.{◌≡◌, ◌<◌, ℕ, zero, suc, Bool, true, false, cond, List, [], ◌∷◌, Option, Some, None, length, take, get_or, arith, refl}
use Rattle.std.specs.Prelude.{find}

-- none of those before it passes, and neither does this one
pub none-more : {X : Type 0} (p : X → Bool) (xs : List X) (i : ℕ) (d : X) → i < length xs → find p (take i xs) ≡ None → p (get_or xs i d) ≡ false
    → find p (take (suc i) xs) ≡ None
none-more p [] i d less none fails = let wrong : ⊥ = omega (arith, less) in absurd wrong
none-more p (x ∷ xs) zero d less none fails = rw fails refl
none-more {X = X} p (x ∷ xs) (suc i) d less none fails = go (p x) refl none (λ rest. none-more p xs i d (omega (arith, less)) rest fails)
  where
    go : (b : Bool) → p x ≡ b → cond b (Some x) (find p (take i xs)) ≡ None → (find p (take i xs) ≡ None → find p (take (suc i) xs) ≡ None)
        → cond (p x) (Some x) (find p (take (suc i) xs)) ≡ None
    go true is some next = absurd cc
    go false is rest next = rw is (next rest)

-- none of those before it passes, and this one does
pub first-at : {X : Type 0} (p : X → Bool) (xs : List X) (i : ℕ) (d : X) → i < length xs → find p (take i xs) ≡ None → p (get_or xs i d) ≡ true
    → find p xs ≡ Some (get_or xs i d)
first-at p [] i d less none holds = let wrong : ⊥ = omega (arith, less) in absurd wrong
first-at p (x ∷ xs) zero d less none holds = rw holds refl
first-at {X = X} p (x ∷ xs) (suc i) d less none holds = go (p x) refl none (λ rest. first-at p xs i d (omega (arith, less)) rest holds)
  where
    go : (b : Bool) → p x ≡ b → cond b (Some x) (find p (take i xs)) ≡ None → (find p (take i xs) ≡ None → find p xs ≡ Some (get_or xs i d))
        → cond (p x) (Some x) (find p xs) ≡ Some (get_or xs i d)
    go true is some next = absurd cc
    go false is rest next = rw is (next rest)
