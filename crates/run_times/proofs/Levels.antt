-- How many times are no later than a time.
use Rattle.std.proofs.Common.{◌≡◌, ℕ, zero, suc, ◌+◌, ◌-◌, ◌<◌, ◌≤◌, Bool, true, false, cond, List, take, take_all, length, get_or, refl, subst, arith}
use Rattle.std.specs.Prelude.{count_by, IsPermutation, nat_le}
use Rattle.std.proofs.lemmas.List.Sums.{count_by_more_no, count_by_more_yes}
use Rattle.std.proofs.lemmas.List.Sorted.{sum_by-IsPermutation}
use Rattle.run_times.specs.Load.{count_until}

-- all below a point pass, and none from there on
module _ (p : ℕ → Bool) (xs : List ℕ) (point : ℕ) (within : point ≤ length xs) (below : (k : ℕ) → k < point → p (get_or xs k 0) ≡ true)
    (above : (k : ℕ) → point ≤ k → k < length xs → p (get_or xs k 0) ≡ false) where
  counted-below : (k : ℕ) → k ≤ point → count_by p (take k xs) ≡ k
  counted-below zero low = refl
  counted-below (suc k) low =
      let more = count_by_more_yes p xs k 0 (omega (arith, low, within)) (below k (omega (arith, low))) in
      let so_far = counted-below k (omega (arith, low)) in
      let one : k + 1 ≡ suc k = omega arith in
      subst (λ (n : ℕ). count_by p (take n xs) ≡ suc k) one (omega (arith, more, so_far))

  counted-above : (m : ℕ) → point + m ≤ length xs → count_by p (take (point + m) xs) ≡ point
  counted-above zero low = let none : point ≡ point + zero = omega arith in subst (λ (n : ℕ). count_by p (take n xs) ≡ point) none (counted-below point (omega arith))
  counted-above (suc m) low =
      let more = count_by_more_no p xs (point + m) 0 (omega (arith, low)) (above (point + m) (omega arith) (omega (arith, low))) in
      let so_far = counted-above m (omega (arith, low)) in
      let one : point + m + 1 ≡ point + suc m = omega arith in
      subst (λ (n : ℕ). count_by p (take n xs) ≡ point) one (omega (arith, more, so_far))

  pub counted : count_by p xs ≡ point
  counted = subst (λ (ys : List ℕ). count_by p ys ≡ point) (take_all (point + (length xs - point)) xs (omega (arith, within))) (counted-above (length xs - point) (omega (arith, within)))

-- times in another order are as many until a time
pub until-same : (times sorted : List ℕ) → IsPermutation times sorted → (time : ℕ) → count_until sorted time ≡ count_until times time
until-same times sorted same time = sum_by-IsPermutation (λ one. cond (nat_le one time) 1 0) times sorted same
