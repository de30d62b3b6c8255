-- Rescue files that stand above a number.
use Rattle.std.proofs.Common.{◌≡◌, ℕ, ◌+◌, ◌<◌, ◌≤◌, List, [], ◌∷◌, ◌++◌, arith, ⊎_elim, subst}
use Rattle.std.proofs.lemmas.Bool.{cases_lt}
use Rattle.std.proofs.lemmas.List.Elements.{All-nil, All-push, Contains-push, Contains-append_left}
use Rattle.std.proofs.lemmas.List.Quantifiers.{all_pairs_push}
use Rattle.std.specs.List.{All, Contains}
use Rattle.rescue_file.specs.Numbered.{IsFileNumber, rescue_name_of, IsHighest}
use Rattle.dag_main_files.specs.Rescues.{AreAbove}

-- Those above a number, which are above a bound too.
pub record AreFound (names : List (List ℕ)) (top : List ℕ) (from number : ℕ) (numbers : List ℕ) : Type 0 where
  pub within : number ≤ 999
  pub above : AreAbove names top number numbers
  pub bounded : All (λ n. from < n) numbers

pub none_found : (names : List (List ℕ)) (top : List ℕ) (from highest : ℕ) → IsHighest names top highest → AreFound names top from highest []
none_found names top from highest is = record {
  within = is.within;
  above = record {
    falling = λ i j d before in'. absurd (omega (arith, in'));
    above = All-nil (λ n. highest < n);
    named = All-nil IsFileNumber;
    there = All-nil (λ n. Contains names (rescue_name_of top n));
    all = λ n more most has. absurd (is.above n more most has);
  };
  bounded = All-nil (λ n. from < n);
}

module _ (names : List (List ℕ)) (top : List ℕ) (from number below : ℕ) (numbers : List ℕ) (next : below + 1 ≡ number) (more : from < number) (found : AreFound names top from number numbers) where
  pub one_found : Contains names (rescue_name_of top number) → AreFound names top from below (numbers ++ number ∷ [])
  one_found has =
      let within = found.within in
      let so_far = found.above in
      record {
        within = omega arith;
        above = record {
          falling = all_pairs_push (λ n later. later < n) numbers number so_far.falling (λ k d in'. so_far.above k d in');
          above = All-push (λ n. below < n) numbers number (λ k d in'. let higher = so_far.above k d in' in omega arith) (omega arith);
          named = All-push IsFileNumber numbers number so_far.named (let least : 1 ≤ number = omega arith in (least, within));
          there = All-push (λ n. Contains names (rescue_name_of top n)) numbers number so_far.there has;
          all = λ n higher most is. ⊎_elim
              (λ (over : number < n). Contains-append_left numbers (number ∷ []) n (so_far.all n over most is))
              (λ (not_over : n ≤ number).
              let same : number ≡ n = omega arith in
              subst (λ (m : ℕ). Contains (numbers ++ number ∷ []) m) same (Contains-push numbers number))
              (cases_lt number n);
        };
        bounded = All-push (λ n. from < n) numbers number found.bounded more;
      }

  pub none_more : (Contains names (rescue_name_of top number) → ⊥) → AreFound names top from below numbers
  none_more has_not =
      let within = found.within in
      let so_far = found.above in
      record {
        within = omega arith;
        above = record {
          falling = so_far.falling;
          above = λ k d in'. let higher = so_far.above k d in' in omega arith;
          named = so_far.named;
          there = so_far.there;
          all = λ n higher most is. ⊎_elim
              (λ (over : number < n). so_far.all n over most is)
              (λ (not_over : n ≤ number).
              let same : n ≡ number = omega arith in
              absurd (has_not (subst (λ (m : ℕ). Contains names (rescue_name_of top m)) same is)))
              (cases_lt number n);
        };
        bounded = found.bounded;
      }

pub all_found : (names : List (List ℕ)) (top : List ℕ) (from number : ℕ) (numbers : List ℕ) → number ≤ from → AreFound names top from number numbers → AreAbove names top from numbers
all_found names top from number numbers low found = record {
  falling = found.above.falling;
  above = found.bounded;
  named = found.above.named;
  there = found.above.there;
  all = λ n more most has. found.above.all n (omega arith) most has;
}
