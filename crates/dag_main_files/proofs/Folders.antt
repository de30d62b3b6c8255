-- The last slash of a path.
use Rattle.std.proofs.Common.{◌≡◌, ◌≢◌, ◌<◌, ℕ, zero, suc, List, length, take, get_or, Some, None, MatchOption, refl, sym, ap, ◌∙◌, ⊎_elim, eq-eqb, ne_eqb, arith}
use Rattle.std.specs.declared.option.Option.{Option}
use Rattle.std.specs.Path.{rfind_below}
use Rattle.dag_main_files.specs.Beside.{folder_before}
use Rattle.std.proofs.lemmas.Bool.{cases_eq, cond-true, cond-false}

none-below : (c : ℕ) (text : List ℕ) (n : ℕ) → ((i : ℕ) → i < n → get_or text i 0 ≢ c) → rfind_below c text n ≡ None
none-below c text zero h = refl
none-below c text (suc n) h = cond-false _ _ _ (ne_eqb _ c (h n (omega arith))) ∙ none-below c text n (λ i l. h i (omega arith))

last-below : (c : ℕ) (text : List ℕ) (k n : ℕ) → k < n → get_or text k 0 ≡ c → ((i : ℕ) → k < i → i < n → get_or text i 0 ≢ c) → rfind_below c text n ≡ Some k
last-below c text k zero l at h = absurd (omega arith)
last-below c text k (suc n) l at h =
    ⊎_elim
    (λ e. cond-true _ _ _ (eq-eqb _ c (ap (λ j. get_or text j 0) (sym e) ∙ at)) ∙ ap (λ j. Some j) (sym e))
    (λ other. cond-false _ _ _ (ne_eqb _ c (h n (omega arith) (omega arith))) ∙ last-below c text k n (omega arith) at (λ i a b. h i a (omega arith)))
    (cases_eq k n)

-- what finding the last of a byte gives
pub last-of : (c : ℕ) (text : List ℕ) (r : Option ℕ)
    → MatchOption r ((i : ℕ) → i < length text → get_or text i 0 ≢ c) (λ k. (k < length text) × (get_or text k 0 ≡ c) × ((i : ℕ) → k < i → i < length text → get_or text i 0 ≢ c))
    → rfind_below c text (length text) ≡ r
last-of c text None h = none-below c text (length text) h
last-of c text (Some k) h = last-below c text k (length text) h.0 h.1 h.2

-- what is before a slash that isn't the first byte
pub before-slash : (path : List ℕ) (slash : ℕ) → (slash ≡ 0 → ⊥) → folder_before path (Some slash) ≡ take slash path
before-slash path zero some = absurd (some refl)
before-slash path (suc n) some = refl
