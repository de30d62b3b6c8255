-- The limits of categories, by the places of their names.
use Rattle.std.proofs.Common.{◌≡◌, ℕ, zero, suc, ◌+◌, ◌<◌, Bool, true, false, not, cond, ◌||◌, ◌++◌, List, [], ◌∷◌, length, map, Some, None, get_or, nat_lt, refl, sym, ap, ◌∙◌, arith, position}
use Rattle.std.proofs.lemmas.Bool.{or_parts, cond-true, cond-false}
use Rattle.std.proofs.lemmas.Bool.Decides.{nat_tests}
use Rattle.std.proofs.lemmas.List.Quantifiers.{position-Some}
use Rattle.std.proofs.lemmas.Slice.Eq.{bytes_eq-Decides}
use Rattle.std.specs.Prelude.{find, slice_set}
use Rattle.std.specs.List.{list_any, position_or_len}
use Rattle.std.specs.Str.{bytes_eq}
use Rattle.splices_flat.specs.declared.flat.CategoryLimit.{CategoryLimit}
use Rattle.splices_flat.specs.Notices.{Notice, overridden, with_notice, with_notices}
use Rattle.splices_flat.specs.Warnings.{Warned, with_limit, line_of_limit, overridden_if, replaced_limit}
use Rattle.splices_flat.proofs.NameLists.{any_map, position_map}

abbrev pub has_name : List ℕ → CategoryLimit → Bool
has_name name limit = bytes_eq name limit.name

first_lt : (b : ℕ) → true ≡ nat_lt 0 (suc b)
first_lt b = grind (arith, nat_tests)

next_lt : (a b : ℕ) → nat_lt a b ≡ nat_lt (1 + a) (suc b)
next_lt a b = grind (arith, nat_tests)

any_place : {X : Type 0} (p : X → Bool) (xs : List X) → list_any p xs ≡ nat_lt (position_or_len p xs) (length xs)
any_place p [] = refl
any_place p (x ∷ xs) =
    elim (p x) as (λ b. (b || list_any p xs) ≡ nat_lt (cond (not b) (1 + position_or_len p xs) 0) (suc (length xs))) [
      | true ↦ first_lt (length xs)
      | false ↦ any_place p xs ∙ next_lt (position_or_len p xs) (length xs)
    ]

none_if : (b : Bool) (n : ℕ) → None ≡ cond b (Some n) None → b ≡ false
none_if true n e = cc
none_if false n e = refl

-- what has no place is not there
pub not_there : {X : Type 0} (p : X → Bool) (xs : List X) → None ≡ position p xs → list_any p xs ≡ false
not_there p xs e = any_place p xs ∙ none_if _ _ e

pub new_limit : (limits : List CategoryLimit) (limit : CategoryLimit) → list_any (has_name limit.name) limits ≡ false → with_limit limits limit ≡ limits ++ limit ∷ []
new_limit [] limit e = refl
new_limit (other ∷ limits) limit e =
    let p = or_parts _ _ e in
    cond-false (bytes_eq limit.name other.name) (limit ∷ limits) (other ∷ with_limit limits limit) p.0 ∙ ap (λ ls. other ∷ ls) (new_limit limits limit p.1)

pub none_replaced : (limits : List CategoryLimit) (limit : CategoryLimit) → list_any (has_name limit.name) limits ≡ false → replaced_limit limits limit ≡ []
none_replaced [] limit e = refl
none_replaced (other ∷ limits) limit e =
    let p = or_parts _ _ e in
    ap (overridden_if limit) (cond-false (bytes_eq limit.name other.name) (Some other) (find (has_name limit.name) limits) p.0) ∙ none_replaced limits limit p.1

at_place : (limits : List CategoryLimit) (limit d : CategoryLimit) (k : ℕ) → k < length limits → has_name limit.name (get_or limits k d) ≡ true → ((j : ℕ) → j < k → has_name limit.name (get_or limits j d) ≡ false) → (with_limit limits limit ≡ slice_set limits k limit) × (replaced_limit limits limit ≡ overridden (line_of_limit (get_or limits k d)) (line_of_limit limit) ∷ [])
at_place [] limit d k lt e before = absurd (omega arith)
at_place (other ∷ limits) limit d zero lt e before =
    (cond-true (bytes_eq limit.name other.name) (limit ∷ limits) (other ∷ with_limit limits limit) e, ap (overridden_if limit) (cond-true (bytes_eq limit.name other.name) (Some other) (find (has_name limit.name) limits) e))
at_place (other ∷ limits) limit d (suc k) lt e before =
    let no : bytes_eq limit.name other.name ≡ false = before 0 (omega arith) in
    let rest = at_place limits limit d k (omega arith) e (λ j l. before (suc j) (omega arith)) in (
      cond-false (bytes_eq limit.name other.name) (limit ∷ limits) (other ∷ with_limit limits limit) no ∙ ap (λ ls. other ∷ ls) rest.0,
      ap (overridden_if limit) (cond-false (bytes_eq limit.name other.name) (Some other) (find (has_name limit.name) limits) no) ∙ rest.1,
    )

same_names : (limits : List CategoryLimit) (limit d : CategoryLimit) (k : ℕ) → limit.name ≡ (get_or limits k d).name → map (λ (l : CategoryLimit). l.name) limits ≡ map (λ (l : CategoryLimit). l.name) (slice_set limits k limit)
same_names [] limit d k e = refl
same_names (other ∷ limits) limit d zero e = ap (λ (n : List ℕ). n ∷ map (λ (l : CategoryLimit). l.name) limits) (sym e)
same_names (other ∷ limits) limit d (suc k) e = ap (λ (ns : List (List ℕ)). other.name ∷ ns) (same_names limits limit d k e)

place_in : (names : List (List ℕ)) (limits : List CategoryLimit) (limit d : CategoryLimit) (k : ℕ) → names ≡ map (λ (l : CategoryLimit). l.name) limits → Some k ≡ position (bytes_eq limit.name) names → (k < length limits) × (has_name limit.name (get_or limits k d) ≡ true) × ((j : ℕ) → j < k → has_name limit.name (get_or limits j d) ≡ false)
place_in names limits limit d k are e =
    position-Some (has_name limit.name) limits k d (sym (e ∙ ap (position (bytes_eq limit.name)) are ∙ position_map (λ (l : CategoryLimit). l.name) (bytes_eq limit.name) limits))

-- the names stay where a limit is replaced
pub names_stay : (names : List (List ℕ)) (limits : List CategoryLimit) (limit : CategoryLimit) (k : ℕ) → names ≡ map (λ (l : CategoryLimit). l.name) limits → Some k ≡ position (bytes_eq limit.name) names → names ≡ map (λ (l : CategoryLimit). l.name) (slice_set limits k limit)
names_stay names limits limit k are e =
    are ∙ same_names limits limit limit k ((bytes_eq-Decides _ _).0 (place_in names limits limit limit k are e).1)

pub limit_replaced : (names : List (List ℕ)) (limits : List CategoryLimit) (notices notices' : List Notice) (limit old : CategoryLimit) (k : ℕ) → names ≡ map (λ (l : CategoryLimit). l.name) limits → Some k ≡ position (bytes_eq limit.name) names → old ≡ get_or limits k old → notices' ≡ with_notice notices (overridden (line_of_limit old) (line_of_limit limit)) →
    ◌≡◌ {A = Warned} (record { limits = slice_set limits k limit; notices = notices' }) (record { limits = with_limit limits limit; notices = with_notices notices (replaced_limit limits limit) })
limit_replaced names limits notices notices' limit old k are e is more =
    let q = place_in names limits limit old k are e in
    let r = at_place limits limit old k q.0 q.1 q.2 in
    let w : notices' ≡ with_notices notices (replaced_limit limits limit) =
    more ∙ ap (λ l. with_notice notices (overridden (line_of_limit l) (line_of_limit limit))) is ∙ ap (with_notices notices) (sym r.1) in
    λ i. record { limits = sym r.0 i; notices = w i }

pub limit_added : (names : List (List ℕ)) (limits limits' : List CategoryLimit) (notices : List Notice) (limit : CategoryLimit) → names ≡ map (λ (l : CategoryLimit). l.name) limits → None ≡ position (bytes_eq limit.name) names → limits' ≡ limits ++ limit ∷ [] →
    ◌≡◌ {A = Warned} (record { limits = limits'; notices = notices }) (record { limits = with_limit limits limit; notices = with_notices notices (replaced_limit limits limit) })
limit_added names limits limits' notices limit are e more =
    let no : list_any (has_name limit.name) limits ≡ false = sym (any_map (λ (l : CategoryLimit). l.name) (bytes_eq limit.name) limits) ∙ ap (list_any (bytes_eq limit.name)) (sym are) ∙ not_there (bytes_eq limit.name) names e in
    let l : limits' ≡ with_limit limits limit = more ∙ sym (new_limit limits limit no) in
    let w : notices ≡ with_notices notices (replaced_limit limits limit) = sym (ap (with_notices notices) (none_replaced limits limit no)) in
    λ i. record { limits = l i; notices = w i }
