-- Each name of some limits, and the place of its first limit, limit by limit.
use Rattle.std.proofs.Common.{◌≡◌, ℕ, suc, ◌+◌, ◌-◌, ◌<◌, Option, Bool, true, false, cond, ◌++◌, List, [], ◌∷◌, length, get_or, Some, None, refl, sym, ap, subst, ◌∙◌, arith, position, take, length-append}
use Rattle.std.proofs.lemmas.Iterator.Adapters.{position_from-zero}
use Rattle.std.specs.List.{position_from}
use Rattle.std.specs.Option.{option_map, option_or}
use Rattle.std.specs.List.{list_any}
use Rattle.std.specs.Str.{bytes_eq}
use Rattle.std.proofs.lemmas.Bool.{true≢false}
use Rattle.std.proofs.lemmas.List.{get_or-append_right, get_or_append_left, length-take-le}
use Rattle.std.proofs.Math.Seq.{take-suc}
use Rattle.std.proofs.lemmas.List.Quantifiers.{position-Some}
use Rattle.std.proofs.lemmas.Slice.Eq.{bytes_eq-Decides}
use Rattle.splices_flat.specs.declared.flat.CategoryLimit.{CategoryLimit}
use Rattle.splices_flat.proofs.Limits.{not_there}
use Rattle.run_plan_node.specs.Categories.{AreFound}

from_append : {X : Type 0} (p : X → Bool) (i : ℕ) (xs ys : List X) → position_from p i (xs ++ ys) ≡ option_or (position_from p i xs) (position_from p (i + length xs) ys)
from_append p i [] ys =
    let e : i ≡ i + 0 = omega arith in
    ap (λ n. position_from p n ys) e
from_append p i (x ∷ xs) ys =
    let e : (i + 1) + length xs ≡ i + length (x ∷ xs) = omega arith in
    elim (p x) as (λ b. cond b (Some i) (position_from p (i + 1) (xs ++ ys)) ≡ option_or (cond b (Some i) (position_from p (i + 1) xs)) (position_from p (i + length (x ∷ xs)) ys)) [
      | true ↦ refl
      | false ↦ from_append p (i + 1) xs ys ∙ ap (λ n. option_or (position_from p (i + 1) xs) (position_from p n ys)) e
    ]

-- the place of what passes a test, in a list with one more after it
pub position_snoc : {X : Type 0} (p : X → Bool) (xs : List X) (x : X) → position p (xs ++ x ∷ []) ≡ option_or (position p xs) (cond (p x) (Some (length xs)) None)
position_snoc p xs x =
    let e : 0 + length xs ≡ length xs = omega arith in
    position_from-zero p (xs ++ x ∷ []) ∙ from_append p 0 xs (x ∷ [])
    ∙ ap (λ n. option_or (position_from p 0 xs) (cond (p x) (Some n) None)) e
    ∙ ap (λ o. option_or o (cond (p x) (Some (length xs)) None)) (sym (position_from-zero p xs))

abbrev has_name : List ℕ → CategoryLimit → Bool
has_name name limit = bytes_eq name limit.name

abbrev at_number : List ℕ → ℕ → ℕ
at_number places number = get_or places number 0

pub found_none : AreFound [] [] []
found_none = record { each = refl; first = λ name. refl }

-- what is there has a place
place_known : (name : List ℕ) (names : List (List ℕ)) (o : Option ℕ) → o ≡ position (bytes_eq name) names → list_any (bytes_eq name) names ≡ true → (k : ℕ) × (o ≡ Some k)
place_known name names (Some k) is there = (k, refl)
place_known name names None is there = absurd (true≢false (sym there ∙ not_there (bytes_eq name) names is))

-- a limit of a name that has a limit already
same_first : (limits : List CategoryLimit) (limit : CategoryLimit) (names : List (List ℕ)) (places : List ℕ) (name : List ℕ) (here : Bool) (o : Option ℕ)
    → here ≡ bytes_eq name limit.name → o ≡ position (bytes_eq name) names → list_any (bytes_eq limit.name) names ≡ true
    → option_map (at_number places) o ≡ option_or (option_map (at_number places) o) (cond here (Some (length limits)) None)
same_first limits limit names places name here (Some k) same is there = refl
same_first limits limit names places name false None same is there = refl
same_first limits limit names places name true None same is there =
    let equal : name ≡ limit.name = (bytes_eq-Decides name limit.name).0 (sym same) in
    let known = place_known name names None is (ap (λ (n : List ℕ). list_any (bytes_eq n) names) equal ∙ there) in
    absurd cc

pub found_again : (limits : List CategoryLimit) (limit : CategoryLimit) (names : List (List ℕ)) (places : List ℕ)
    → AreFound limits names places → list_any (bytes_eq limit.name) names ≡ true → AreFound (limits ++ limit ∷ []) names places
found_again limits limit names places found there = record {
  each = found.each;
  first = λ name.
      same_first limits limit names places name (bytes_eq name limit.name) (position (bytes_eq name) names) refl refl there
      ∙ ap (λ o. option_or o (cond (bytes_eq name limit.name) (Some (length limits)) None)) (found.first name)
      ∙ sym (position_snoc (has_name name) limits limit);
}

-- a limit of a name that has none yet
new_first : (names : List (List ℕ)) (places : List ℕ) (name : List ℕ) (count : ℕ) (here : Bool) (o : Option ℕ) → length places ≡ length names
    → o ≡ position (bytes_eq name) names
    → option_map (at_number (places ++ count ∷ [])) (option_or o (cond here (Some (length names)) None)) ≡ option_or (option_map (at_number places) o) (cond here (Some count) None)
new_first names places name count here (Some k) each is =
    let inside = position-Some (bytes_eq name) names k [] (sym is) in
    ap Some (get_or_append_left places (count ∷ []) 0 k (omega (arith, inside.0, each)))
new_first names places name count false None each is = refl
new_first names places name count true None each is =
    let first : length names - length names ≡ 0 = omega arith in
    ap Some (get_or-append_right places (count ∷ []) (length names) (length names) 0 each (omega arith) ∙ ap (λ (n : ℕ). get_or (count ∷ []) n 0) first)

pub found_new : (limits : List CategoryLimit) (limit : CategoryLimit) (names : List (List ℕ)) (places : List ℕ)
    → AreFound limits names places → AreFound (limits ++ limit ∷ []) (names ++ limit.name ∷ []) (places ++ length limits ∷ [])
found_new limits limit names places found =
    let more_places = length-append places (length limits ∷ []) in
    let more_names = length-append names (limit.name ∷ []) in
    record {
      each = omega (arith, more_places, more_names, found.each);
      first = λ name.
          ap (option_map (at_number (places ++ length limits ∷ []))) (position_snoc (bytes_eq name) names limit.name)
          ∙ new_first names places name (length limits) (bytes_eq name limit.name) (position (bytes_eq name) names) found.each refl
          ∙ ap (λ o. option_or o (cond (bytes_eq name limit.name) (Some (length limits)) None)) (found.first name)
          ∙ sym (position_snoc (has_name name) limits limit);
    }

-- one limit further
take_more : (limits : List CategoryLimit) (place : ℕ) (limit : CategoryLimit) → place < length limits → limit ≡ get_or limits place limit → take (place + 1) limits ≡ take place limits ++ limit ∷ []
take_more limits place limit lt is =
    let next : place + 1 ≡ suc place = omega arith in
    ap (λ n. take n limits) next ∙ take-suc limits place limit lt ∙ ap (λ l. take place limits ++ l ∷ []) (sym is)

pub again_more : (limits : List CategoryLimit) (place : ℕ) (limit : CategoryLimit) (names : List (List ℕ)) (places : List ℕ) → place < length limits → limit ≡ get_or limits place limit
    → AreFound (take place limits) names places → list_any (bytes_eq limit.name) names ≡ true → AreFound (take (place + 1) limits) names places
again_more limits place limit names places lt is found there =
    subst (λ ls. AreFound ls names places) (sym (take_more limits place limit lt is)) (found_again (take place limits) limit names places found there)

pub new_more : (limits : List CategoryLimit) (place : ℕ) (limit : CategoryLimit) (names : List (List ℕ)) (places : List ℕ) → place < length limits → limit ≡ get_or limits place limit
    → AreFound (take place limits) names places → AreFound (take (place + 1) limits) (names ++ limit.name ∷ []) (places ++ place ∷ [])
new_more limits place limit names places lt is found =
    let count : length (take place limits) ≡ place = length-take-le place limits (omega arith) in
    subst (λ n. AreFound (take (place + 1) limits) (names ++ limit.name ∷ []) (places ++ n ∷ [])) count
    (subst (λ ls. AreFound ls (names ++ limit.name ∷ []) (places ++ length (take place limits) ∷ [])) (sym (take_more limits place limit lt is)) (found_new (take place limits) limit names places found))
