-- The place of an element in two lists, one after the other.
use Rattle.std.proofs.Common.{◌≡◌, ℕ, ◌+◌, Bool, true, false, cond, ◌++◌, List, [], ◌∷◌, length, Some, None, refl, sym, ap, ◌∙◌, arith, position}
use Rattle.std.proofs.lemmas.Iterator.Adapters.{position_from-zero}
use Rattle.std.specs.List.{position_from}
use Rattle.std.specs.Option.{option_map, option_or}

from_append : {X : Type 0} (p : X → Bool) (i : ℕ) (xs ys : List X) → position_from p i (xs ++ ys) ≡ option_or (position_from p i xs) (position_from p (i + length xs) ys)
from_append p i [] ys =
    let e : i ≡ i + 0 = omega arith in
    ap (λ n. position_from p n ys) e
from_append p i (x ∷ xs) ys =
    let e : (i + 1) + length xs ≡ i + length (x ∷ xs) = omega arith in
    elim (p x) as (λ b. cond b (Some i) (position_from p (i + 1) (xs ++ ys)) ≡ option_or (cond b (Some i) (position_from p (i + 1) xs)) (position_from p (i + length (x ∷ xs)) ys)) [
      | true ↦ refl
      | false ↦ from_append p (i + 1) xs ys ∙ ap (λ n. option_or (position_from p (i + 1) xs) (position_from p n ys)) e
    ]

from_shift : {X : Type 0} (p : X → Bool) (n i : ℕ) (ys : List X) → position_from p (n + i) ys ≡ option_map (λ k. n + k) (position_from p i ys)
from_shift p n i [] = refl
from_shift p n i (y ∷ ys) =
    let e : (n + i) + 1 ≡ n + (i + 1) = omega arith in
    elim (p y) as (λ b. cond b (Some (n + i)) (position_from p ((n + i) + 1) ys) ≡ option_map (λ k. n + k) (cond b (Some i) (position_from p (i + 1) ys))) [
      | true ↦ refl
      | false ↦ ap (λ m. position_from p m ys) e ∙ from_shift p n (i + 1) ys
    ]

pub position_append : {X : Type 0} (p : X → Bool) (xs ys : List X) → position p (xs ++ ys) ≡ option_or (position p xs) (option_map (λ k. length xs + k) (position p ys))
position_append p xs ys =
    let e : 0 + length xs ≡ length xs + 0 = omega arith in
    position_from-zero p (xs ++ ys) ∙ from_append p 0 xs ys
    ∙ ap (λ n. option_or (position_from p 0 xs) (position_from p n ys)) e
    ∙ ap (option_or (position_from p 0 xs)) (from_shift p (length xs) 0 ys ∙ ap (option_map (λ k. length xs + k)) (sym (position_from-zero p ys)))
    ∙ ap (λ o. option_or o (option_map (λ k. length xs + k) (position p ys))) (sym (position_from-zero p xs))

pub placed_first : {X : Type 0} (p : X → Bool) (xs ys : List X) (k : ℕ) → Some k ≡ position p xs → Some k ≡ position p (xs ++ ys)
placed_first p xs ys k e = sym (position_append p xs ys ∙ ap (λ o. option_or o (option_map (λ k. length xs + k) (position p ys))) (sym e))

pub placed_second : {X : Type 0} (p : X → Bool) (xs ys : List X) (n k : ℕ) → None ≡ position p xs → Some k ≡ position p ys → n ≡ length xs → Some (n + k) ≡ position p (xs ++ ys)
placed_second p xs ys n k e f l =
    ap (λ m. Some (m + k)) l ∙ ap (option_map (λ k. length xs + k)) f ∙ sym (position_append p xs ys ∙ ap (λ o. option_or o (option_map (λ k. length xs + k) (position p ys))) (sym e))

pub unplaced : {X : Type 0} (p : X → Bool) (xs ys : List X) → None ≡ position p xs → None ≡ position p ys → None ≡ position p (xs ++ ys)
unplaced p xs ys e f =
    ap (option_map (λ k. length xs + k)) f ∙ sym (position_append p xs ys ∙ ap (λ o. option_or o (option_map (λ k. length xs + k) (position p ys))) (sym e))
