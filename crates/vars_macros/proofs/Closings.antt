-- Where the parentheses of a text are closed.
use Rattle.std.proofs.Common.{◌≡◌, ◌∙◌, sym, ap, refl, ℕ, zero, suc, ◌+◌, ◌-◌, ◌≤◌, ◌<◌, nat_lt, ◌==◌, ◌&&◌, Bool, true, false, cond, Option, Some, None, option_map, List, [], ◌∷◌, length, take, drop, slice_get, arith, length-take, length-drop}
use Rattle.std.proofs.lemmas.Bool.{ltb-true, ltb-false}
use Rattle.std.proofs.lemmas.Bool.Decides.{nat_tests}
use Rattle.std.proofs.lemmas.List.{drop-take, drop-drop}
use Rattle.std.proofs.lemmas.Option.{none-some}
use Rattle.vars_macros.specs.Cut.{closing_from, closing, depth_after}
use Rattle.vars_macros.specs.Pairs.{if_before, ArePairsOf, ArePairsIn}

-- Further on, the same is found as much further on.
pub shifted : (far at depth : ℕ) (text : List ℕ) → closing_from (far + at) depth text ≡ option_map (λ n. far + n) (closing_from at depth text)
shifted far at depth [] = refl
shifted far at depth (b ∷ bs) = by_test (b == 41 && depth == 0) (shifted far (at + 1) (depth_after depth b) bs)
  where
    by_test : (closes : Bool) → closing_from (far + (at + 1)) (depth_after depth b) bs ≡ option_map (λ n. far + n) (closing_from (at + 1) (depth_after depth b) bs) →
        cond closes (Some (far + at)) (closing_from (far + at + 1) (depth_after depth b) bs) ≡ option_map (λ n. far + n) (cond closes (Some at) (closing_from (at + 1) (depth_after depth b) bs))
    by_test true further = refl
    by_test false further = ap (λ (n : ℕ). closing_from n (depth_after depth b) bs) (omega arith) ∙ further

-- What is found is in the text.
found_within : (at depth : ℕ) (text : List ℕ) (n : ℕ) → closing_from at depth text ≡ Some n → (at ≤ n) × (n < at + length text)
found_within at depth [] n is = absurd cc
found_within at depth (b ∷ bs) n is = by_test (b == 41 && depth == 0) (found_within (at + 1) (depth_after depth b) bs n) is
  where
    by_test : (closes : Bool) → (closing_from (at + 1) (depth_after depth b) bs ≡ Some n → (at + 1 ≤ n) × (n < at + 1 + length bs)) →
        cond closes (Some at) (closing_from (at + 1) (depth_after depth b) bs) ≡ Some n → (at ≤ n) × (n < at + length (b ∷ bs))
    by_test true further here =
        let same : at ≡ n = cc in
        (omega arith, omega arith)
    by_test false further later = (omega (arith, further later), omega (arith, further later))

-- a place before the end, and places that are not
is_before : (end place : ℕ) → place < end → if_before end (Some place) ≡ Some place
is_before end place h = grind (arith, nat_tests)

none_before : (end : ℕ) (found : Option ℕ) → ((n : ℕ) → found ≡ Some n → end ≤ n) → if_before end found ≡ None
none_before end None h = refl
none_before end (Some n) h =
    let past : end ≤ n = h n refl in
    grind (arith, nat_tests)

-- In what a text begins with, the same is found, if it is there.
found_in_first : (at depth n : ℕ) (text : List ℕ) → closing_from at depth (take n text) ≡ if_before (at + n) (closing_from at depth text)
found_in_first at depth zero [] = refl
found_in_first at depth (suc n) [] = refl
found_in_first at depth zero (b ∷ bs) = sym (none_before (at + 0) (closing_from at depth (b ∷ bs)) (λ m is. omega (arith, found_within at depth (b ∷ bs) m is)))
found_in_first at depth (suc n) (b ∷ bs) = by_test (b == 41 && depth == 0) (found_in_first (at + 1) (depth_after depth b) n bs)
  where
    by_test : (closes : Bool) → closing_from (at + 1) (depth_after depth b) (take n bs) ≡ if_before (at + 1 + n) (closing_from (at + 1) (depth_after depth b) bs) →
        cond closes (Some at) (closing_from (at + 1) (depth_after depth b) (take n bs)) ≡ if_before (at + suc n) (cond closes (Some at) (closing_from (at + 1) (depth_after depth b) bs))
    by_test true further = sym (is_before (at + suc n) at (omega arith))
    by_test false further = further ∙ ap (λ (end : ℕ). if_before end (closing_from (at + 1) (depth_after depth b) bs)) (omega arith)

pub closing_within : (text : List ℕ) (n : ℕ) → closing text ≡ Some n → n < length text
unfolding closing
closing_within text n is = omega (arith, found_within 0 0 text n is)

pub closing_of_first : (n : ℕ) (text : List ℕ) → closing (take n text) ≡ if_before n (closing text)
unfolding closing
closing_of_first n text = found_in_first 0 0 n text ∙ ap (λ (end : ℕ). if_before end (closing_from 0 0 text)) (omega arith)

-- The place of an end, by places that are all as much further on.
moved_before : (far end : ℕ) (found : Option ℕ) → if_before (far + end) (option_map (λ n. far + n) found) ≡ option_map (λ n. far + n) (if_before end found)
moved_before far end None = refl
moved_before far end (Some n) = by_test (nat_lt n end) refl
  where
    by_test : (before : Bool) → nat_lt n end ≡ before → if_before (far + end) (Some (far + n)) ≡ option_map (λ n. far + n) (cond before (Some n) None)
    by_test true is = is_before (far + end) (far + n) (omega (arith, ltb-true n end is))
    by_test false other = none_before (far + end) (Some (far + n)) (λ m is. let same : far + n ≡ m = cc in omega (arith, ltb-false n end other))

-- what is before an end, of what is before a later one
before_both : (end later : ℕ) (found : Option ℕ) → end ≤ later → if_before end (if_before later found) ≡ if_before end found
before_both end later None h = refl
before_both end later (Some n) h = grind (arith, nat_tests)

all_before : (far end : ℕ) (found : Option ℕ) → ((n : ℕ) → found ≡ Some n → far + n < end) → if_before end (option_map (λ n. far + n) found) ≡ option_map (λ n. far + n) found
all_before far end None h = refl
all_before far end (Some n) h = is_before end (far + n) (h n refl)

-- The pairs of a text are those of the text as a part of itself.
pub pairs_in_whole : (text : List ℕ) (pairs : ℕ → Option ℕ) → ArePairsOf text pairs → ArePairsIn 0 text pairs
pairs_in_whole text pairs are k opens =
    let place : 0 + k ≡ k = omega arith in
    let end : 0 + length text ≡ length text = omega arith in
    rw (place, end)
    (ap (if_before (length text)) (are k opens)
    ∙ all_before (k + 1) (length text) (closing (drop (k + 1) text)) (λ n is. omega (arith, closing_within (drop (k + 1) text) n is, length-drop (k + 1) text)))

stands_in_first : (n : ℕ) (text : List ℕ) (k b : ℕ) → slice_get (take n text) k ≡ Some b → (k < n) × (slice_get text k ≡ Some b)
stands_in_first zero text k b is = absurd (none-some b is)
stands_in_first (suc n) [] k b is = absurd cc
stands_in_first (suc n) (c ∷ text) zero b is = (omega arith, is)
stands_in_first (suc n) (c ∷ text) (suc k) b is =
    let further = stands_in_first n text k b is in
    (omega (arith, further.0), further.1)

-- The pairs of a part of a text are those of what the part begins with.
pub pairs_in_first : (start n : ℕ) (part : List ℕ) (pairs : ℕ → Option ℕ) → n ≤ length part → ArePairsIn start part pairs → ArePairsIn start (take n part) pairs
pairs_in_first start n part pairs within are k opens =
    let stands = stands_in_first n part k 40 opens in
    let far = start + k + 1 in
    let left = n - (k + 1) in
    let found = closing (drop (k + 1) part) in
    let end : start + n ≡ far + left = omega (arith, stands.0) in
    let cut : drop (k + 1) (take n part) ≡ take left (drop (k + 1) part) = ap (λ (m : ℕ). drop (k + 1) (take m part)) (omega (arith, stands.0)) ∙ drop-take (k + 1) left part in
    ap (λ (m : ℕ). if_before (start + m) (pairs (start + k))) (omega (arith, length-take n part))
    ∙ sym (before_both (start + n) (start + length part) (pairs (start + k)) (omega arith))
    ∙ ap (if_before (start + n)) (are k stands.1)
    ∙ ap (λ (m : ℕ). if_before m (option_map (λ n. far + n) found)) end
    ∙ moved_before far left found
    ∙ ap (option_map (λ n. far + n)) (sym (closing_of_first left (drop (k + 1) part)) ∙ ap closing (sym cut))

get_behind : (n : ℕ) (text : List ℕ) (k b : ℕ) → slice_get (drop n text) k ≡ Some b → slice_get text (n + k) ≡ Some b
get_behind zero text k b is = let place : 0 + k ≡ k = omega arith in ap (slice_get text) place ∙ is
get_behind (suc n) [] k b is = absurd cc
get_behind (suc n) (c ∷ text) k b is = let place : suc n + k ≡ suc (n + k) = omega arith in ap (slice_get (c ∷ text)) place ∙ get_behind n text k b is

-- The pairs of a part of a text are those of what is after its first bytes.
pub pairs_in_behind : (start n : ℕ) (part : List ℕ) (pairs : ℕ → Option ℕ) → n ≤ length part → ArePairsIn start part pairs → ArePairsIn (start + n) (drop n part) pairs
pairs_in_behind start n part pairs within are k opens =
    let end : start + n + length (drop n part) ≡ start + length part = omega (arith, within, length-drop n part) in
    let place : start + n + k ≡ start + (n + k) = omega arith in
    let far : start + (n + k) + 1 ≡ start + n + k + 1 = omega arith in
    let more : n + k + 1 ≡ n + (k + 1) = omega arith in
    let rest : drop (n + k + 1) part ≡ drop (k + 1) (drop n part) = ap (λ (m : ℕ). drop m part) more ∙ sym (drop-drop (k + 1) n part) in
    ap (λ (m : ℕ). if_before m (pairs (start + n + k))) end ∙ ap (λ (m : ℕ). if_before (start + length part) (pairs m)) place
    ∙ are (n + k) (get_behind n part k 40 opens)
    ∙ ap (λ (f : ℕ). option_map (λ n. f + n) (closing (drop (n + k + 1) part))) far
    ∙ ap (λ (t : List ℕ). option_map (λ m. start + n + k + 1 + m) (closing t)) rest
