-- The keys that are left where one is taken away.
use Rattle.std.proofs.Common.{arith, ◌++◌, Some, ◌≡◌, ◌+◌, ℕ, zero, suc, get_or, take, map, ◌<◌, ◌≤◌, Bool, true, false, not, ◌||◌, List, [], ◌∷◌, length, reverse, filter, refl, sym, ap, ◌∙◌, if◌then◌else◌}
use mathlib.Core.List.{reverse_aux}
use Rattle.std.proofs.lemmas.Bool.{false≢true}
use Rattle.std.proofs.lemmas.List.{reverse-append, take_more, take_all}
use Rattle.node_machine.specs.declared.Key.{Key}
use Rattle.sched_core.specs.Run.{is_same, is_among, without}
use Rattle.sched_core.proofs.Keys.{same-self}
use Rattle.job_starter_drive.specs.Calls.{oldest}

kept_onto : (x : Key) (kept keys : List Key) (b : Bool)
    → reverse_aux kept (if b then keys else x ∷ keys) ≡ reverse_aux (if not b then x ∷ kept else kept) keys
kept_onto x kept keys true = refl
kept_onto x kept keys false = refl

without-onto : (key : Key) (xs ys : List Key)
    → without key (reverse_aux xs ys) ≡ reverse_aux (filter (λ other. not (is_same key other)) xs) (without key ys)
without-onto key [] ys = refl
without-onto key (x ∷ xs) ys =
    without-onto key xs (x ∷ ys)
    ∙ kept_onto x (filter (λ other. not (is_same key other)) xs) (without key ys) (is_same key x)

-- what is left, the newest first, where the keys stand in the order of the starts
pub without-reverse : (key : Key) (xs : List Key)
    → reverse (filter (λ other. not (is_same key other)) xs) ≡ without key (reverse xs)
without-reverse key xs = sym (without-onto key xs [])

among-more : (key x : Key) (before : List Key) → is_same key x ≡ false → is_among key before ≡ false → (is_same key x || is_among key before) ≡ false
among-more key x before other none = (λ j. other j || is_among key before) ∙ none

-- not among the first of these keys, nor the one after them
pub none-further : (key : Key) (keys : List Key) (place : ℕ) (d : Key) → place < length keys → is_among key (reverse (take place keys)) ≡ false
    → is_same key (get_or keys place d) ≡ false → is_among key (reverse (take (place + 1) keys)) ≡ false
none-further key keys place d lt none other =
    ap (λ l. is_among key (reverse l)) (take_more keys place d lt)
    ∙ ap (is_among key) (reverse-append (take place keys) (get_or keys place d ∷ []))
    ∙ among-more key (get_or keys place d) (reverse (take place keys)) other none

-- what is not among all of them is among none
pub among-all : (key : Key) (keys : List Key) (place : ℕ) → length keys ≤ place → is_among key (reverse (take place keys)) ≡ false
    → is_among key (reverse keys) ≡ true → ⊥
among-all key keys place le none is = false≢true (sym none ∙ ap (λ l. is_among key (reverse l)) (take_all place keys le) ∙ is)

kept_key : {A : Type 0} (key_of : A → Key) (x : A) (kept : List A) (rest : List Key) (b : Bool) → map key_of kept ≡ rest
    → map key_of (if b then x ∷ kept else kept) ≡ (if b then key_of x ∷ rest else rest)
kept_key key_of x kept rest true is = ap (λ l. key_of x ∷ l) is
kept_key key_of x kept rest false is = is

-- the keys of what is left
pub keys-without : {A : Type 0} (key_of : A → Key) (key : Key) (xs : List A)
    → reverse (map key_of (filter (λ x. not (is_same key (key_of x))) xs)) ≡ without key (reverse (map key_of xs))
keys-without {A = A} key_of key xs = ap reverse (go xs) ∙ without-reverse key (map key_of xs)
  where
    go : (xs : List A) → map key_of (filter (λ x. not (is_same key (key_of x))) xs) ≡ filter (λ other. not (is_same key other)) (map key_of xs)
    go [] = refl
    go (x ∷ xs) = kept_key key_of x _ _ (not (is_same key (key_of x))) (go xs)

shorter : (b a : Bool) (x : Key) (kept : List Key) (n : ℕ) → length kept ≤ n → (a ≡ true → length kept < n) → (b || a) ≡ true
    → length (if b then kept else x ∷ kept) < suc n
shorter true a x kept n most fewer is = omega arith
shorter false a x kept n most fewer is = let h = fewer is in omega arith

no_longer : (b : Bool) (x : Key) (kept : List Key) (n : ℕ) → length kept ≤ n → length (if b then kept else x ∷ kept) ≤ suc n
no_longer true x kept n most = omega arith
no_longer false x kept n most = omega arith

length-without : (key : Key) (keys : List Key) → length (without key keys) ≤ length keys
length-without key [] = omega arith
length-without key (x ∷ keys) = no_longer (is_same key x) x (without key keys) (length keys) (length-without key keys)

-- fewer are left where it is among them
pub fewer_left : (key : Key) (keys : List Key) → is_among key keys ≡ true → length (without key keys) < length keys
fewer_left key [] is = cc
fewer_left key (x ∷ keys) is =
    shorter (is_same key x) (is_among key keys) x (without key keys) (length keys) (length-without key keys) (fewer_left key keys) is

among-behind : (key : Key) (b : Bool) (keys : List Key) → is_among key keys ≡ true → (b || is_among key keys) ≡ true
among-behind key true keys is = refl
among-behind key false keys is = is

-- what was there is there still, with more before it
among-onto : (key : Key) (xs ys : List Key) → is_among key ys ≡ true → is_among key (reverse_aux xs ys) ≡ true
among-onto key [] ys is = is
among-onto key (x ∷ xs) ys is = among-onto key xs (x ∷ ys) (among-behind key (is_same key x) ys is)

at_place : (xs ys : List Key) (place : ℕ) (d : Key) → place < length xs
    → is_among (get_or xs place d) (reverse_aux xs ys) ≡ true
at_place [] ys place d low = absurd (omega arith)
at_place (x ∷ xs) ys zero d low = among-onto x xs (x ∷ ys) ((λ j. same-self x j || is_among x ys))
at_place (x ∷ xs) ys (suc place) d low = at_place xs (x ∷ ys) place d (omega arith)

-- the key at a place is among them, in whichever order
pub among-at : (xs : List Key) (place : ℕ) (d : Key) → place < length xs → is_among (get_or xs place d) (reverse xs) ≡ true
among-at xs place d low = at_place xs [] place d low

pub no_items : {A : Type 0} (xs : List A) → length xs ≡ 0 → xs ≡ []
no_items [] none = refl
no_items (x ∷ xs) none = absurd (omega (arith, none))

last-oldest : (xs : List Key) (key : Key) → oldest (xs ++ key ∷ []) ≡ Some key
last-oldest [] key = refl
last-oldest (x ∷ []) key = refl
last-oldest (x ∷ y ∷ xs) key = last-oldest (y ∷ xs) key

-- the first in the order of the starts is the oldest
pub first-oldest : (keys : List Key) (place : ℕ) (d : Key) → place ≡ 0 → place < length keys → oldest (reverse keys) ≡ Some (get_or keys place d)
first-oldest [] place d zero_is lt = absurd (omega (arith, lt))
first-oldest (key ∷ keys) place d zero_is lt =
    ap oldest (reverse-append (key ∷ []) keys) ∙ last-oldest (reverse keys) key ∙ ap (λ n. Some (get_or (key ∷ keys) n d)) (sym zero_is)
