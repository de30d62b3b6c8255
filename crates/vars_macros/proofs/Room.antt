-- Room falls where an assigned name is opened.
use Rattle.std.proofs.Common.{◌≡◌, ◌∙◌, sym, ap, refl, ℕ, ◌+◌, ◌≤◌, Bool, true, false, List, [], ◌∷◌, ◌++◌, ◌||◌, ◌⊎◌, inl, inr, length, arith, cond, Option, Some, subst}
use Rattle.vars_macros.specs.Names.{same_name, is_name_open}
use Rattle.vars_macros.specs.Meaning.{last_from}
use Rattle.vars_macros.specs.Expansion.{room}
use Rattle.vars_macros.specs.declared.assignment.Macro.{Macro}
use Rattle.vars_macros.proofs.Names.{lower_same, same_lower, open_alike, open_more}

-- what a name counts for falls where it is opened
head_falls : (a b : Bool) (n : ℕ) → cond (a || b) 0 n ≤ cond a 0 n
head_falls true b n = omega arith
head_falls false true n = omega arith
head_falls false false n = omega arith

pub room_monotone : (ms : List Macro) (opened : List (List ℕ)) (name : List ℕ) → room ms (opened ++ name ∷ []) ≤ room ms opened
room_monotone [] opened name = omega arith
room_monotone (m ∷ ms) opened name =
    let head : cond (is_name_open (opened ++ name ∷ []) m.name) 0 (length m.value + 1) ≤ cond (is_name_open opened m.name) 0 (length m.value + 1) =
    rw (open_more opened name m.name) (head_falls (is_name_open opened m.name) (same_name name m.name || false) (length m.value + 1)) in
    let rest : room ms (opened ++ name ∷ []) ≤ room ms opened = room_monotone ms opened name in
    omega arith

-- the head is opened
head_opened : (m : Macro) (opened : List (List ℕ)) (name : List ℕ) → same_name m.name name ≡ true → is_name_open opened name ≡ false →
    cond (is_name_open (opened ++ name ∷ []) m.name) 0 (length m.value + 1) + (length m.value + 1) ≤ cond (is_name_open opened m.name) 0 (length m.value + 1)
head_opened m opened name same shut =
    let old : is_name_open opened m.name ≡ false = open_alike opened m.name name same ∙ shut in
    let is : same_name name m.name ≡ true = same_lower name m.name (sym (lower_same m.name name same)) in
    let new : is_name_open (opened ++ name ∷ []) m.name ≡ true = open_more opened name m.name ∙ ap (λ (b : Bool). b || (same_name name m.name || false)) old ∙ ap (λ (b : Bool). b || false) is in
    rw (old, new) (omega arith)

-- The last assignment is the one that was found before, or leaves that much less room where its name is opened.
pub room_falls : (found : Option Macro) (ms : List Macro) (opened : List (List ℕ)) (name : List ℕ) (m : Macro) →
    last_from found ms name ≡ Some m → is_name_open opened name ≡ false →
    (found ≡ Some m) ⊎ (room ms (opened ++ name ∷ []) + (length m.value + 1) ≤ room ms opened)
room_falls found [] opened name m is shut = inl is
room_falls found (x ∷ xs) opened name m is shut = by_head (same_name x.name name) refl (room_falls (cond (same_name x.name name) (Some x) found) xs opened name m is shut)
  where
    by_head : (b : Bool) → same_name x.name name ≡ b → ((cond b (Some x) found ≡ Some m) ⊎ (room xs (opened ++ name ∷ []) + (length m.value + 1) ≤ room xs opened)) →
        (found ≡ Some m) ⊎ (room (x ∷ xs) (opened ++ name ∷ []) + (length m.value + 1) ≤ room (x ∷ xs) opened)
    by_head b same (inr h) =
        let head : cond (is_name_open (opened ++ name ∷ []) x.name) 0 (length x.value + 1) ≤ cond (is_name_open opened x.name) 0 (length x.value + 1) =
        rw (open_more opened name x.name) (head_falls (is_name_open opened x.name) (same_name name x.name || false) (length x.value + 1)) in
        inr (omega arith)
    by_head true same (inl h) =
        let eq : x ≡ m = cc in
        let rest : room xs (opened ++ name ∷ []) ≤ room xs opened = room_monotone xs opened name in
        let P : Macro → Type 0 = λ (y : Macro). cond (is_name_open (opened ++ name ∷ []) x.name) 0 (length x.value + 1) + (length y.value + 1) ≤ cond (is_name_open opened x.name) 0 (length x.value + 1) in
        let head : P m = subst P eq (head_opened x opened name same shut) in
        inr (omega arith)
    by_head false same (inl h) = inl h
