-- There are always cuts enough.
use Rattle.std.proofs.Common.{◌≡◌, ◌∙◌, sym, ap, refl, ℕ, suc, zero, ◌+◌, ◌≤◌, ◌<◌, Bool, true, false, List, [], ◌∷◌, ◌++◌, ◌&&◌, inl, inr, length, arith, cond, Option, Some, None, drop, length-take, length-drop, unwrap_or, codes, is_none, ◌==◌}
use Rattle.vars_macros.specs.Names.{same_name, is_name_open, is_reference_name}
use Rattle.vars_macros.specs.Cut.{Piece, End, Plain, Reference, Bad, first_piece, after_dollar, reference_to, closing, begins_with, is_foreign, reference_name, default_of, colon_in, rest_behind}
use Rattle.vars_macros.specs.Meaning.{MacroScope, Meaning, Fixed, Value, stands_for, unassigned, assigned_or, last_macro, is_launch_macro, is_process}
use Rattle.vars_macros.specs.Expansion.{Event, Wrote, Replaced, Expander, room, events, events_within, one_cut, piece_events, reference_events, meaning_events, value_events}
use Rattle.vars_macros.specs.declared.assignment.Macro.{Macro}
use Rattle.vars_macros.proofs.Room.{room_monotone, room_falls}

-- what is after a piece and within it is shorter than the text
abbrev pub Shorter : ℕ → Piece → Type 0
Shorter n End = Unit {0}
Shorter n (Plain b rest) = length rest < n
Shorter n (Reference inside rest) = (length inside < n) × (length rest < n)
Shorter n (Bad fault) = Unit {0}

-- a fact of both is one of the chosen
either : {A : Type 0} (P : A → Type 0) (b : Bool) (x y : A) → P x → P y → P (cond b x y)
either P true x y px py = px
either P false x y px py = py

reference_shorter : (found : Option ℕ) (text : List ℕ) (n : ℕ) → length text < n → Shorter n (reference_to found text)
reference_shorter None text n h = tt
reference_shorter (Some k) text n h = (omega (arith, length-take k text), omega (arith, length-drop (k + 1) text))

dollar_shorter : (bs : List ℕ) → Shorter (length bs + 1) (after_dollar bs)
dollar_shorter bs = either (Shorter (length bs + 1)) (begins_with 40 bs) _ _
    (reference_shorter (closing (drop 1 bs)) (drop 1 bs) (length bs + 1) (omega (arith, length-drop 1 bs)))
    (either (Shorter (length bs + 1)) (is_foreign bs) _ _ tt (omega arith))

pub piece_shorter : (t : List ℕ) → Shorter (length t) (first_piece t)
unfolding first_piece
piece_shorter [] = tt
piece_shorter (b ∷ bs) =
    let n : length (b ∷ bs) ≡ length bs + 1 = omega arith in
    rw n (either (Shorter (length bs + 1)) (b == 36) (after_dollar bs) (Plain b bs) (dollar_shorter bs) (omega arith))

pub default_shorter : (at : Option ℕ) (inside : List ℕ) → length (unwrap_or (rest_behind at inside) []) ≤ length inside
default_shorter None inside = omega arith
default_shorter (Some n) inside = omega (arith, length-drop (n + 1) inside)

-- A value that is expanded with the name open has room enough.
abbrev pub FitsIn : List Macro → List (List ℕ) → List ℕ → ℕ → Meaning → Type 0
FitsIn ms opened name n (Fixed whole text) = Unit {0}
FitsIn ms opened name n (Value vars text) = room ms (opened ++ name ∷ []) + length text ≤ room ms opened + n

assigned_fits : (found : Option Macro) (ms : List Macro) (opened : List (List ℕ)) (name : List ℕ) (n : ℕ) (other : Meaning) →
    last_macro ms name ≡ found → is_name_open opened name ≡ false → FitsIn ms opened name n other → FitsIn ms opened name n (assigned_or found other)
assigned_fits None ms opened name n other is shut h = h
assigned_fits (Some m) ms opened name n other is shut h =
    elim (room_falls None ms opened name m is shut) [ inl never ↦ cc | inr falls ↦ omega arith ]

unassigned_fits : (s : MacroScope) (vars : Bool) (opened : List (List ℕ)) (name : List ℕ) (default : Option (List ℕ)) (n : ℕ) →
    length (unwrap_or default []) ≤ n → FitsIn s.assigned opened name n (unassigned s vars name default)
unassigned_fits s vars opened name default n h =
    let last : room s.assigned (opened ++ name ∷ []) + length (unwrap_or default []) ≤ room s.assigned opened + n = omega (arith, room_monotone s.assigned opened name) in
    either (FitsIn s.assigned opened name n) (same_name name (codes "JOB")) _ _ tt
    (either (FitsIn s.assigned opened name n) (same_name name (codes "RETRY")) (Fixed false s.retry) (Value vars (unwrap_or default [])) tt last)

pub meaning_fits : (s : MacroScope) (vars : Bool) (opened : List (List ℕ)) (name : List ℕ) (default : Option (List ℕ)) (n : ℕ) →
    is_name_open opened name ≡ false → length (unwrap_or default []) ≤ n → FitsIn s.assigned opened name n (stands_for s vars name default)
unfolding stands_for
meaning_fits s vars opened name default n shut h =
    let P : Meaning → Type 0 = FitsIn s.assigned opened name n in
    either P (is_launch_macro name) _ _ tt
    (either P (is_process name) _ _ tt
    (either P (vars && (is_none default && same_name name (codes "JOB"))) _ _ tt
    (either P (vars && (is_none default && same_name name (codes "RETRY"))) _ _ tt
    (assigned_fits (last_macro s.assigned name) s.assigned opened name n (unassigned s vars name default) refl shut (unassigned_fits s vars opened name default n h)))))

-- Two expanders give the same in what is smaller.
abbrev pub AgreeBelow : MacroScope → ℕ → Expander → Expander → Type 0
AgreeBelow s n e f = (opened : List (List ℕ)) (vars : Bool) (t : List ℕ) → room s.assigned opened + length t < n → e opened vars t ≡ f opened vars t

value_agrees : (s : MacroScope) (n : ℕ) (e f : Expander) (opened : List (List ℕ)) (name : List ℕ) (vars : Bool) (text : List ℕ) (b : Bool) →
    AgreeBelow s n e f → (b ≡ false → room s.assigned (opened ++ name ∷ []) + length text < n) →
    value_events e opened name vars text b ≡ value_events f opened name vars text b
value_agrees s n e f opened name vars text true agree h = refl
value_agrees s n e f opened name vars text false agree h = ap (λ (es : List Event). Replaced false ∷ es) (agree (opened ++ name ∷ []) vars text (h refl))

meaning_agrees : (s : MacroScope) (n k : ℕ) (e f : Expander) (opened : List (List ℕ)) (name : List ℕ) (m : Meaning) →
    AgreeBelow s n e f → room s.assigned opened + k < n → (is_name_open opened name ≡ false → FitsIn s.assigned opened name k m) →
    meaning_events e opened name m ≡ meaning_events f opened name m
meaning_agrees s n k e f opened name (Fixed whole text) agree small fits = refl
meaning_agrees s n k e f opened name (Value vars text) agree small fits =
    value_agrees s n e f opened name vars text (is_name_open opened name) agree (λ shut. let h : room s.assigned (opened ++ name ∷ []) + length text ≤ room s.assigned opened + k = fits shut in omega arith)

cond_agrees : {A : Type 0} (b : Bool) (x y z : A) → x ≡ y → cond b x z ≡ cond b y z
cond_agrees b x y z h = ap (λ v. cond b v z) h

reference_agrees : (s : MacroScope) (n : ℕ) (e f : Expander) (opened : List (List ℕ)) (vars : Bool) (inside : List ℕ) →
    AgreeBelow s n e f → room s.assigned opened + length inside < n → reference_events e s opened vars inside ≡ reference_events f s opened vars inside
reference_agrees s n e f opened vars inside agree small =
    cond_agrees (is_reference_name (reference_name inside)) _ _ _
    (meaning_agrees s n (length inside) e f opened (reference_name inside) (stands_for s vars (reference_name inside) (default_of inside)) agree small
    (λ shut. meaning_fits s vars opened (reference_name inside) (default_of inside) (length inside) shut (default_shorter (colon_in inside) inside)))

piece_agrees : (s : MacroScope) (n k : ℕ) (e f : Expander) (opened : List (List ℕ)) (vars : Bool) (p : Piece) →
    AgreeBelow s n e f → room s.assigned opened + k ≤ n → Shorter k p → piece_events e s opened vars p ≡ piece_events f s opened vars p
piece_agrees s n k e f opened vars End agree small short = refl
piece_agrees s n k e f opened vars (Plain b rest) agree small short = ap (λ (es : List Event). Wrote b ∷ es) (agree opened vars rest (omega arith))
piece_agrees s n k e f opened vars (Reference inside rest) agree small short =
    let first : reference_events e s opened vars inside ≡ reference_events f s opened vars inside = reference_agrees s n e f opened vars inside agree (omega arith) in
    let behind_it : e opened vars rest ≡ f opened vars rest = agree opened vars rest (omega arith) in
    cc
piece_agrees s n k e f opened vars (Bad fault) agree small short = refl

pub cut_agrees : (s : MacroScope) (n : ℕ) (e f : Expander) (opened : List (List ℕ)) (vars : Bool) (t : List ℕ) →
    AgreeBelow s n e f → room s.assigned opened + length t ≤ n → one_cut e s opened vars t ≡ one_cut f s opened vars t
cut_agrees s n e f opened vars t agree small = piece_agrees s n (length t) e f opened vars (first_piece t) agree small (piece_shorter t)

no_cut : (e : Expander) (s : MacroScope) (opened : List (List ℕ)) (vars : Bool) (t : List ℕ) → length t ≡ 0 → [] ≡ one_cut e s opened vars t
unfolding first_piece
no_cut e s opened vars [] h = refl
no_cut e s opened vars (b ∷ bs) h = absurd (omega arith)

-- how many cuts there may be doesn't matter, if there are enough
pub within_enough : (n k : ℕ) (s : MacroScope) (opened : List (List ℕ)) (vars : Bool) (t : List ℕ) →
    room s.assigned opened + length t ≤ n → room s.assigned opened + length t ≤ k → events_within n s opened vars t ≡ events_within k s opened vars t
within_enough zero zero s opened vars t hn hk = refl
within_enough zero (suc k) s opened vars t hn hk = no_cut (events_within k s) s opened vars t (omega arith)
within_enough (suc n) zero s opened vars t hn hk = sym (no_cut (events_within n s) s opened vars t (omega arith))
within_enough (suc n) (suc k) s opened vars t hn hk =
    cut_agrees s (room s.assigned opened + length t) (events_within n s) (events_within k s) opened vars t
    (λ o v u small. within_enough n k s o v u (omega arith) (omega arith)) (omega arith)

-- What is met in a text is what is met in its first piece and after it.
pub cuts_enough : (s : MacroScope) (opened : List (List ℕ)) (vars : Bool) (t : List ℕ) → events s opened vars t ≡ one_cut (events s) s opened vars t
unfolding events
cuts_enough s opened vars t =
    within_enough (room s.assigned opened + length t) (suc (room s.assigned opened + length t)) s opened vars t (omega arith) (omega arith)
    ∙ cut_agrees s (room s.assigned opened + length t) (events_within (room s.assigned opened + length t) s) (events s) opened vars t
    (λ o v u small. within_enough (room s.assigned opened + length t) (room s.assigned o + length u) s o v u (omega arith) (omega arith)) (omega arith)
