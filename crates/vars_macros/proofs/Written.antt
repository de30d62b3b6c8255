-- What is written for UTF-8 texts is UTF-8.
use Rattle.std.proofs.Common.{◌≡◌, ◌∙◌, sym, ap, refl, subst, ℕ, suc, zero, ◌+◌, ◌≤◌, ◌<◌, Bool, true, false, cond, List, [], ◌∷◌, ◌++◌, ◌&&◌, ⊎_elim, length, arith, Option, Some, None, take, drop, get_or, unwrap_or, codes, is_none, nat_eq, append_assoc, Ok}
use Rattle.std.proofs.lemmas.Bool.{cases_Bool, eqb-true}
use Rattle.std.proofs.lemmas.List.Quantifiers.{position-Some}
use Rattle.std.proofs.lemmas.Str.{IsUtf8-nil, IsUtf8-append}
use Rattle.std.specs.Str.{IsUtf8}
use Rattle.vars_macros.specs.Names.{same_name, is_name_open, is_reference_name}
use Rattle.vars_macros.specs.Cut.{Piece, End, Plain, Reference, Bad, first_piece, after_dollar, reference_to, closing, closing_from, depth_after, begins_with, is_foreign, reference_name, default_of, colon_in, rest_behind}
use Rattle.vars_macros.specs.Meaning.{MacroScope, Meaning, Fixed, Value, stands_for, unassigned, assigned_or, last_macro, last_from, is_launch_macro, is_process}
use Rattle.vars_macros.specs.Scopes.{IsTextScope}
use Rattle.vars_macros.specs.Texts.{AreTexts}
use Rattle.vars_macros.specs.Expansion.{Event, Refused, room, events, piece_events, reference_events, meaning_events, value_events, Expansion, expansion}
use Rattle.vars_macros.specs.Defined.{written_in, NoneRefused}
use Rattle.vars_macros.specs.declared.assignment.Macro.{Macro}
use Rattle.vars_macros.specs.declared.fault.MacroFault.TheVariants.{BadReference}
use Rattle.vars_macros.proofs.Cuts.{cuts_enough, Shorter, piece_shorter, FitsIn, meaning_fits, default_shorter}
use Rattle.vars_macros.proofs.Defined.{found}
use Rattle.vars_macros.proofs.EventLists.{written_append, lawful_parts, written_plain}
use Rattle.vars_macros.proofs.Utf8.{utf8_behind, one_byte, seam_before, seam_behind, moved}

-- Pieces.
abbrev Spelt : Piece → List ℕ → Type 0
Spelt End t = t ≡ []
Spelt (Plain b rest) t = t ≡ b ∷ rest
Spelt (Reference inside rest) t = t ≡ 36 ∷ 40 ∷ (inside ++ 41 ∷ rest)
Spelt (Bad fault) t = Unit {0}

decided : {A : Type 0} (P : A → Type 0) (b : Bool) (x y : A) → (b ≡ true → P x) → (b ≡ false → P y) → P (cond b x y)
decided P true x y px py = px refl
decided P false x y px py = py refl

and_left : (a b : Bool) → (a && b) ≡ true → a ≡ true
and_left true b h = refl
and_left false b h = h

closes_at : (at depth : ℕ) (text : List ℕ) (n : ℕ) → closing_from at depth text ≡ Some n → (m : ℕ) × (n ≡ at + m) × (text ≡ take m text ++ 41 ∷ drop (suc m) text)
closes_at at depth [] n e = absurd cc
closes_at at depth (b ∷ bs) n e =
    ⊎_elim
    (λ (yes : (nat_eq b 41 && nat_eq depth 0) ≡ true).
    let here : Some at ≡ Some n = ap (λ (x : Bool). cond x (Some at) (closing_from (at + 1) (depth_after depth b) bs)) (sym yes) ∙ e in
    let same : at ≡ n = cc in
    let paren : b ≡ 41 = eqb-true b 41 (and_left (nat_eq b 41) (nat_eq depth 0) yes) in
    (0, omega (arith, same), ap (λ (x : ℕ). x ∷ bs) paren))
    (λ (other : (nat_eq b 41 && nat_eq depth 0) ≡ false).
    let later : closing_from (at + 1) (depth_after depth b) bs ≡ Some n = ap (λ (x : Bool). cond x (Some at) (closing_from (at + 1) (depth_after depth b) bs)) (sym other) ∙ e in
    let below = closes_at (at + 1) (depth_after depth b) bs n later in
    (suc below.0, omega (arith, below.1), ap (λ (xs : List ℕ). b ∷ xs) below.2))
    (cases_Bool (nat_eq b 41 && nat_eq depth 0))

reference_spelt : (found : Option ℕ) (text : List ℕ) → closing text ≡ found → Spelt (reference_to found text) (36 ∷ 40 ∷ text)
unfolding closing
reference_spelt None text e = tt
reference_spelt (Some n) text e =
    let c = closes_at 0 0 text n e in
    let same : c.0 ≡ n = omega (arith, c.1) in
    let past : suc c.0 ≡ n + 1 = omega (arith, c.1) in
    ap (λ (xs : List ℕ). 36 ∷ 40 ∷ xs) (c.2 ∙ ap (λ (k : ℕ). take k text ++ 41 ∷ drop (suc c.0) text) same ∙ ap (λ (k : ℕ). take n text ++ 41 ∷ drop k text) past)

opened_by : (bs : List ℕ) → begins_with 40 bs ≡ true → bs ≡ 40 ∷ drop 1 bs
opened_by [] h = cc
opened_by (b ∷ bs) h = ap (λ (x : ℕ). x ∷ bs) (eqb-true b 40 h)

dollar_spelt : (bs : List ℕ) → Spelt (after_dollar bs) (36 ∷ bs)
dollar_spelt bs =
    decided (λ (p : Piece). Spelt p (36 ∷ bs)) (begins_with 40 bs) (reference_to (closing (drop 1 bs)) (drop 1 bs)) (cond (is_foreign bs) (Bad BadReference) (Plain 36 bs))
    (λ yes. subst (λ (xs : List ℕ). Spelt (reference_to (closing (drop 1 bs)) (drop 1 bs)) (36 ∷ xs)) (sym (opened_by bs yes)) (reference_spelt (closing (drop 1 bs)) (drop 1 bs) refl))
    (λ other. decided (λ (p : Piece). Spelt p (36 ∷ bs)) (is_foreign bs) (Bad BadReference) (Plain 36 bs) (λ yes. tt) (λ plain. refl))

piece_spelt : (t : List ℕ) → Spelt (first_piece t) t
unfolding first_piece
piece_spelt [] = refl
piece_spelt (b ∷ bs) =
    decided (λ (p : Piece). Spelt p (b ∷ bs)) (nat_eq b 36) (after_dollar bs) (Plain b bs)
    (λ yes. subst (λ (x : ℕ). Spelt (after_dollar bs) (x ∷ bs)) (sym (eqb-true b 36 yes)) (dollar_spelt bs))
    (λ other. refl)

-- Meanings.
abbrev IsTextMeaning : Meaning → Type 0
IsTextMeaning (Fixed whole text) = IsUtf8 text
IsTextMeaning (Value vars text) = IsUtf8 text

abbrev IsTextFound : Option Macro → Type 0
IsTextFound None = Unit {0}
IsTextFound (Some m) = IsUtf8 m.value

last_text : (found : Option Macro) (ms : List Macro) (name : List ℕ) → IsTextFound found → AreTexts ms → IsTextFound (last_from found ms name)
last_text found [] name h all = h
last_text found (m ∷ ms) name h (u, all) =
    last_text (cond (same_name m.name name) (Some m) found) ms name (decided IsTextFound (same_name m.name name) (Some m) found (λ yes. u) (λ other. h)) all

assigned_text : (found : Option Macro) (other : Meaning) → IsTextFound found → IsTextMeaning other → IsTextMeaning (assigned_or found other)
assigned_text None other h p = p
assigned_text (Some m) other h p = h

default_text : (place : Option ℕ) (inside : List ℕ) → IsUtf8 inside → colon_in inside ≡ place → IsUtf8 (unwrap_or (rest_behind place inside) [])
default_text None inside u e = IsUtf8-nil
default_text (Some n) inside u e =
    let p = position-Some (λ b. nat_eq b 58) inside n 0 e in
    utf8_behind inside n 58 u p.0 (eqb-true (get_or inside n 0) 58 p.1) (omega arith)

zero_text : IsUtf8 (codes "0")
zero_text = one_byte 48 (omega arith)

meaning_text : (s : MacroScope) (vars : Bool) (name : List ℕ) (default : Option (List ℕ)) → IsTextScope s → IsUtf8 (unwrap_or default []) → IsTextMeaning (stands_for s vars name default)
unfolding stands_for
meaning_text s vars name default texts u =
    let P : Meaning → Type 0 = IsTextMeaning in
    decided P (is_launch_macro name) _ _ (λ _. texts.launch) (λ _.
    decided P (is_process name) _ _ (λ _. zero_text) (λ _.
    decided P (vars && (is_none default && same_name name (codes "JOB"))) _ _ (λ _. texts.job) (λ _.
    decided P (vars && (is_none default && same_name name (codes "RETRY"))) _ _ (λ _. texts.retry) (λ _.
    assigned_text (last_macro s.assigned name) (unassigned s vars name default) (last_text None s.assigned name tt texts.assigned)
    (decided P (same_name name (codes "JOB")) _ _ (λ _. texts.job) (λ _.
    decided P (same_name name (codes "RETRY")) (Fixed false s.retry) (Value vars (unwrap_or default [])) (λ _. texts.retry) (λ _. u)))))))

-- what is written for a text, after the bytes p of a character of which the text may have the others
abbrev IsWritten : List ℕ → List ℕ → List Event → Type 0
IsWritten p t es = IsUtf8 (p ++ t) → NoneRefused es → IsUtf8 (p ++ written_in es)

-- what is smaller is written as a text
abbrev Smaller : MacroScope → ℕ → Type 0
Smaller s n = (opened : List (List ℕ)) (vars : Bool) (t p : List ℕ) → room s.assigned opened + length t < n → IsWritten p t (events s opened vars t)

abbrev TextWhere : List Event → Type 0
TextWhere es = NoneRefused es → IsUtf8 (written_in es)

value_text : (s : MacroScope) (n : ℕ) (opened : List (List ℕ)) (name : List ℕ) (vars : Bool) (text : List ℕ) (b : Bool) → Smaller s n → IsUtf8 text
    → (b ≡ false → room s.assigned (opened ++ name ∷ []) + length text < n) → TextWhere (value_events (events s) opened name vars text b)
value_text s n opened name vars text true smaller u fits = λ h. absurd h
value_text s n opened name vars text false smaller u fits = smaller (opened ++ name ∷ []) vars text [] (fits refl) u

events_text : (s : MacroScope) (n k : ℕ) (opened : List (List ℕ)) (name : List ℕ) (m : Meaning) → Smaller s n → IsTextMeaning m → room s.assigned opened + k < n
    → (is_name_open opened name ≡ false → FitsIn s.assigned opened name k m) → TextWhere (meaning_events (events s) opened name m)
events_text s n k opened name (Fixed whole text) smaller u small fits = λ h. rw (written_plain text) u
events_text s n k opened name (Value vars text) smaller u small fits =
    value_text s n opened name vars text (is_name_open opened name) smaller u
    (λ shut. let h : room s.assigned (opened ++ name ∷ []) + length text ≤ room s.assigned opened + k = fits shut in omega arith)

reference_text : (s : MacroScope) (n : ℕ) (opened : List (List ℕ)) (vars : Bool) (inside : List ℕ) → Smaller s n → IsTextScope s → IsUtf8 inside
    → room s.assigned opened + length inside < n → TextWhere (reference_events (events s) s opened vars inside)
reference_text s n opened vars inside smaller texts u small =
    let name = reference_name inside in
    decided TextWhere (is_reference_name name) (meaning_events (events s) opened name (stands_for s vars name (default_of inside))) (Refused BadReference ∷ [])
    (λ _. events_text s n (length inside) opened name (stands_for s vars name (default_of inside)) smaller
    (meaning_text s vars name (default_of inside) texts (default_text (colon_in inside) inside u refl)) small
    (λ shut. meaning_fits s vars opened name (default_of inside) (length inside) shut (default_shorter (colon_in inside) inside)))
    (λ _. λ h. absurd h)

piece_text : (s : MacroScope) (n k : ℕ) (opened : List (List ℕ)) (vars : Bool) (piece : Piece) (t p : List ℕ) → Smaller s n → IsTextScope s → Spelt piece t → Shorter k piece
    → room s.assigned opened + k ≤ n → IsWritten p t (piece_events (events s) s opened vars piece)
piece_text s n k opened vars End t p smaller texts spelt short small = λ u h. subst (λ (x : List ℕ). IsUtf8 (p ++ x)) spelt u
piece_text s n k opened vars (Plain b rest) t p smaller texts spelt short small = λ u h.
    let whole : IsUtf8 (p ++ b ∷ rest) = subst (λ (x : List ℕ). IsUtf8 (p ++ x)) spelt u in
    subst IsUtf8 (append_assoc p (b ∷ []) (written_in (events s opened vars rest))) (smaller opened vars rest (p ++ b ∷ []) (omega arith) (moved p rest b whole) h)
piece_text s n k opened vars (Reference inside rest) t p smaller texts spelt short small = λ u h.
    let whole : IsUtf8 (p ++ 36 ∷ (40 ∷ (inside ++ 41 ∷ rest))) = subst (λ (x : List ℕ). IsUtf8 (p ++ x)) spelt u in
    let front : IsUtf8 p = seam_before p (40 ∷ (inside ++ 41 ∷ rest)) 36 (omega arith) whole in
    let opening : IsUtf8 (40 ∷ (inside ++ 41 ∷ rest)) = seam_behind p (40 ∷ (inside ++ 41 ∷ rest)) 36 (omega arith) whole in
    let both : IsUtf8 (inside ++ 41 ∷ rest) = seam_behind [] (inside ++ 41 ∷ rest) 40 (omega arith) opening in
    let first = reference_events (events s) s opened vars inside in
    let later = events s opened vars rest in
    let lawful = lawful_parts first later h in
    let one : IsUtf8 (written_in first) = reference_text s n opened vars inside smaller texts (seam_before inside rest 41 (omega arith) both) (omega arith) lawful.0 in
    let two : IsUtf8 (written_in later) = smaller opened vars rest [] (omega arith) (seam_behind inside rest 41 (omega arith) both) lawful.1 in
    rw (written_append first later) (IsUtf8-append p (written_in first ++ written_in later) front (IsUtf8-append (written_in first) (written_in later) one two))
piece_text s n k opened vars (Bad fault) t p smaller texts spelt short small = λ u h. absurd h

written_by : (n : ℕ) (s : MacroScope) (opened : List (List ℕ)) (vars : Bool) (t p : List ℕ) → IsTextScope s → room s.assigned opened + length t < n → IsWritten p t (events s opened vars t)
written_by zero s opened vars t p texts small = absurd (omega arith)
written_by (suc n) s opened vars t p texts small =
    rw (cuts_enough s opened vars t)
    (piece_text s n (length t) opened vars (first_piece t) t p (λ o v x q less. written_by n s o v x q texts less) texts (piece_spelt t) (piece_shorter t) (omega arith))

pub written_text : (s : MacroScope) (vars : Bool) (text : List ℕ) → IsTextScope s → IsUtf8 text → NoneRefused (events s [] vars text) → IsUtf8 (written_in (events s [] vars text))
written_text s vars text texts u h = written_by (suc (room s.assigned [] + length text)) s [] vars text [] texts (omega arith) u h

pub expansion_text : (s : MacroScope) (vars : Bool) (text : List ℕ) (e : Expansion) → IsTextScope s → IsUtf8 text → expansion s vars text ≡ Ok e → IsUtf8 e.text
expansion_text s vars text e texts u h =
    let is = found s vars text e h in
    subst IsUtf8 (sym is.written) (written_text s vars text texts u is.lawful)
