-- The names in a text and in its parts.
use Rattle.std.proofs.Common.{◌≡◌, ◌≢◌, ◌∙◌, sym, ap, refl, subst, ℕ, zero, suc, ◌+◌, ◌-◌, ◌≤◌, Bool, true, false, ◌&&◌, ◌==◌, nat_lt, List, [], ◌∷◌, ◌++◌, length, take, drop, arith, Option, Some, None, length-take, length-drop, length-append, cond, not, nat_eq, ◌<◌}
use Rattle.std.proofs.lemmas.Bool.{false≢true, eqb-true}
use Rattle.std.proofs.lemmas.Bool.Decides.{nat_tests}
use Rattle.std.proofs.lemmas.List.{drop-take, drop-drop, take-append-drop, append-nil}
use Rattle.std.specs.List.{list_all, position_or_len}
use Rattle.vars_macros.specs.Names.{lower, is_reference_name, is_name_byte}
use Rattle.vars_macros.specs.Cut.{begins_with, reference_name, default_of, colon_in, before, rest_behind}
use Rattle.vars_macros.specs.NameTable.{number_of_name, KeepsNumbers}
use Rattle.vars_macros.specs.NamePlaces.{AreNamesOf, AreNamesIn, IsNameOf}
use Rattle.vars_macros.specs.declared.naming.Name.{Name}
use Rattle.vars_macros.specs.declared.numbering.Names.{Names}

-- Parts.
pub names_in_whole : (names : Names) (text : List ℕ) (table : ℕ → Option Name) → AreNamesOf names text table → AreNamesIn names 0 text table
names_in_whole names text table are k name at within =
    let same : k ≡ 0 + k = omega arith in
    are k name (ap table same ∙ at)

pub names_in_behind : (names : Names) (start n : ℕ) (part : List ℕ) (table : ℕ → Option Name) → n ≤ length part →
    AreNamesIn names start part table → AreNamesIn names (start + n) (drop n part) table
names_in_behind names start n part table fits are k name at within =
    let place : start + (n + k) ≡ start + n + k = omega arith in
    subst (λ (rest : List ℕ). IsNameOf names rest name) (sym (drop-drop k n part)) (are (n + k) name (ap table place ∙ at) (omega (arith, within, length-drop n part)))

take_whole : (xs : List ℕ) → take (length xs) xs ≡ xs
take_whole [] = refl
take_whole (x ∷ xs) = ap (λ (ys : List ℕ). x ∷ ys) (take_whole xs)

pub all_behind : (n : ℕ) (xs : List ℕ) → take (length xs - n) (drop n xs) ≡ drop n xs
all_behind n xs = ap (λ (m : ℕ). take m (drop n xs)) (sym (length-drop n xs)) ∙ take_whole (drop n xs)

take_take : (a b : ℕ) (xs : List ℕ) → a ≤ b → take a (take b xs) ≡ take a xs
take_take zero b xs less = refl
take_take (suc a) zero xs less = absurd (omega arith)
take_take (suc a) (suc b) [] less = refl
take_take (suc a) (suc b) (x ∷ xs) less = ap (λ (ys : List ℕ). x ∷ ys) (take_take a b xs (omega arith))

pub names_in_first : (names : Names) (start n : ℕ) (part : List ℕ) (table : ℕ → Option Name) → n ≤ length part →
    AreNamesIn names start part table → AreNamesIn names start (take n part) table
names_in_first names start n part table fits are k name at within =
    let count : length (take n part) ≡ n = omega (arith, length-take n part) in
    let base : IsNameOf names (drop k part) name = are k name at (omega (arith, within, count)) in
    let some : k + (n - k) ≡ n = omega (arith, within, count) in
    let rest : drop k (take n part) ≡ take (n - k) (drop k part) = ap (λ (m : ℕ). drop k (take m part)) (sym some) ∙ drop-take k (n - k) part in
    let cut : take name.len (drop k (take n part)) ≡ take name.len (drop k part) =
    ap (take name.len) rest ∙ take_take name.len (n - k) (drop k part) (omega (arith, within, count)) in
    record {
      within = omega (arith, within, length-drop k (take n part));
      lawful = ap is_reference_name cut ∙ base.lawful;
      numbered = ap (λ (t : List ℕ). number_of_name names (lower t)) cut ∙ base.numbered;
    }

-- Tables.
pub name_kept : (old new : Names) (text : List ℕ) (name : Name) → KeepsNumbers old new → IsNameOf old text name → IsNameOf new text name
name_kept old new text name keeps is = record {
  within = is.within;
  lawful = is.lawful;
  numbered = keeps.numbers (lower (take name.len text)) name.number is.numbered;
}

pub names_kept : (old new : Names) (text : List ℕ) (table : ℕ → Option Name) → KeepsNumbers old new → AreNamesOf old text table → AreNamesOf new text table
names_kept old new text table keeps are at name is = name_kept old new (drop at text) name keeps (are at name is)

pub one_name_more : (names : Names) (text : List ℕ) (table after : ℕ → Option Name) (at : ℕ) (name : Name) → AreNamesOf names text table →
    IsNameOf names (drop at text) name → after at ≡ Some name → ((k : ℕ) → k ≢ at → after k ≡ table k) → AreNamesOf names text after
one_name_more names text table after at name are stands here others k given is = by_place (nat_eq k at) refl
  where
    by_place : (same : Bool) → nat_eq k at ≡ same → IsNameOf names (drop k text) given
    by_place true e =
        let place : at ≡ k = grind (arith, nat_tests) in
        let one : Some name ≡ Some given = sym here ∙ ap after place ∙ is in
        let found : name ≡ given = cc in
        subst (λ (n : Name). IsNameOf names (drop k text) n) found (subst (λ (m : ℕ). IsNameOf names (drop m text) name) place stands)
    by_place false e = are k given (sym (others k (λ same. false≢true (sym e ∙ grind (arith, nat_tests)))) ∙ is)

-- The name of a reference.
and_left : (a b : Bool) → (a && b) ≡ true → a ≡ true
and_left true b h = refl
and_left false b h = h

and_right : (a b : Bool) → (a && b) ≡ true → b ≡ true
and_right true b h = h
and_right false b h = absurd (false≢true h)

pub lawful_bytes : (name : List ℕ) → is_reference_name name ≡ true → list_all is_name_byte name ≡ true
unfolding is_reference_name
lawful_bytes name h = and_left (list_all is_name_byte name) _ (and_right (nat_lt 0 (length name)) _ h)

no_colon_byte : (b : ℕ) → is_name_byte b ≡ true → (b == 58) ≡ false
unfolding is_name_byte
no_colon_byte b h = by_test (b == 58) refl
  where
    by_test : (same : Bool) → (b == 58) ≡ same → same ≡ false
    by_test false e = refl
    by_test true e =
        let is : b ≡ 58 = grind (arith, nat_tests) in
        absurd (false≢true (sym (ap is_name_byte is) ∙ h))

-- how many bytes are before the first colon
abbrev ahead_of_colon : List ℕ → ℕ
ahead_of_colon text = position_or_len (λ b. b == 58) text

no_colon_ahead : (name rest : List ℕ) → list_all is_name_byte name ≡ true → ahead_of_colon rest ≡ 0 → ahead_of_colon (name ++ rest) ≡ length name
no_colon_ahead [] rest h e = e
no_colon_ahead (b ∷ bs) rest h e =
    let further = no_colon_ahead bs rest (and_right (is_name_byte b) (list_all is_name_byte bs) h) e in
    let step : ahead_of_colon (b ∷ (bs ++ rest)) ≡ cond (not false) (1 + ahead_of_colon (bs ++ rest)) 0 =
    ap (λ (same : Bool). cond (not same) (1 + ahead_of_colon (bs ++ rest)) 0) (no_colon_byte b (and_left (is_name_byte b) (list_all is_name_byte bs) h)) in
    step ∙ omega (arith, further)

colon_from : (text : List ℕ) (n : ℕ) → ahead_of_colon text ≡ n → colon_in text ≡ cond (nat_lt n (length text)) (Some n) None
colon_from text n e = ap (λ (m : ℕ). cond (nat_lt m (length text)) (Some m) None) e

no_colon : (name : List ℕ) → list_all is_name_byte name ≡ true → colon_in name ≡ None
no_colon name h =
    let ahead : ahead_of_colon name ≡ length name = ap ahead_of_colon (sym (append-nil name)) ∙ no_colon_ahead name [] h refl in
    colon_from name (length name) ahead ∙ grind (arith, nat_tests)

colon_next : (name rest : List ℕ) → list_all is_name_byte name ≡ true → colon_in (name ++ 58 ∷ rest) ≡ Some (length name)
colon_next name rest h =
    let ahead : ahead_of_colon (name ++ 58 ∷ rest) ≡ length name = no_colon_ahead name (58 ∷ rest) h refl in
    let more : length name < length (name ++ 58 ∷ rest) = omega (arith, length-append name (58 ∷ rest)) in
    colon_from (name ++ 58 ∷ rest) (length name) ahead ∙ grind (arith, nat_tests)

pub nothing_in : (text : List ℕ) → (length text == 0) ≡ true → text ≡ []
nothing_in [] h = refl
nothing_in (b ∷ bs) h = let none : length (b ∷ bs) ≡ 0 = eqb-true (length (b ∷ bs)) 0 h in absurd (omega (arith, none))

pub colon_first : (text : List ℕ) → begins_with 58 text ≡ true → text ≡ 58 ∷ drop 1 text
colon_first [] h = absurd (false≢true h)
colon_first (b ∷ bs) h = ap (λ (c : ℕ). c ∷ bs) (eqb-true b 58 h)

-- Nothing is after the name.
pub named_whole : (text : List ℕ) (n : ℕ) → is_reference_name (take n text) ≡ true → drop n text ≡ [] → (take n text ≡ reference_name text) × (None ≡ default_of text)
named_whole text n lawful none =
    let whole : take n text ≡ text = sym (append-nil (take n text)) ∙ ap (λ (rest : List ℕ). take n text ++ rest) (sym none) ∙ take-append-drop n text in
    let colon : colon_in text ≡ None = ap colon_in (sym whole) ∙ no_colon (take n text) (lawful_bytes (take n text) lawful) in
    (whole ∙ ap (λ (o : Option ℕ). before o text) (sym colon), ap (λ (o : Option ℕ). rest_behind o text) (sym colon))

-- A colon is after it, and then the default.
pub named_before : (text rest : List ℕ) (n : ℕ) → n ≤ length text → is_reference_name (take n text) ≡ true → drop n text ≡ 58 ∷ rest →
    (take n text ≡ reference_name text) × (Some (drop (n + 1) text) ≡ default_of text)
named_before text rest n within lawful next =
    let parts : take n text ++ 58 ∷ rest ≡ text = ap (λ (more : List ℕ). take n text ++ more) (sym next) ∙ take-append-drop n text in
    let count : length (take n text) ≡ n = omega (arith, length-take n text) in
    let colon : colon_in text ≡ Some n = ap colon_in (sym parts) ∙ colon_next (take n text) rest (lawful_bytes (take n text) lawful) ∙ ap Some count in
    (ap (λ (o : Option ℕ). before o text) (sym colon), ap (λ (o : Option ℕ). rest_behind o text) (sym colon))

-- the name that the code cuts off
pub name_ahead : (names : Names) (text name : List ℕ) (n : ℕ) (found : Name) → n ≤ length text → Some name ≡ cond (is_reference_name (take n text)) (Some (take n text)) None →
    found.len ≡ length name → number_of_name names (lower name) ≡ Some found.number → IsNameOf names text found
name_ahead names text name n found within is count numbered = by_lawful (is_reference_name (take n text)) refl is
  where
    by_lawful : (b : Bool) → is_reference_name (take n text) ≡ b → Some name ≡ cond b (Some (take n text)) None → IsNameOf names text found
    by_lawful false unlawful e = absurd cc
    by_lawful true holds e =
        let same : name ≡ take n text = cc in
        let len : found.len ≡ n = omega (arith, count, ap length same, length-take n text) in
        let cut : take found.len text ≡ take n text = ap (λ (m : ℕ). take m text) len in
        record {
          within = omega (arith, len);
          lawful = ap is_reference_name cut ∙ holds;
          numbered = ap (λ (t : List ℕ). number_of_name names (lower t)) (cut ∙ sym same) ∙ numbered;
        }
