-- Suspended texts and the keys by which they are found.
use Rattle.std.proofs.Common.{◌≡◌, ◌∙◌, sym, ap, refl, ℕ, zero, suc, Bool, true, false, cond, List, [], ◌∷◌, ◌++◌, ◌||◌, map, Option, Some, None, length, arith, ◌<◌, nat_eq, eq-eqb}
use Rattle.std.proofs.lemmas.Bool.{false≢true, eqb-true}
use Rattle.std.proofs.lemmas.List.{map-append}
use Rattle.std.proofs.lemmas.Slice.Eq.{bytes_eq-Decides}
use Rattle.std.specs.HashMap.{get_by_text}
use Rattle.std.specs.Map.{lookup}
use Rattle.std.specs.Option.{is_some}
use Rattle.std.specs.Str.{bytes_eq}
use Rattle.std.specs.Prelude.{string_bytes}
use Rattle.vars_macros.specs.contracts.key.KeyPartialEq.TheImpl.{eq-value}
use Rattle.vars_macros.specs.Each.{Each}
use Rattle.vars_macros.specs.Names.{lower, same_name, is_name_open}
use Rattle.vars_macros.specs.Frames.{Frame, HasKey}
use Rattle.vars_macros.specs.Machine.{open_names}
use Rattle.vars_macros.specs.NameTable.{IsKeyOf, number_of_name}
use Rattle.vars_macros.specs.Numbering.{NumbersAreApart}
use Rattle.vars_macros.specs.declared.key.Key.{Key}
use Rattle.vars_macros.specs.declared.key.Key.TheVariants.{Numbered, Spelled}
use Rattle.vars_macros.specs.declared.machine.Suspended.{Suspended}
use Rattle.vars_macros.specs.declared.numbering.Names.{Names}
use Rattle.vars_macros.proofs.Names.{same_lower, lower_same}
use Rattle.vars_macros.proofs.NameTables.{numbered, spelled}

abbrev pub suspended : List Frame → List Suspended
suspended fs = map (λ (f : Frame). f.1) fs

-- one more at the end
pub suspended_push : (fs : List Frame) (f : Frame) → suspended (fs ++ f ∷ []) ≡ suspended fs ++ f.1 ∷ []
suspended_push fs f = map-append (λ (g : Frame). g.1) fs (f ∷ [])

-- whether two keys are the same
abbrev same_key : Key → Key → Bool
same_key a b = (eq-value).it a b

either_way : (a b : Bool) → (a ≡ true → b ≡ true) → (b ≡ true → a ≡ true) → a ≡ b
either_way true b there back = sym (there refl)
either_way false true there back = back refl
either_way false false there back = refl

-- Two names have the same key where they are the same in any case.
key_same : (names : Names) (asked : List ℕ) (q : Key) (held : List ℕ) (k : Key) → NumbersAreApart (get_by_text names.numbers) (length names.last.items) →
    IsKeyOf names asked q → IsKeyOf names held k → same_key q k ≡ same_name held asked
key_same names asked (Numbered m) held (Numbered n) apart q_is k_is =
    let is = numbered (lower asked) (number_of_name names (lower asked)) m [] q_is in
    let held_is = numbered (lower held) (number_of_name names (lower held)) n [] k_is in
    either_way (nat_eq m n) (same_name held asked)
    (λ same. same_lower held asked (apart.apart (lower held) (lower asked) n held_is (is ∙ ap Some (eqb-true m n same))))
    (λ same. let one : Some m ≡ Some n = sym is ∙ ap (number_of_name names) (sym (lower_same held asked same)) ∙ held_is in
    let number : m ≡ n = cc in eq-eqb m n number)
key_same names asked (Numbered m) held (Spelled k) apart q_is k_is =
    let is = numbered (lower asked) (number_of_name names (lower asked)) m [] q_is in
    let held_is = spelled (lower held) (number_of_name names (lower held)) (string_bytes k) k_is in
    either_way false (same_name held asked)
    (λ never. absurd (false≢true never))
    (λ same. let one : Some m ≡ None = sym is ∙ ap (number_of_name names) (sym (lower_same held asked same)) ∙ held_is.0 in absurd cc)
key_same names asked (Spelled q) held (Numbered n) apart q_is k_is =
    let is = spelled (lower asked) (number_of_name names (lower asked)) (string_bytes q) q_is in
    let held_is = numbered (lower held) (number_of_name names (lower held)) n [] k_is in
    either_way false (same_name held asked)
    (λ never. absurd (false≢true never))
    (λ same. let one : None ≡ Some n = sym is.0 ∙ ap (number_of_name names) (sym (lower_same held asked same)) ∙ held_is in absurd cc)
key_same names asked (Spelled q) held (Spelled k) apart q_is k_is =
    let is = spelled (lower asked) (number_of_name names (lower asked)) (string_bytes q) q_is in
    let held_is = spelled (lower held) (number_of_name names (lower held)) (string_bytes k) k_is in
    either_way (bytes_eq (string_bytes q) (string_bytes k)) (same_name held asked)
    (λ same. same_lower held asked (sym held_is.1 ∙ sym ((bytes_eq-Decides (string_bytes q) (string_bytes k)).0 same) ∙ is.1))
    (λ same. (bytes_eq-Decides (string_bytes q) (string_bytes k)).1 (is.1 ∙ sym (lower_same held asked same) ∙ sym held_is.1))

some_either : {X : Type 0} (b : Bool) (x : X) (o : Option X) → is_some (cond b (Some x) o) ≡ (b || is_some o)
some_either true x o = refl
some_either false x o = refl

-- A name is open where its key is found.
pub found_open : (names : Names) (fs : List Frame) (name : List ℕ) (key : Key) → NumbersAreApart (get_by_text names.numbers) (length names.last.items) →
    Each (HasKey names) fs → IsKeyOf names name key →
    is_some (lookup (λ (k : Key). (eq-value).it key k) fs) ≡ is_name_open (open_names (suspended fs)) name
found_open names [] name key apart all is = refl
found_open names (f ∷ fs) name key apart all is =
    some_either (same_key key f.0) f.1 (lookup (same_key key) fs)
    ∙ ap (λ (b : Bool). b || is_some (lookup (same_key key) fs)) (key_same names name key f.1.name.now f.0 apart is (all zero f refl).key)
    ∙ ap (λ (b : Bool). same_name f.1.name.now name || b) (found_open names fs name key apart (λ k g at. all (suc k) g at) is)

-- one more, as the table has it
pub pushed : (old new : List Frame) (f : Frame) → new ≡ old ++ f ∷ [] → suspended new ≡ suspended old ++ f.1 ∷ []
pushed old new f is = ap suspended is ∙ suspended_push old f

pub none_left : (fs : List Frame) → (0 < length fs → ⊥) → fs ≡ []
none_left [] h = refl
none_left (f ∷ fs) h = absurd (h (omega arith))

pub absent : {X : Type 0} (o : Option X) → is_some o ≡ false → o ≡ None
absent None h = refl
absent (Some x) h = absurd cc
