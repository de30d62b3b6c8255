-- Macros by the places of their names in lower case.
use Rattle.std.proofs.Common.{◌≡◌, ℕ, zero, suc, ◌<◌, true, false, ◌++◌, List, [], ◌∷◌, length, map, Some, None, get_or, refl, sym, ap, ◌∙◌, arith, position}
use Rattle.std.proofs.lemmas.Bool.{or_parts, cond-true, cond-false}
use Rattle.std.proofs.lemmas.List.Quantifiers.{position-Some}
use Rattle.std.proofs.lemmas.Slice.Eq.{bytes_eq-Decides}
use Rattle.std.specs.Prelude.{find, slice_set}
use Rattle.std.specs.List.{list_any}
use Rattle.std.specs.Str.{bytes_eq}
use Rattle.splices_flat.specs.declared.flat.MacroSetting.{MacroSetting}
use Rattle.splices_flat.specs.MacroKeys.{macro_key}
use Rattle.splices_flat.specs.Settings.{is_namesake, with_macro}
use Rattle.splices_flat.proofs.Limits.{not_there}
use Rattle.splices_flat.proofs.NameLists.{position_map}

-- the place of a name in lower case is that of the namesake
pub namesake_place : (names : List (List ℕ)) (macros : List MacroSetting) (m : MacroSetting) (key : List ℕ) → names ≡ map macro_key macros → key ≡ macro_key m → position (bytes_eq key) names ≡ position (is_namesake m) macros
namesake_place names macros m key are is =
    ap (position (bytes_eq key)) are ∙ ap (λ (k : List ℕ). position (bytes_eq k) (map macro_key macros)) is ∙ position_map macro_key (bytes_eq (macro_key m)) macros

place_in : (names : List (List ℕ)) (macros : List MacroSetting) (m d : MacroSetting) (key : List ℕ) (k : ℕ) → names ≡ map macro_key macros → key ≡ macro_key m → Some k ≡ position (bytes_eq key) names → (k < length macros) × (is_namesake m (get_or macros k d) ≡ true) × ((j : ℕ) → j < k → is_namesake m (get_or macros j d) ≡ false)
place_in names macros m d key k are is e = position-Some (is_namesake m) macros k d (sym (e ∙ namesake_place names macros m key are is))

at_place : (macros : List MacroSetting) (m d : MacroSetting) (k : ℕ) → k < length macros → is_namesake m (get_or macros k d) ≡ true → ((j : ℕ) → j < k → is_namesake m (get_or macros j d) ≡ false) → (with_macro macros m ≡ slice_set macros k m) × (find (is_namesake m) macros ≡ Some (get_or macros k d))
at_place [] m d k lt e before = absurd (omega arith)
at_place (other ∷ macros) m d zero lt e before =
    (cond-true (is_namesake m other) (m ∷ macros) (other ∷ with_macro macros m) e, cond-true (is_namesake m other) (Some other) (find (is_namesake m) macros) e)
at_place (other ∷ macros) m d (suc k) lt e before =
    let no : is_namesake m other ≡ false = before 0 (omega arith) in
    let rest = at_place macros m d k (omega arith) e (λ j l. before (suc j) (omega arith)) in (
      cond-false (is_namesake m other) (m ∷ macros) (other ∷ with_macro macros m) no ∙ ap (λ ms. other ∷ ms) rest.0,
      cond-false (is_namesake m other) (Some other) (find (is_namesake m) macros) no ∙ rest.1,
    )

none_there : (macros : List MacroSetting) (m : MacroSetting) → list_any (is_namesake m) macros ≡ false → (with_macro macros m ≡ macros ++ m ∷ []) × (find (is_namesake m) macros ≡ None)
none_there [] m e = (refl, refl)
none_there (other ∷ macros) m e =
    let p = or_parts _ _ e in
    let rest = none_there macros m p.1 in (
      cond-false (is_namesake m other) (m ∷ macros) (other ∷ with_macro macros m) p.0 ∙ ap (λ ms. other ∷ ms) rest.0,
      cond-false (is_namesake m other) (Some other) (find (is_namesake m) macros) p.0 ∙ rest.1,
    )

same_keys : (macros : List MacroSetting) (m d : MacroSetting) (k : ℕ) → macro_key m ≡ macro_key (get_or macros k d) → map macro_key macros ≡ map macro_key (slice_set macros k m)
same_keys [] m d k e = refl
same_keys (other ∷ macros) m d zero e = ap (λ (n : List ℕ). n ∷ map macro_key macros) (sym e)
same_keys (other ∷ macros) m d (suc k) e = ap (λ (ns : List (List ℕ)). macro_key other ∷ ns) (same_keys macros m d k e)

-- the names stay where a macro takes the place of its namesake
pub keys_stay : (names : List (List ℕ)) (macros : List MacroSetting) (m : MacroSetting) (key : List ℕ) (k : ℕ) → names ≡ map macro_key macros → key ≡ macro_key m → Some k ≡ position (bytes_eq key) names → names ≡ map macro_key (slice_set macros k m)
keys_stay names macros m key k are is e = are ∙ same_keys macros m m k ((bytes_eq-Decides _ _).0 (place_in names macros m m key k are is e).1)

pub macro_replaced : (names : List (List ℕ)) (macros : List MacroSetting) (m : MacroSetting) (key : List ℕ) (k : ℕ) → names ≡ map macro_key macros → key ≡ macro_key m → Some k ≡ position (bytes_eq key) names → slice_set macros k m ≡ with_macro macros m
macro_replaced names macros m key k are is e =
    let q = place_in names macros m m key k are is e in
    sym (at_place macros m m k q.0 q.1 q.2).0

pub namesake_found : (names : List (List ℕ)) (macros : List MacroSetting) (m old : MacroSetting) (key : List ℕ) (k : ℕ) → names ≡ map macro_key macros → key ≡ macro_key m → Some k ≡ position (bytes_eq key) names → old ≡ get_or macros k old → Some old ≡ find (is_namesake m) macros
namesake_found names macros m old key k are is e same =
    let q = place_in names macros m old key k are is e in
    ap (λ (o : MacroSetting). Some o) same ∙ sym (at_place macros m old k q.0 q.1 q.2).1

none_named : (names : List (List ℕ)) (macros : List MacroSetting) (m : MacroSetting) (key : List ℕ) → names ≡ map macro_key macros → key ≡ macro_key m → None ≡ position (bytes_eq key) names → list_any (is_namesake m) macros ≡ false
none_named names macros m key are is e = not_there (is_namesake m) macros (e ∙ namesake_place names macros m key are is)

pub macro_added : (names : List (List ℕ)) (macros after : List MacroSetting) (m : MacroSetting) (key : List ℕ) → names ≡ map macro_key macros → key ≡ macro_key m → None ≡ position (bytes_eq key) names → after ≡ macros ++ m ∷ [] → after ≡ with_macro macros m
macro_added names macros after m key are is e more = more ∙ sym (none_there macros m (none_named names macros m key are is e)).0

pub no_namesake : (names : List (List ℕ)) (macros : List MacroSetting) (m : MacroSetting) (key : List ℕ) → names ≡ map macro_key macros → key ≡ macro_key m → None ≡ position (bytes_eq key) names → None ≡ find (is_namesake m) macros
no_namesake names macros m key are is e = sym (none_there macros m (none_named names macros m key are is e)).1
