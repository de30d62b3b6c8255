-- The last assignments of names where one more is assigned.
use Rattle.std.proofs.Common.{◌≡◌, ◌∙◌, sym, ap, refl, ℕ, ◌<◌, Bool, true, false, cond, List, [], ◌∷◌, ◌++◌, length, arith, slice_get, Option, Some, None, option_map}
use Rattle.std.proofs.lemmas.List.{get_or_push, get_or_append_left, length_push, length-map, map-append}
use Rattle.std.proofs.lemmas.Option.{slice_get-get_or, slice_get-map}
use Rattle.std.specs.Str.{bytes_eq}
use Rattle.vars_macros.specs.NameTable.{IsGiven}
use Rattle.vars_macros.specs.Names.{lower, same_name}
use Rattle.vars_macros.specs.Meaning.{last_from, last_macro}
use Rattle.vars_macros.specs.Places.{macros_in, at_place, GivesLast}
use Rattle.vars_macros.specs.declared.assignment.Macro.{Macro}
use Rattle.vars_macros.specs.declared.assignment.Assigned.{Assigned}

last_from_push : (found : Option Macro) (ms : List Macro) (m : Macro) (name : List ℕ) →
    last_from found (ms ++ m ∷ []) name ≡ cond (same_name m.name name) (Some m) (last_from found ms name)
last_from_push found [] m name = refl
last_from_push found (x ∷ xs) m name = last_from_push (cond (same_name x.name name) (Some x) found) xs m name

get_push : (ms : List Macro) (m : Macro) → slice_get (ms ++ m ∷ []) (length ms) ≡ Some m
get_push ms m = slice_get-get_or (ms ++ m ∷ []) (length ms) m (omega (arith, length_push ms m)) ∙ ap Some (get_or_push ms m m (length ms) refl)

get_before : (ms : List Macro) (m : Macro) (k : ℕ) → k < length ms → slice_get (ms ++ m ∷ []) k ≡ slice_get ms k
get_before ms m k less =
    slice_get-get_or (ms ++ m ∷ []) k m (omega (arith, length_push ms m)) ∙ ap Some (get_or_append_left ms (m ∷ []) m k less) ∙ sym (slice_get-get_or ms k m less)

pub gives_push : (before after : List ℕ → Option ℕ) (ms : List Macro) (m : Macro) → GivesLast before ms → IsGiven before after (lower m.name) (length ms) → GivesLast after (ms ++ m ∷ [])
unfolding same_name
gives_push before after ms m gives given = record {
  last = λ name. ap (at_place (ms ++ m ∷ [])) (given (lower name)) ∙ by_name name (bytes_eq (lower m.name) (lower name)) (before (lower name)) refl (gives.within (lower name))
      ∙ ap (λ (o : Option Macro). cond (same_name m.name name) (Some m) o) (gives.last name) ∙ sym (last_from_push None ms m name);
  within = λ name k is. by_key name k (bytes_eq (lower m.name) name) (before name) (gives.within name) (sym (given name) ∙ is);
}
  where
    by_name : (name : List ℕ) (same : Bool) (found : Option ℕ) → same ≡ same → ((k : ℕ) → found ≡ Some k → k < length ms) →
        at_place (ms ++ m ∷ []) (cond same (Some (length ms)) found) ≡ cond same (Some m) (at_place ms found)
    by_name name true found e within = get_push ms m
    by_name name false None e within = refl
    by_name name false (Some k) e within = get_before ms m k (within k refl)

    by_key : (name : List ℕ) (k : ℕ) (same : Bool) (found : Option ℕ) → ((j : ℕ) → found ≡ Some j → j < length ms) →
        cond same (Some (length ms)) found ≡ Some k → k < length (ms ++ m ∷ [])
    by_key name k true found within e = let here : length ms ≡ k = cc in omega (arith, length_push ms m, here)
    by_key name k false found within e = let less : k < length ms = within k e in omega (arith, length_push ms m, less)

-- nothing is found where nothing is assigned
pub gives_none : (table : List ℕ → Option ℕ) → ((name : List ℕ) → table name ≡ None) → GivesLast table []
gives_none table none = record {
  last = λ name. ap (at_place []) (none (lower name));
  within = λ name k is. let e : None ≡ Some k = sym (none name) ∙ is in absurd cc;
}

-- what is found
pub found_last : (table : List ℕ → Option ℕ) (all : List Assigned) (name : List ℕ) (k : ℕ) → GivesLast table (macros_in all) → table (lower name) ≡ Some k →
    option_map (λ (a : Assigned). a.one) (slice_get all k) ≡ last_macro (macros_in all) name
found_last table all name k gives is =
    sym (slice_get-map (λ (a : Assigned). a.one) all k) ∙ ap (at_place (macros_in all)) (sym is) ∙ gives.last name

pub found_none : (table : List ℕ → Option ℕ) (ms : List Macro) (name : List ℕ) → GivesLast table ms → table (lower name) ≡ None → None ≡ last_macro ms name
found_none table ms name gives is = ap (at_place ms) (sym is) ∙ gives.last name

pub place_within : (table : List ℕ → Option ℕ) (all : List Assigned) (name : List ℕ) (k : ℕ) → GivesLast table (macros_in all) → table name ≡ Some k → k < length all
place_within table all name k gives is = omega (arith, gives.within name k is, length-map all (λ (a : Assigned). a.one))

-- one assignment more
pub macros_push : (old new : List Assigned) (a : Assigned) → new ≡ old ++ a ∷ [] → macros_in new ≡ macros_in old ++ a.one ∷ []
macros_push old new a is = ap macros_in is ∙ map-append (λ (b : Assigned). b.one) old (a ∷ [])
