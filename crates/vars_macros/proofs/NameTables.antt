-- Tables of names: keys, numbers and places.
use Rattle.std.proofs.Common.{◌≡◌, ◌∙◌, sym, ap, refl, subst, ℕ, zero, suc, ◌<◌, ◌+◌, Bool, true, false, cond, List, [], ◌∷◌, ◌++◌, length, arith, slice_get, Option, Some, None, unwrap_or, slice_set, Result, Ok, Err, OnOk, OnErr}
use Rattle.std.proofs.lemmas.Bool.{false≢true}
use Rattle.std.proofs.lemmas.Slice.Eq.{bytes_eq-Decides}
use Rattle.std.specs.Map.{lookup}
use Rattle.std.proofs.lemmas.Map.Text.{is_text}
use Rattle.std.specs.Str.{bytes_eq}
use Rattle.vars_macros.specs.Each.{Each}
use Rattle.vars_macros.specs.Names.{lower}
use Rattle.vars_macros.specs.Numbering.{NumbersAreApart}
use Rattle.vars_macros.specs.NameTable.{number_of_name, last_at, told_of, HaveSameNumbers, IsGiven, KeepsNumbers}
use Rattle.vars_macros.specs.Pieces.{IsNamedBy}
use Rattle.vars_macros.specs.declared.cut.Naming.{Naming}
use Rattle.vars_macros.specs.declared.cut.Naming.TheVariants.{Numbered, Spelled}
use Rattle.vars_macros.specs.declared.numbering.Names.{Names}

-- What is known of a call that gave a value or failed.
pub either : {X Y C : Type 0} (r : Result X Y) {A B : Type 0} → OnOk r A → OnErr r B → (A → C) → (B → C) → C
either (Ok x) ok err f g = f ok
either (Err y) ok err f g = g err

-- Lists.
pub each_push : {X : Type 0} (P : X → Type 0) (xs : List X) (x : X) → Each P xs → P x → Each P (xs ++ x ∷ [])
each_push P [] x each is zero y at = let same : x ≡ y = cc in subst P same is
each_push P [] x each is (suc k) y at = absurd cc
each_push P (z ∷ zs) x each is zero y at = each zero y at
each_push P (z ∷ zs) x each is (suc k) y at = each_push P zs x (λ j w e. each (suc j) w e) is k y at

pub each_before : {X : Type 0} (P : X → Type 0) (xs : List X) (x : X) → Each P (xs ++ x ∷ []) → Each P xs
each_before P [] x each k y at = absurd cc
each_before P (z ∷ zs) x each zero y at = each zero y at
each_before P (z ∷ zs) x each (suc k) y at = each_before P zs x (λ j w e. each (suc j) w e) k y at

pub each_last : {X : Type 0} (P : X → Type 0) (xs : List X) (x : X) → Each P (xs ++ x ∷ []) → P x
each_last P [] x each = each zero x refl
each_last P (z ∷ zs) x each = each_last P zs x (λ j w e. each (suc j) w e)

pub each_none : {X : Type 0} (P : X → Type 0) → Each P []
each_none P k y at = absurd cc

-- What a key says of a name.
pub numbered : (low : List ℕ) (o : Option ℕ) (n : ℕ) (bytes : List ℕ) → (Some n, bytes) ≡ told_of low o → o ≡ Some n
numbered low None n bytes e = let first : Some n ≡ None = ap (λ (p : Option ℕ × List ℕ). p.0) e in absurd cc
numbered low (Some m) n bytes e = sym (ap (λ (p : Option ℕ × List ℕ). p.0) e)

pub spelled : (low : List ℕ) (o : Option ℕ) (bytes : List ℕ) → (None, bytes) ≡ told_of low o → (o ≡ None) × (bytes ≡ low)
spelled low None bytes e = (refl, ap (λ (p : Option ℕ × List ℕ). p.1) e)
spelled low (Some m) bytes e = let first : None ≡ Some m = ap (λ (p : Option ℕ × List ℕ). p.0) e in absurd cc

-- The place of a name that gets the place of one assignment more.
slice_get_set : {X : Type 0} (xs : List X) (n : ℕ) (x : X) → n < length xs → slice_get (slice_set xs n x) n ≡ Some x
slice_get_set [] n x less = absurd (omega arith)
slice_get_set (y ∷ ys) zero x less = refl
slice_get_set (y ∷ ys) (suc n) x less = slice_get_set ys n x (omega arith)

slice_get_set_other : {X : Type 0} (xs : List X) (n m : ℕ) (x : X) → (m ≡ n → ⊥) → slice_get (slice_set xs n x) m ≡ slice_get xs m
slice_get_set_other [] n m x other = refl
slice_get_set_other (y ∷ ys) zero zero x other = absurd (other refl)
slice_get_set_other (y ∷ ys) zero (suc m) x other = refl
slice_get_set_other (y ∷ ys) (suc n) zero x other = refl
slice_get_set_other (y ∷ ys) (suc n) (suc m) x other = slice_get_set_other ys n m x (λ e. other (ap suc e))

same_bytes : (a b : List ℕ) → bytes_eq a b ≡ true → a ≡ b
same_bytes a b h = (bytes_eq-Decides a b).0 h

pub place_given : (number : List ℕ → Option ℕ) (places : List (Option ℕ)) (key : List ℕ) (n place : ℕ) → NumbersAreApart number (length places) →
    number key ≡ Some n → (name : List ℕ) →
    last_at (slice_set places n (Some place)) (number name) ≡ cond (bytes_eq key name) (Some place) (last_at places (number name))
place_given number places key n place apart at name = by_same (bytes_eq key name) refl (number name) refl
  where
    set : List (Option ℕ)
    set = slice_set places n (Some place)

    by_same : (same : Bool) → bytes_eq key name ≡ same → (o : Option ℕ) → number name ≡ o → last_at set o ≡ cond same (Some place) (last_at places o)
    by_same true e o is =
        let here : o ≡ Some n = sym is ∙ ap number (sym (same_bytes key name e)) ∙ at in
        ap (last_at set) here ∙ ap (λ (p : Option (Option ℕ)). unwrap_or p None) (slice_get_set places n (Some place) (apart.within key n at))
    by_same false e None is = refl
    by_same false e (Some m) is =
        ap (λ (p : Option (Option ℕ)). unwrap_or p None)
        (slice_get_set_other places n m (Some place) (λ same.
        let key_is : key ≡ name = apart.apart key name m (at ∙ ap Some (sym same)) is in
        let eq : bytes_eq key name ≡ true = (bytes_eq-Decides key name).1 key_is in
        false≢true (sym e ∙ eq)))

-- A name gets the number after all others.
pub apart_given : (before after : List ℕ → Option ℕ) (key : List ℕ) (count : ℕ) → NumbersAreApart before count → IsGiven before after key count → NumbersAreApart after (count + 1)
apart_given before after key count apart given = record {
  within = λ name n is. within_by name n (bytes_eq key name) (sym (given name) ∙ is);
  apart = λ a b n a_is b_is. apart_by a b n (bytes_eq key a) refl (bytes_eq key b) refl (sym (given a) ∙ a_is) (sym (given b) ∙ b_is);
}
  where
    within_by : (name : List ℕ) (n : ℕ) (same : Bool) → cond same (Some count) (before name) ≡ Some n → n < count + 1
    within_by name n true e = let is : count ≡ n = cc in omega (arith, is)
    within_by name n false e = omega (arith, apart.within name n e)

    apart_by : (a b : List ℕ) (n : ℕ) (x : Bool) → bytes_eq key a ≡ x → (y : Bool) → bytes_eq key b ≡ y →
        cond x (Some count) (before a) ≡ Some n → cond y (Some count) (before b) ≡ Some n → a ≡ b
    apart_by a b n true p true q e f = sym (same_bytes key a p) ∙ same_bytes key b q
    apart_by a b n true p false q e f = let is : count ≡ n = cc in absurd (omega (arith, is, apart.within b n f))
    apart_by a b n false p true q e f = let is : count ≡ n = cc in absurd (omega (arith, is, apart.within a n e))
    apart_by a b n false p false q e f = apart.apart a b n e f

-- one place more, where nothing is
place_push : (places : List (Option ℕ)) (o : Option ℕ) → last_at (places ++ None ∷ []) o ≡ last_at places o
place_push places None = refl
place_push places (Some n) = at places n
  where
    at : (ps : List (Option ℕ)) (m : ℕ) → unwrap_or (slice_get (ps ++ None ∷ []) m) None ≡ unwrap_or (slice_get ps m) None
    at [] zero = refl
    at [] (suc m) = refl
    at (p ∷ ps) zero = refl
    at (p ∷ ps) (suc m) = at ps m

no_place : (places : List (Option ℕ)) → last_at places (Some (length places)) ≡ None
no_place [] = refl
no_place (p ∷ ps) = no_place ps

pub keeps_itself : (names : Names) → KeepsNumbers names names
keeps_itself names = record { numbers = λ key n is. is; places = λ key. refl }

pub keeps_on : (a b c : Names) → KeepsNumbers a b → KeepsNumbers b c → KeepsNumbers a c
keeps_on a b c first then = record {
  numbers = λ key n is. then.numbers key n (first.numbers key n is);
  places = λ key. then.places key ∙ first.places key;
}

-- one place more alone
pub keeps_room : (old new : Names) → ((key : List ℕ) → number_of_name new key ≡ number_of_name old key) → new.last.items ≡ old.last.items ++ None ∷ [] → KeepsNumbers old new
keeps_room old new same room = record {
  numbers = λ key n is. same key ∙ is;
  places = λ key. ap (λ (ps : List (Option ℕ)). last_at ps (number_of_name new key)) room ∙ place_push old.last.items (number_of_name new key) ∙ ap (last_at old.last.items) (same key);
}

pub keeps_given : (old new : Names) (key : List ℕ) → number_of_name old key ≡ None → IsGiven (number_of_name old) (number_of_name new) key (length old.last.items) →
    new.last.items ≡ old.last.items ++ None ∷ [] → KeepsNumbers old new
keeps_given old new key none given room = record {
  numbers = λ name n is. given name ∙ by_same name n (bytes_eq key name) refl is;
  places = λ name. ap (λ (ps : List (Option ℕ)). last_at ps (number_of_name new name)) room ∙ place_push old.last.items (number_of_name new name)
      ∙ ap (last_at old.last.items) (given name) ∙ by_place name (bytes_eq key name) refl;
}
  where
    by_same : (name : List ℕ) (n : ℕ) (same : Bool) → bytes_eq key name ≡ same → number_of_name old name ≡ Some n → cond same (Some (length old.last.items)) (number_of_name old name) ≡ Some n
    by_same name n true e is =
        let never : None ≡ Some n = sym none ∙ ap (number_of_name old) (same_bytes key name e) ∙ is in absurd cc
    by_same name n false e is = is

    by_place : (name : List ℕ) (same : Bool) → bytes_eq key name ≡ same →
        last_at old.last.items (cond same (Some (length old.last.items)) (number_of_name old name)) ≡ last_at old.last.items (number_of_name old name)
    by_place name true e = no_place old.last.items ∙ ap (last_at old.last.items) (sym none ∙ ap (number_of_name old) (same_bytes key name e))
    by_place name false e = refl

-- The same numbers are below one more.
pub apart_below : (before after : List ℕ → Option ℕ) (count : ℕ) → NumbersAreApart before count → ((name : List ℕ) → after name ≡ before name) → NumbersAreApart after (count + 1)
apart_below before after count apart same = record {
  within = λ name n is. omega (arith, apart.within name n (sym (same name) ∙ is));
  apart = λ a b n a_is b_is. apart.apart a b n (sym (same a) ∙ a_is) (sym (same b) ∙ b_is);
}

-- the numbers of a table with the same entries
pub same_entries : (old new : Names) → new.numbers.entries ≡ old.numbers.entries → (key : List ℕ) → number_of_name new key ≡ number_of_name old key
same_entries old new same key = ap (lookup (is_text key)) same

-- A name that is known by one table is known by another with the same numbers.
pub named_alike : (a b : Names) (name other : List ℕ) (naming : Naming) → HaveSameNumbers a b → name ≡ other → IsNamedBy a name naming → IsNamedBy b other naming
named_alike a b name other (Numbered n) same is known = sym (same (lower other)) ∙ ap (λ (t : List ℕ). number_of_name a (lower t)) (sym is) ∙ known
named_alike a b name other (Spelled text) same is known = known ∙ is
