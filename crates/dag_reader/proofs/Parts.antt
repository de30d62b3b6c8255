-- What the steps of a reading have in common.
use Rattle.std.proofs.Common.{◌≡◌, ℕ, ◌⊎◌, Bool, true, false, cond, List, [], ◌∷◌, Some, Result, Ok, Err, refl, sym, subst, ◌∙◌, inl, inr, ⊎_elim}
use Rattle.std.proofs.lemmas.Bool.{cases_Bool, false≢true}
use Rattle.std.proofs.lemmas.Slice.Eq.{bytes_eq-Decides}
use Rattle.std.specs.Str.{bytes_eq, str_to_ascii_lowercase}
use Rattle.dag_reader.specs.declared.fault.LineFault.{LineFault}
use Rattle.std.specs.List.{AllByRecursion, find}
use Rattle.dag_reader.specs.declared.layout.LineKind.{LineKind}
use Rattle.dag_reader.specs.Word.{PlacedText}
use Rattle.dag_reader.specs.Keywords.{is_keyword}
use Rattle.dag_reader.specs.Reading.{◌>>=◌}

-- the value of a step that did not fail
pub bind_ok : {A B : Type 0} (r : Result A LineFault) (f : A → Result B LineFault) (y : B) → (r >>= f) ≡ Ok y → (x : A) × (r ≡ Ok x) × (f x ≡ Ok y)
bind_ok (Ok x) f y e = (x, refl, e)
bind_ok (Err d) f y e = absurd cc

-- which way a test went
pub chosen : {A : Type 0} (b : Bool) (x y z : A) → cond b x y ≡ z → ((b ≡ true) × (x ≡ z)) ⊎ ((b ≡ false) × (y ≡ z))
chosen true x y z e = inl (refl, e)
chosen false x y z e = inr (refl, e)

abbrev got : {A : Type 0} → A → Result A LineFault
got x = Ok x

pub ok_is : {A : Type 0} (x y : A) → got x ≡ got y → x ≡ y
ok_is x y e = cc

-- a test that did not fail
pub guard_ok : {A : Type 0} (b : Bool) (d : LineFault) (x y : A) → cond b (Ok x) (Err d) ≡ Ok y → (b ≡ true) × (x ≡ y)
guard_ok true d x y e = (refl, cc)
guard_ok false d x y e = absurd cc

-- A word is one keyword alone.
pub one_keyword : (k l : List ℕ) (w : PlacedText) → is_keyword k w ≡ true → bytes_eq (str_to_ascii_lowercase k) (str_to_ascii_lowercase l) ≡ false → is_keyword l w ≡ false
unfolding is_keyword
one_keyword k l w h differ =
    ⊎_elim
    (λ yes.
    let a = (bytes_eq-Decides (str_to_ascii_lowercase w.text) (str_to_ascii_lowercase k)).0 h in
    let b = (bytes_eq-Decides (str_to_ascii_lowercase w.text) (str_to_ascii_lowercase l)).0 yes in
    absurd (false≢true (sym differ ∙ (bytes_eq-Decides (str_to_ascii_lowercase k) (str_to_ascii_lowercase l)).1 (sym a ∙ b))))
    (λ other. other)
    (cases_Bool (is_keyword l w))

-- The kind of a line is one of the table, and has what each of the table has.
some_is : (a b : LineKind) → Some a ≡ Some b → a ≡ b
some_is a b e = cc

pub found : (P : LineKind → Type 0) (p : LineKind → Bool) (kinds : List LineKind) (kind : LineKind) → AllByRecursion P kinds → find p kinds ≡ Some kind → (p kind ≡ true) × P kind
found P p [] kind all e = absurd cc
found P p (k ∷ ks) kind (here, more) e =
    ⊎_elim
    (λ yes. subst (λ (x : LineKind). (p x ≡ true) × P x) (some_is k kind yes.1) (yes.0, here))
    (λ no. found P p ks kind more no.1)
    (chosen (p k) (Some k) (find p ks) (Some kind) e)
