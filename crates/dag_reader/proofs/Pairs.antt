-- Reading a macro of a VARS line goes forward, by one byte or more.
use Rattle.std.proofs.Common.{◌≡◌, ℕ, zero, suc, ◌+◌, ◌-◌, ◌≤◌, true, false, List, [], ◌∷◌, take, drop, Option, Some, None, Result, Ok, refl, sym, ap, ◌∙◌, arith, ⊎_elim}
use Rattle.std.proofs.lemmas.Bool.{cases_Bool, false≢true}
use Rattle.std.proofs.lemmas.List.{drop-drop}
use Rattle.dag_reader.specs.declared.fault.LineFault.{LineFault}
use Rattle.dag_reader.specs.declared.command.Macro.{Macro}
use Rattle.dag_reader.specs.Word.{PlacedText}
use Rattle.dag_reader.specs.Words.{is_blank}
use Rattle.dag_reader.specs.Keywords.{begins_with}
use Rattle.dag_reader.specs.Results.{◌>>=◌}
use Rattle.dag_reader.specs.Macros.{is_macro_name, closing_quote, place_of, is_ink, ends_name}
use Rattle.dag_reader.specs.MacroReading.{Ahead, ahead, advance, skip_blanks, run_of, is_assigned, name_ahead, equals_ahead, closed_at, quoted_ahead, pair_end_ahead, pair_ahead, macro_of, macros_at}
use Rattle.dag_reader.proofs.Parts.{bind_ok, chosen, ok_is}

-- b is so many bytes after a
abbrev Behind : Ahead → Ahead → Type 0
Behind a b = (n : ℕ) × (b ≡ advance n a)

pub advance_both : (m n : ℕ) (a : Ahead) → advance n (advance m a) ≡ advance (m + n) a
advance_both m n a =
    let at : a.at + m + n ≡ a.at + (m + n) = omega arith in
    ap (λ (k : ℕ). ahead a.line k (drop n (drop m a.bytes))) at ∙ ap (ahead a.line (a.at + (m + n))) (drop-drop n m a.bytes)

then_behind : (a b c : Ahead) → Behind a b → Behind b c → Behind a c
then_behind a b c (m, e) (n, f) = (m + n, f ∙ ap (advance n) e ∙ advance_both m n a)

-- a name has a byte
pub no_empty_name : is_macro_name [] ≡ true → ⊥
unfolding is_macro_name
no_empty_name h = false≢true h

some_bytes : (n : ℕ) (bs : List ℕ) → is_macro_name (take n bs) ≡ true → 1 ≤ n
some_bytes zero bs h = absurd (no_empty_name h)
some_bytes (suc n) bs h = omega arith

abbrev Named : Ahead → Ahead → Type 0
Named a b = (n : ℕ) × (b ≡ advance n a) × (1 ≤ n)

name_goes : (a : Ahead) (x : PlacedText × Ahead) → name_ahead a ≡ Ok x → (is_macro_name (run_of a) ≡ true) × Named a x.1
unfolding name_ahead
name_goes a x e =
    ⊎_elim
    (λ yes. (yes.0, (place_of ends_name a.bytes, ap (λ (y : PlacedText × Ahead). y.1) (sym (ok_is _ x yes.1)), some_bytes _ a.bytes yes.0)))
    (λ other. absurd (let bad = other.1 in cc))
    (chosen (is_macro_name (run_of a)) _ _ (Ok x) e)

equals_goes : (a : Ahead) (x : Unit {0} × Ahead) → equals_ahead a ≡ Ok x → Behind a x.1
unfolding equals_ahead
equals_goes a x e =
    ⊎_elim
    (λ yes. then_behind a (skip_blanks a) x.1 (place_of is_ink a.bytes, refl) (1, ap (λ (y : Unit {0} × Ahead). y.1) (sym (ok_is _ x yes.1))))
    (λ other. absurd (let bad = other.1 in cc))
    (chosen (is_assigned a) _ _ (Ok x) e)

closed_goes : (a : Ahead) (o : Option ℕ) (x : PlacedText × Ahead) → closed_at o a ≡ Ok x → Behind a x.1
closed_goes a None x e = absurd cc
closed_goes a (Some n) x e = (1 + n + 1, ap (λ (y : PlacedText × Ahead). y.1) (sym (ok_is _ x e)))

quoted_goes : (a : Ahead) (x : PlacedText × Ahead) → quoted_ahead a ≡ Ok x → Behind a x.1
unfolding quoted_ahead
quoted_goes a x e =
    let b = skip_blanks a in
    ⊎_elim
    (λ (yes : (begins_with 34 b.bytes ≡ true) × (closed_at (closing_quote (drop 1 b.bytes)) b ≡ Ok x)).
    then_behind a b x.1 (place_of is_ink a.bytes, refl) (closed_goes b (closing_quote (drop 1 b.bytes)) x yes.1))
    (λ other. absurd (let bad = other.1 in cc))
    (chosen (begins_with 34 b.bytes) _ _ (Ok x) e)

pub pair_goes : (a : Ahead) (x : Macro × Ahead) → pair_ahead a ≡ Ok x → (is_macro_name (run_of a) ≡ true) × Named a x.1
unfolding pair_ahead
pair_goes a x e =
    let p = bind_ok (name_ahead a) _ x e in
    let q = bind_ok (equals_ahead p.0.1) _ x p.2 in
    let r = bind_ok (quoted_ahead q.0.1) _ x q.2 in
    let s = bind_ok (pair_end_ahead r.0.1) _ x r.2 in
    let name = name_goes a p.0 p.1 in
    let first = name.1 in
    let further = then_behind p.0.1 q.0.1 r.0.1 (equals_goes p.0.1 q.0 q.1) (quoted_goes q.0.1 r.0 r.1) in
    let end : x.1 ≡ r.0.1 = ap (λ (y : Macro × Ahead). y.1) (sym (ok_is (macro_of p.0.0 r.0.0, r.0.1) x s.2)) in
    let some = first.2 in
    (name.0, (first.0 + further.0, end ∙ further.1 ∙ ap (advance further.0) first.1 ∙ advance_both first.0 further.0 a, omega arith))

-- What is passed over doesn't matter.
pub passed_over : (line at n : ℕ) (bs : List ℕ) → macros_at line at n bs ≡ macros_at line (at + n) 0 (drop n bs)
unfolding macros_at
passed_over line at zero [] = refl
passed_over line at (suc n) [] = refl
passed_over line at zero (b ∷ bs) = let same : at ≡ at + 0 = omega arith in ap (λ (k : ℕ). macros_at line k 0 (b ∷ bs)) same
passed_over line at (suc n) (b ∷ bs) = let same : at + 1 + n ≡ at + suc n = omega arith in passed_over line (at + 1) n bs ∙ ap (λ (k : ℕ). macros_at line k 0 (drop n bs)) same

pub blanks_passed : (line at : ℕ) (bs : List ℕ) → macros_at line at 0 bs ≡ macros_at line (at + place_of is_ink bs) 0 (drop (place_of is_ink bs) bs)
unfolding macros_at
blanks_passed line at [] = refl
blanks_passed line at (b ∷ bs) =
    ⊎_elim
    (λ (blank : is_blank b ≡ true). let same : at + 1 + place_of is_ink bs ≡ at + suc (place_of is_ink bs) = omega arith in rw blank (blanks_passed line (at + 1) bs ∙ ap (λ (k : ℕ). macros_at line k 0 (drop (place_of is_ink bs) bs)) same))
    (λ (ink : is_blank b ≡ false). let same : at ≡ at + 0 = omega arith in let stays : place_of is_ink (b ∷ bs) ≡ 0 = rw ink refl in ap (λ (k : ℕ). macros_at line k 0 (b ∷ bs)) same ∙ ap (λ (k : ℕ). macros_at line (at + k) 0 (drop k (b ∷ bs))) (sym stays))
    (cases_Bool (is_blank b))

abbrev with_macro : Macro → Result (List Macro) LineFault → Result (List Macro) LineFault
with_macro m read = read >>= λ others. Ok (m ∷ others)

-- one macro is taken
pub one_taken : (line at b : ℕ) (bs : List ℕ) (m : Macro) (after : Ahead) → is_blank b ≡ false → pair_ahead (ahead line at (b ∷ bs)) ≡ Ok (m, after)
    → macros_at line at 0 (b ∷ bs) ≡ with_macro m (macros_at after.line after.at 0 after.bytes)
unfolding macros_at
one_taken line at b bs m after ink read =
    let (named, (n, is, some)) = pair_goes (ahead line at (b ∷ bs)) (m, after) read in
    let place : after.at ≡ at + n = ap (λ (x : Ahead). x.at) is in
    let count : at + 1 + (after.at - (at + 1)) ≡ after.at = omega (arith, place) in
    let whole : suc (after.at - (at + 1)) ≡ n = omega (arith, place) in
    let bytes : drop (after.at - (at + 1)) bs ≡ after.bytes = ap (λ (k : ℕ). drop k (b ∷ bs)) whole ∙ ap (λ (x : Ahead). x.bytes) (sym is) in
    rw (ink, read) (ap (with_macro m) (passed_over line (at + 1) (after.at - (at + 1)) bs ∙ ap (λ (k : ℕ). macros_at line k 0 (drop (after.at - (at + 1)) bs)) count ∙ ap (macros_at line after.at 0) bytes ∙ ap (λ (k : ℕ). macros_at k after.at 0 after.bytes) (sym (ap (λ (x : Ahead). x.line) is))))
