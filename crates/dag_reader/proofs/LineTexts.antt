-- Lines that are texts, and what the lines of a text say.
use Rattle.std.proofs.Common.{◌≡◌, ℕ, zero, suc, ◌+◌, ◌<◌, ◌≤◌, ◌⊎◌, Bool, true, false, cond, nat_eq, List, [], ◌∷◌, ◌++◌, length, take, Some, None, Result, Ok, Err, refl, sym, ap, subst, ◌∙◌, arith, inl, inr, ⊎_elim}
use Rattle.std.proofs.lemmas.Bool.{cases_Bool, eqb-true, eq-eqb, ltb-true}
use Rattle.std.proofs.lemmas.Grind.{common_steps}
use Rattle.std.proofs.lemmas.List.{take_all}
use Rattle.std.proofs.lemmas.List.Elements.{All-from_get_or, All-get_or}
use Rattle.std.proofs.lemmas.List.Sums.{position_or_len_is, fails_before_first}
use Rattle.std.proofs.lemmas.Str.{IsUtf8-nil, IsUtf8-from_is_utf8, utf8_valid_len_le, utf8_valid_len-IsUtf8}
use Rattle.std.specs.List.{All, position, position_or_len}
use Rattle.std.specs.Option.{option_to_list}
use Rattle.std.specs.Prelude.{unwrap_or, nat_lt, IfOk, IfErr}
use Rattle.std.specs.Str.{IsUtf8, is_utf8}
use Rattle.std.specs.Str.Lossy.{utf8_valid_len, valid_len_up_to}
use Rattle.dag_reader.specs.declared.fault.LineFault.{LineFault}
use Rattle.dag_reader.specs.declared.fault.ReadFault.{ReadFault}
use Rattle.dag_reader.specs.declared.fault.ReadFault.TheVariants as faults
use Rattle.dag_reader.specs.declared.command.Command.{Command}
use Rattle.dag_reader.specs.Lines.{is_control, text_len}
use Rattle.dag_reader.specs.Reading.{◌>>=◌, text_of, line_at, lines_at, Fails, Gives}
use Rattle.dag_reader.specs.Grammar.{SayAll, IsFirstBad}
use Rattle.dag_reader.proofs.Parts.{bind_ok, chosen, ok_is}

-- Texts.
-- not too many bytes, UTF-8, without control characters
pub record IsText (bytes : List ℕ) : Type 0 where
  pub fits : length bytes ≤ 65536
  pub utf8 : IsUtf8 bytes
  pub clear : All (λ b. is_control b ≡ false) bytes

at_most : (bs : List ℕ) (m : ℕ) → valid_len_up_to bs m ≤ m
at_most bs zero = omega arith
at_most bs (suc m) =
    let below = at_most bs m in
    ⊎_elim
    (λ yes. let e : valid_len_up_to bs (suc m) ≡ suc m = rw yes refl in omega arith)
    (λ other. let e : valid_len_up_to bs (suc m) ≡ valid_len_up_to bs m = rw other refl in omega arith)
    (cases_Bool (is_utf8 (take (suc m) bs)))

whole_utf8 : (bs : List ℕ) → utf8_valid_len bs ≡ length bs → IsUtf8 bs
unfolding utf8_valid_len
whole_utf8 [] e = IsUtf8-nil
whole_utf8 (b ∷ bs) e =
    let m = length bs in
    ⊎_elim
    (λ yes. let same : take (suc m) (b ∷ bs) ≡ b ∷ bs = take_all (suc m) (b ∷ bs) (omega arith) in subst IsUtf8 same (IsUtf8-from_is_utf8 _ yes))
    (λ other.
    let f : valid_len_up_to (b ∷ bs) (suc m) ≡ valid_len_up_to (b ∷ bs) m = rw other refl in
    let le = at_most (b ∷ bs) m in
    let g : valid_len_up_to (b ∷ bs) m ≡ suc m = sym f ∙ e in
    absurd (omega arith))
    (cases_Bool (is_utf8 (take (suc m) (b ∷ bs))))

clear_from : (bs : List ℕ) → length bs ≤ position_or_len is_control bs → All (λ b. is_control b ≡ false) bs
clear_from bs le = All-from_get_or (λ b. is_control b ≡ false) bs 0 (λ i lt. fails_before_first is_control bs i 0 (omega arith))

text_len_ok : (bs : List ℕ) → text_len bs ≡ length bs → IsUtf8 bs × All (λ b. is_control b ≡ false) bs
unfolding text_len
text_len_ok bs e =
    let v = utf8_valid_len bs in
    let front = take v bs in
    let p = position_or_len is_control front in
    let within = utf8_valid_len_le bs in
    let len : length front ≡ v = grind (arith, common_steps) in
    ⊎_elim
    (λ yes.
    let stops : text_len bs ≡ p = ap (λ (b : Bool). unwrap_or (cond b (Some p) None) v) yes in
    let lt : p < length front = ltb-true p (length front) yes in
    absurd (omega arith))
    (λ other.
    let goes : text_len bs ≡ v = ap (λ (b : Bool). unwrap_or (cond b (Some p) None) v) other in
    let all : v ≡ length bs = sym goes ∙ e in
    let same : front ≡ bs = take_all v bs (omega arith) in
    let le : length front ≤ p = grind (arith, other) in
    (whole_utf8 bs all, subst (All (λ b. is_control b ≡ false)) same (clear_from front le)))
    (cases_Bool (nat_lt p (length front)))

text_len_again : (bs : List ℕ) → IsUtf8 bs → All (λ b. is_control b ≡ false) bs → text_len bs ≡ length bs
unfolding text_len
text_len_again bs utf8 clear =
    let n = length bs in
    let valid : utf8_valid_len bs ≡ n = utf8_valid_len-IsUtf8 bs utf8 in
    let F = λ (v : ℕ). unwrap_or (position is_control (take v bs)) v in
    let G = λ (xs : List ℕ). unwrap_or (position is_control xs) n in
    let P = λ (k : ℕ). unwrap_or (cond (nat_lt k n) (Some k) None) n in
    let whole : take n bs ≡ bs = take_all n bs (omega arith) in
    let at_end : position_or_len is_control bs ≡ n = position_or_len_is is_control bs n 0 (omega arith) (λ k lt. All-get_or (λ b. is_control b ≡ false) bs k 0 lt clear) (λ lt. absurd (omega arith)) in
    let past : nat_lt n n ≡ false = grind arith in
    let last : P n ≡ n = rw past refl in
    ap F valid ∙ ap G whole ∙ ap P at_end ∙ last

pub text_ok : (number : ℕ) (bytes t : List ℕ) → text_of number bytes ≡ Ok t → (bytes ≡ t) × IsText bytes
unfolding text_of
text_ok number bytes t e =
    ⊎_elim
    (λ yes. absurd (let bad = yes.1 in cc))
    (λ short. ⊎_elim
    (λ yes.
    let parts = text_len_ok bytes (eqb-true _ _ yes.0) in
    let test = short.0 in
    let fits : length bytes ≤ 65536 = grind (arith, test) in
    (ok_is bytes t yes.1, record { fits = fits; utf8 = parts.0; clear = parts.1 }))
    (λ other. absurd (let bad = other.1 in cc))
    (chosen (nat_eq (text_len bytes) (length bytes)) _ _ (Ok t) short.1))
    (chosen (nat_lt 65536 (length bytes)) _ _ (Ok t) e)

pub text_again : (number : ℕ) (bytes : List ℕ) → IsText bytes → text_of number bytes ≡ Ok bytes
unfolding text_of
text_again number bytes is =
    let fits = is.fits in
    let short : nat_lt 65536 (length bytes) ≡ false = grind arith in
    let whole : nat_eq (text_len bytes) (length bytes) ≡ true = eq-eqb _ _ (text_len_again bytes is.utf8 is.clear) in
    rw (short, whole) refl

-- What lines say.
pub lines_ok : (number : ℕ) (ls : List (List ℕ)) (cs : List Command) → lines_at number ls ≡ Ok cs → SayAll number ls cs
unfolding lines_at
lines_ok number [] cs e = sym (ok_is [] cs e)
lines_ok number (line ∷ more) cs e =
    let p = bind_ok (line_at number line) _ cs e in
    let q = bind_ok (lines_at (number + 1) more) _ cs p.2 in
    (p.0, q.0, p.1, lines_ok (number + 1) more q.0 q.1, sym (ok_is (option_to_list p.0 ++ q.0) cs q.2))

pub lines_again : (number : ℕ) (ls : List (List ℕ)) (cs : List Command) → SayAll number ls cs → lines_at number ls ≡ Ok cs
unfolding lines_at
lines_again number [] cs none = ap (λ (xs : List Command). Ok xs) (sym none)
lines_again number (line ∷ more) cs (first, others, one, all, is) =
    rw (one, lines_again (number + 1) more others all) (ap (λ (xs : List Command). Ok xs) (sym is))

-- where reading stops
abbrev StopsAt : ℕ → List (List ℕ) → LineFault → Type 0
StopsAt number ls f = (front : List (List ℕ)) × (line : List ℕ) × (back : List (List ℕ)) × (cs : List Command)
    × (ls ≡ front ++ line ∷ back) × SayAll number front cs × (line_at (number + length front) line ≡ Err f)

bind_err : {A B : Type 0} (r : Result A LineFault) (k : A → Result B LineFault) (f : LineFault) → (r >>= k) ≡ Err f → (r ≡ Err f) ⊎ ((x : A) × (r ≡ Ok x) × (k x ≡ Err f))
bind_err (Ok x) k f e = inr (x, refl, e)
bind_err (Err d) k f e = inl (let same : d ≡ f = cc in ap (λ (g : LineFault). Err g) same)

stops : (number : ℕ) (ls : List (List ℕ)) (f : LineFault) → lines_at number ls ≡ Err f → StopsAt number ls f
unfolding lines_at
stops number [] f e = absurd cc
stops number (line ∷ more) f e =
    ⊎_elim
    (λ here. let at : number ≡ number + 0 = omega arith in ([], line, more, [], refl, refl, ap (λ (n : ℕ). line_at n line) (sym at) ∙ here))
    (λ p. ⊎_elim
    (λ below.
    let s = stops (number + 1) more f below in
    let at : number + suc (length s.0) ≡ number + 1 + length s.0 = omega arith in
    (line ∷ s.0, s.1, s.2, option_to_list p.0 ++ s.3, ap (λ (xs : List (List ℕ)). line ∷ xs) s.4, (p.0, s.3, p.1, s.5, refl), ap (λ (n : ℕ). line_at n s.1) at ∙ s.6))
    (λ q. absurd (let bad = q.2 in cc))
    (bind_err (lines_at (number + 1) more) _ f p.2))
    (bind_err (line_at number line) _ f e)

pub is_first_bad : (ls : List (List ℕ)) (e : ReadFault) → Fails e (lines_at 1 ls) → IsFirstBad ls e
is_first_bad ls faults.Memory h = tt
is_first_bad ls (faults.Line f) h = stops 1 ls f h

-- What a call that gives what reading gives has found, or why it stopped.
pub is_found : {X : Type 0} (view : X → List Command) (ls : List (List ℕ)) (r : Result X ReadFault) → Gives view r (lines_at 1 ls) → IfOk r (λ x. SayAll 1 ls (view x))
is_found view ls (Ok x) h = lines_ok 1 ls (view x) h
is_found view ls (Err e) h = tt

pub is_stopped : {X : Type 0} (view : X → List Command) (ls : List (List ℕ)) (r : Result X ReadFault) → Gives view r (lines_at 1 ls) → IfErr r (λ e. IsFirstBad ls e)
is_stopped view ls (Ok x) h = tt
is_stopped view ls (Err e) h = is_first_bad ls e h
