-- The steps of the reader of macros.
use Rattle.std.proofs.Common.{◌≡◌, ℕ, suc, ◌+◌, ◌-◌, ◌<◌, ◌≤◌, Bool, true, false, cond, not, ◌||◌, nat_eq, min, List, [], ◌∷◌, ◌++◌, length, take, drop, get_or, Option, Some, None, Result, Ok, Err, refl, sym, ap, subst, ◌∙◌, append_assoc, arith, length-append, length-drop, add-one, drop-cons, ⊎_elim}
use Rattle.std.proofs.lemmas.Bool.{cases_Bool, cases_lt, false≢true, eqb-true}
use Rattle.std.proofs.lemmas.Grind.{common_steps}
use Rattle.std.proofs.lemmas.List.{append-nil, drop-drop}
use Rattle.std.proofs.Math.Seq.{get_or-append_seam}
use Rattle.std.proofs.lemmas.Str.{IsCharBoundary-after_ascii, IsCharBoundary-before_ascii, IsCharBoundary-end}
use Rattle.std.specs.Option.{option_map}
use Rattle.std.specs.Str.{IsUtf8, IsCharBoundary}
use Rattle.dag_reader.specs.declared.fault.LineFault.{LineFault}
use Rattle.dag_reader.specs.declared.fault.LineFault.TheVariants.{BadQuote}
use Rattle.dag_reader.specs.declared.command.Macro.{Macro}
use Rattle.dag_reader.specs.Word.{placed}
use Rattle.dag_reader.specs.Words.{is_blank}
use Rattle.dag_reader.specs.Keywords.{begins_with}
use Rattle.dag_reader.specs.Results.{◌>>=◌}
use Rattle.dag_reader.specs.Macros.{is_macro_start, is_macro_name, begins_escape, closing_quote, unquoted, place_of, is_ink, ends_name, is_backslash}
use Rattle.dag_reader.specs.MacroReading.{Ahead, ahead, advance, skip_blanks, here, here_at, has_bytes, run_of, equals_ahead, closed_at, opened_at, quoted_ahead, pair_ahead, macros_at, macros_ahead, bytes_span}
use Rattle.dag_reader.proofs.Bytes.{Stops, stops_at_place, closing_ok, and_both, unquoted_piece, unquoted_escape}
use Rattle.dag_reader.proofs.Pairs.{no_empty_name, blanks_passed, pair_goes, one_taken}

-- Places in the text.
nothing_left : (t : List ℕ) (at : ℕ) → length t ≤ at → drop at t ≡ []
nothing_left t at le = grind (arith, common_steps)

byte_left : (t : List ℕ) (at : ℕ) → at < length t → drop at t ≡ get_or t at 0 ∷ drop (at + 1) t
byte_left t at lt = rw add-one (drop-cons t at 0 lt)

pub here_is : (line at : ℕ) (t : List ℕ) → at ≤ length t → bytes_span line at (min (at + 1) (length t)) ≡ here (ahead line at (drop at t))
here_is line at t within =
    ⊎_elim
    (λ (more : at < length t).
    let stop : min (at + 1) (length t) ≡ at + 1 = omega arith in
    ap (bytes_span line at) stop ∙ sym (ap (here_at line at) (byte_left t at more)))
    (λ (none : length t ≤ at).
    let stop : min (at + 1) (length t) ≡ at = omega arith in
    ap (bytes_span line at) stop ∙ sym (ap (here_at line at) (nothing_left t at none)))
    (cases_lt at (length t))

pub advance_text : (line at n : ℕ) (t : List ℕ) → advance n (ahead line at (drop at t)) ≡ ahead line (at + n) (drop (at + n) t)
advance_text line at n t = ap (ahead line (at + n)) (drop-drop n at t)

pub begins_at : (t : List ℕ) (at b : ℕ) → begins_with b (drop at t) ≡ true → (at < length t) × (get_or t at 0 ≡ b)
begins_at t at b h =
    ⊎_elim
    (λ (more : at < length t). (more, eqb-true (get_or t at 0) b (sym (ap (begins_with b) (byte_left t at more)) ∙ h)))
    (λ (none : length t ≤ at). absurd (false≢true (sym (ap (begins_with b) (nothing_left t at none)) ∙ h)))
    (cases_lt at (length t))

pub stop_boundary : (p : ℕ → Bool) (t : List ℕ) (at : ℕ) → ((b : ℕ) → p b ≡ true → b < 128) → at ≤ length t → Stops p (drop at t) → IsCharBoundary t at
stop_boundary p t at ascii within stops =
    ⊎_elim
    (λ (more : at < length t). IsCharBoundary-before_ascii t at more (ascii (get_or t at 0) (subst (Stops p) (byte_left t at more) stops)))
    (λ (none : length t ≤ at). let e : length t ≡ at = omega arith in subst (IsCharBoundary t) e (IsCharBoundary-end t))
    (cases_lt at (length t))

pub ends_name_ascii : (b : ℕ) → ends_name b ≡ true → b < 128
ends_name_ascii b h = grind arith

pub backslash_ascii : (b : ℕ) → is_backslash b ≡ true → b < 128
backslash_ascii b h = let e : b ≡ 92 = eqb-true b 92 h in omega arith

start_ascii : (b : ℕ) → is_macro_start b ≡ true → b < 128
start_ascii b h = grind arith

-- Names.
place_zero : (x : ℕ) (more : List ℕ) → ends_name x ≡ true → place_of ends_name (x ∷ more) ≡ 0
place_zero x more h = rw h refl

place_later : (x : ℕ) (more : List ℕ) → ends_name x ≡ false → place_of ends_name (x ∷ more) ≡ suc (place_of ends_name more)
place_later x more h = rw h refl

-- a name begins with a letter, an underscore or a plus
starts : (t : List ℕ) → is_macro_name t ≡ true → (b : ℕ) × (bs : List ℕ) × (t ≡ b ∷ bs) × (is_macro_start b ≡ true)
unfolding is_macro_name
starts [] h = absurd (false≢true h)
starts (b ∷ bs) h = (b, bs, refl, (and_both (is_macro_start b) _ h).0)

first_of_run : (x b : ℕ) (bs more : List ℕ) → take (place_of ends_name (x ∷ more)) (x ∷ more) ≡ b ∷ bs → x ≡ b
first_of_run x b bs more e =
    ⊎_elim
    (λ (yes : ends_name x ≡ true). absurd (let none : [] ≡ b ∷ bs = sym (ap (λ (n : ℕ). take n (x ∷ more)) (place_zero x more yes)) ∙ e in cc))
    (λ (other : ends_name x ≡ false). let some : x ∷ take (place_of ends_name more) more ≡ b ∷ bs = sym (ap (λ (n : ℕ). take n (x ∷ more)) (place_later x more other)) ∙ e in cc)
    (cases_Bool (ends_name x))

pub name_starts_at : (t : List ℕ) (line at : ℕ) → is_macro_name (run_of (ahead line at (drop at t))) ≡ true → at ≤ length t → IsCharBoundary t at
name_starts_at t line at named within =
    let run = run_of (ahead line at (drop at t)) in
    let (b, bs, shape, start) = starts run named in
    ⊎_elim
    (λ (more : at < length t).
    let first : get_or t at 0 ≡ b = first_of_run (get_or t at 0) b bs (drop (at + 1) t) (ap (λ (xs : List ℕ). run_of (ahead line at xs)) (sym (byte_left t at more)) ∙ shape) in
    let ascii : b < 128 = start_ascii b start in
    IsCharBoundary-before_ascii t at more (omega arith))
    (λ (none : length t ≤ at). let e : length t ≡ at = omega arith in subst (IsCharBoundary t) e (IsCharBoundary-end t))
    (cases_lt at (length t))

-- Equals signs.
abbrev given : Ahead → Result (Unit {0} × Ahead) LineFault
given a = Ok (tt, a)

pub equals_is : (a b c : Ahead) → skip_blanks a ≡ b → begins_with 61 b.bytes ≡ true → advance 1 b ≡ c → equals_ahead a ≡ Ok (tt, c)
unfolding equals_ahead
equals_is a b c skips is after =
    ap (λ (x : Ahead). cond (begins_with 61 x.bytes) (given (advance 1 x)) (Err (BadQuote (here x)))) skips ∙ rw is (ap given after)

-- Texts.
pub quoted_is : (a b : Ahead) (n : ℕ) → skip_blanks a ≡ b → begins_with 34 b.bytes ≡ true → closing_quote (drop 1 b.bytes) ≡ Some n
    → quoted_ahead a ≡ Ok (placed (take n (drop 1 b.bytes)) (bytes_span b.line b.at (b.at + 1 + n + 1)), advance (1 + n + 1) b)
unfolding quoted_ahead
quoted_is a b n skips begins closes = ap opened_at skips ∙ rw begins (ap (λ (o : Option ℕ). closed_at o b) closes)

pub quoted_open : (a b : Ahead) → skip_blanks a ≡ b → begins_with 34 b.bytes ≡ true → closing_quote (drop 1 b.bytes) ≡ None → quoted_ahead a ≡ Err (BadQuote (here b))
unfolding quoted_ahead
quoted_open a b skips begins closes = ap opened_at skips ∙ rw begins (ap (λ (o : Option ℕ). closed_at o b) closes)

within_text : (t : List ℕ) (start n : ℕ) → n < length (drop start t) → start + n < length t
within_text t start n lt = grind (arith, common_steps)

byte_of_rest : (t : List ℕ) (start n : ℕ) → get_or (drop start t) n 0 ≡ get_or t (start + n) 0
byte_of_rest t start n = grind (arith, common_steps)

quote_len : (n : ℕ) (bs : List ℕ) → length (take n bs) + suc (length (drop (suc n) bs)) ≡ length bs → length (take n bs) ≡ n
quote_len n bs e = grind (arith, common_steps)

pub closing_byte : (t : List ℕ) (start n : ℕ) → closing_quote (drop start t) ≡ Some n → (start + n < length t) × (get_or t (start + n) 0 ≡ 34)
closing_byte t start n closes =
    let bs = drop start t in
    let shape = closing_ok bs n closes in
    let back = drop (suc n) bs in
    let total : length bs ≡ length (take n bs) + suc (length back) = simp length-append at (ap length shape) in
    let len : length (take n bs) ≡ n = quote_len n bs (sym total) in
    let within : start + n < length t = within_text t start n (omega arith) in
    let byte : get_or bs n 0 ≡ 34 = ap (λ (k : ℕ). get_or bs k 0) (sym len) ∙ ap (λ (xs : List ℕ). get_or xs (length (take n bs)) 0) shape ∙ get_or-append_seam (take n bs) 34 back 0 in
    (within, sym (byte_of_rest t start n) ∙ byte)

-- Looking for the closing quote.
pub from_start : (o : Option ℕ) → o ≡ option_map (λ (n : ℕ). 0 + n) o
from_start None = refl
from_start (Some n) = let same : n ≡ 0 + n = omega arith in ap (λ (k : ℕ). Some k) same

abbrev pub LeftToClose : List ℕ → ℕ → Type 0
LeftToClose bs at = (at ≤ length bs) × (closing_quote bs ≡ option_map (λ (n : ℕ). at + n) (closing_quote (drop at bs)))

quote_first : (bs : List ℕ) → closing_quote (34 ∷ bs) ≡ Some 0
quote_first [] = refl
quote_first (b ∷ bs) = refl

pub found_quote : (bs : List ℕ) (at : ℕ) → LeftToClose bs at → at < length bs → get_or bs at 0 ≡ 34 → Some at ≡ closing_quote bs
found_quote bs at inv lt is =
    let here : closing_quote (drop at bs) ≡ Some 0 = ap closing_quote (byte_left bs at lt ∙ ap (λ (b : ℕ). b ∷ drop (at + 1) bs) is) ∙ quote_first (drop (at + 1) bs) in
    let same : at + 0 ≡ at = omega arith in
    sym (inv.1 ∙ ap (option_map (λ (n : ℕ). at + n)) here ∙ ap (λ (k : ℕ). Some k) same)

two_bytes : (xs : List ℕ) → begins_escape xs ≡ true → (2 ≤ length xs) × (closing_quote xs ≡ option_map (λ (n : ℕ). suc (suc n)) (closing_quote (drop 2 xs)))
two_bytes [] h = absurd (false≢true h)
two_bytes (b ∷ []) h = absurd (false≢true h)
two_bytes (b ∷ c ∷ bs) h =
    let slash : b ≡ 92 = eqb-true b 92 (and_both (nat_eq b 92) (nat_eq c 34 || nat_eq c 92) h).0 in
    let differs : nat_eq b 34 ≡ false = ap (λ (x : ℕ). nat_eq x 34) slash in
    (omega arith, rw (differs, h) refl)

one_byte : (b : ℕ) (xs : List ℕ) → begins_escape (b ∷ xs) ≡ false → nat_eq b 34 ≡ false → closing_quote (b ∷ xs) ≡ option_map (λ (n : ℕ). suc n) (closing_quote xs)
one_byte b [] h differs = rw differs refl
one_byte b (c ∷ bs) h differs = rw (differs, h) refl

mapped_twice : (at : ℕ) (o : Option ℕ) → option_map (λ (n : ℕ). at + n) (option_map (λ (n : ℕ). suc (suc n)) o) ≡ option_map (λ (n : ℕ). at + 2 + n) o
mapped_twice at None = refl
mapped_twice at (Some n) = let same : at + suc (suc n) ≡ at + 2 + n = omega arith in ap (λ (k : ℕ). Some k) same

mapped_once : (at : ℕ) (o : Option ℕ) → option_map (λ (n : ℕ). at + n) (option_map (λ (n : ℕ). suc n) o) ≡ option_map (λ (n : ℕ). at + 1 + n) o
mapped_once at None = refl
mapped_once at (Some n) = let same : at + suc n ≡ at + 1 + n = omega arith in ap (λ (k : ℕ). Some k) same

two_within : (bs : List ℕ) (at : ℕ) → at ≤ length bs → 2 ≤ length (drop at bs) → at + 2 ≤ length bs
two_within bs at le two = grind (arith, common_steps)

pub escape_passed : (bs : List ℕ) (at : ℕ) → LeftToClose bs at → begins_escape (drop at bs) ≡ true → LeftToClose bs (at + 2)
escape_passed bs at inv h =
    let p = two_bytes (drop at bs) h in
    let within : at + 2 ≤ length bs = two_within bs at inv.0 p.0 in
    (within, inv.1 ∙ ap (option_map (λ (n : ℕ). at + n)) (p.1 ∙ ap (λ (xs : List ℕ). option_map (λ (n : ℕ). suc (suc n)) (closing_quote xs)) (drop-drop 2 at bs)) ∙ mapped_twice at (closing_quote (drop (at + 2) bs)))

pub byte_passed : (bs : List ℕ) (at : ℕ) → LeftToClose bs at → at < length bs → begins_escape (drop at bs) ≡ false → nat_eq (get_or bs at 0) 34 ≡ false → LeftToClose bs (at + 1)
byte_passed bs at inv lt h differs =
    let shape = byte_left bs at lt in
    let plain : begins_escape (get_or bs at 0 ∷ drop (at + 1) bs) ≡ false = ap begins_escape (sym shape) ∙ h in
    (omega arith, inv.1 ∙ ap (option_map (λ (n : ℕ). at + n)) (ap closing_quote shape ∙ one_byte (get_or bs at 0) (drop (at + 1) bs) plain differs) ∙ mapped_once at (closing_quote (drop (at + 1) bs)))

-- Pieces of a text without their escapes.
piece_from : (q : List ℕ) (start end : ℕ) → start < length q → end ≡ start + 1 + place_of is_backslash (drop (start + 1) q)
    → (take (suc (place_of is_backslash (drop (start + 1) q))) (get_or q start 0 ∷ drop (start + 1) q) ≡ take (end - start) (drop start q))
    × (drop (suc (place_of is_backslash (drop (start + 1) q))) (get_or q start 0 ∷ drop (start + 1) q) ≡ drop end q)
piece_from q start end lt e =
    let k = place_of is_backslash (drop (start + 1) q) in
    let shape = byte_left q start lt in
    let count : suc k ≡ end - start = omega arith in
    let there : start + suc k ≡ end = omega arith in
    (ap (take (suc k)) (sym shape) ∙ ap (λ (n : ℕ). take n (drop start q)) count, ap (drop (suc k)) (sym shape) ∙ drop-drop (suc k) start q ∙ ap (λ (n : ℕ). drop n q) there)

abbrev pub PieceAt : List ℕ → ℕ → ℕ → ℕ → Type 0
PieceAt q at start end = unquoted (drop at q) ≡ take (end - start) (drop start q) ++ unquoted (drop end q)

pub plain_piece : (q : List ℕ) (at end : ℕ) → at < length q → begins_escape (drop at q) ≡ false → end ≡ at + 1 + place_of is_backslash (drop (at + 1) q) → PieceAt q at at end
plain_piece q at end lt h e =
    let shape = byte_left q at lt in
    let p = piece_from q at end lt e in
    let plain : begins_escape (get_or q at 0 ∷ drop (at + 1) q) ≡ false = ap begins_escape (sym shape) ∙ h in
    ap unquoted shape ∙ unquoted_piece (get_or q at 0) (drop (at + 1) q) plain ∙ ap (λ (xs : List ℕ). xs ++ unquoted (drop (suc (place_of is_backslash (drop (at + 1) q))) (get_or q at 0 ∷ drop (at + 1) q))) p.0 ∙ ap (λ (xs : List ℕ). take (end - at) (drop at q) ++ unquoted xs) p.1

pub escaped_within : (q : List ℕ) (at : ℕ) → at < length q → begins_escape (drop at q) ≡ true → at + 2 ≤ length q
escaped_within q at lt h = two_within q at (omega arith) (two_bytes (drop at q) h).0

pub escaped_piece : (q : List ℕ) (at end : ℕ) → at < length q → begins_escape (drop at q) ≡ true → end ≡ at + 1 + 1 + place_of is_backslash (drop (at + 1 + 1) q) → PieceAt q at (at + 1) end
escaped_piece q at end lt h e =
    let within = escaped_within q at lt h in
    let next : at + 1 < length q = omega arith in
    let shape : drop at q ≡ get_or q at 0 ∷ get_or q (at + 1) 0 ∷ drop (at + 1 + 1) q = byte_left q at lt ∙ ap (λ (xs : List ℕ). get_or q at 0 ∷ xs) (byte_left q (at + 1) next) in
    let p = piece_from q (at + 1) end next e in
    let c = get_or q (at + 1) 0 in
    let bs = drop (at + 1 + 1) q in
    let escape : begins_escape (get_or q at 0 ∷ c ∷ bs) ≡ true = ap begins_escape (sym shape) ∙ h in
    ap unquoted shape ∙ unquoted_escape (get_or q at 0) c bs escape ∙ ap (λ (xs : List ℕ). xs ++ unquoted (drop (suc (place_of is_backslash bs)) (c ∷ bs))) p.0 ∙ ap (λ (xs : List ℕ). take (end - (at + 1)) (drop (at + 1) q) ++ unquoted xs) p.1

first_slash : (b : ℕ) (bs : List ℕ) → begins_escape (b ∷ bs) ≡ true → b ≡ 92
first_slash b [] h = absurd (false≢true h)
first_slash b (c ∷ bs) h = eqb-true b 92 (and_both (nat_eq b 92) (nat_eq c 34 || nat_eq c 92) h).0

pub after_backslash : (q : List ℕ) (at : ℕ) → IsUtf8 q → at < length q → begins_escape (drop at q) ≡ true → IsCharBoundary q (at + 1)
after_backslash q at utf8 lt h =
    let slash : get_or q at 0 ≡ 92 = first_slash (get_or q at 0) (drop (at + 1) q) (ap begins_escape (sym (byte_left q at lt)) ∙ h) in
    IsCharBoundary-after_ascii q at utf8 lt (omega arith)

-- The loop over macros.
abbrev pub with_macros : List Macro → Result (List Macro) LineFault → Result (List Macro) LineFault
with_macros front read = read >>= λ more. Ok (front ++ more)

pub end_boundary : (q : List ℕ) (from end : ℕ) → end ≡ from + place_of is_backslash (drop from q) → end ≤ length q → IsCharBoundary q end
end_boundary q from end e within =
    let n = place_of is_backslash (drop from q) in
    stop_boundary is_backslash q end backslash_ascii within (subst (Stops is_backslash) (drop-drop n from q ∙ ap (λ (k : ℕ). drop k q) (sym e)) (stops_at_place is_backslash (drop from q)))

skip_keeps : (a b : Ahead) → skip_blanks a ≡ b → macros_ahead a ≡ macros_ahead b
skip_keeps a b skips = blanks_passed a.line a.at a.bytes ∙ ap macros_ahead skips

regroup : (front : List Macro) (m : Macro) (read : Result (List Macro) LineFault) → with_macros front (read >>= λ others. Ok (m ∷ others)) ≡ with_macros (front ++ m ∷ []) read
regroup front m (Ok xs) = ap (λ (ms : List Macro). Ok ms) (simp append_assoc)
regroup front m (Err f) = refl

not_blank : (x : ℕ) → is_ink x ≡ true → is_blank x ≡ false
not_blank x h = ⊎_elim (λ (yes : is_blank x ≡ true). absurd (false≢true (sym (ap not yes) ∙ h))) (λ other. other) (cases_Bool (is_blank x))

-- after blanks
ink_next : (a b : Ahead) → skip_blanks a ≡ b → Stops is_ink b.bytes
ink_next a b skips = subst (λ (x : Ahead). Stops is_ink x.bytes) skips (stops_at_place is_ink a.bytes)

one_read : (b : Ahead) (bytes : List ℕ) (after : Ahead) (m : Macro) → b.bytes ≡ bytes → Stops is_ink bytes → pair_ahead b ≡ Ok (m, after) → macros_ahead b ≡ (macros_ahead after >>= λ others. Ok (m ∷ others))
one_read b [] after m e stops read = absurd (no_empty_name (ap (λ (bs : List ℕ). is_macro_name (take (place_of ends_name bs) bs)) (sym e) ∙ (pair_goes b (m, after) read).0))
one_read b (x ∷ xs) after m e stops read =
    ap (macros_at b.line b.at 0) e ∙ one_taken b.line b.at x xs m after (not_blank x stops) (ap (λ (bs : List ℕ). pair_ahead (ahead b.line b.at bs)) (sym e) ∙ read)

pub macro_step : (front : List Macro) (m : Macro) (a b after : Ahead) → skip_blanks a ≡ b → pair_ahead b ≡ Ok (m, after) → with_macros front (macros_ahead a) ≡ with_macros (front ++ m ∷ []) (macros_ahead after)
macro_step front m a b after skips read = ap (with_macros front) (skip_keeps a b skips ∙ one_read b b.bytes after m refl (ink_next a b skips) read) ∙ regroup front m (macros_ahead after)

fails_at : (line at x : ℕ) (xs : List ℕ) (f : LineFault) → is_blank x ≡ false → pair_ahead (ahead line at (x ∷ xs)) ≡ Err f → macros_at line at 0 (x ∷ xs) ≡ Err f
unfolding macros_at
fails_at line at x xs f ink read = rw (ink, read) refl

pair_fails : (b : Ahead) (bytes : List ℕ) (f : LineFault) → b.bytes ≡ bytes → Stops is_ink bytes → has_bytes bytes ≡ true → pair_ahead b ≡ Err f → macros_ahead b ≡ Err f
pair_fails b [] f e stops some read = absurd (false≢true some)
pair_fails b (x ∷ xs) f e stops some read =
    ap (macros_at b.line b.at 0) e ∙ fails_at b.line b.at x xs f (not_blank x stops) (ap (λ (bs : List ℕ). pair_ahead (ahead b.line b.at bs)) (sym e) ∙ read)

pub macro_fails : (front : List Macro) (a b : Ahead) (f : LineFault) → skip_blanks a ≡ b → has_bytes b.bytes ≡ true → pair_ahead b ≡ Err f → with_macros front (macros_ahead a) ≡ Err f
macro_fails front a b f skips some read =
    ap (with_macros front) (skip_keeps a b skips ∙ pair_fails b b.bytes f refl (ink_next a b skips) some read)

nothing_at : (line at : ℕ) (bytes : List ℕ) → has_bytes bytes ≡ false → macros_at line at 0 bytes ≡ Ok []
unfolding macros_at
nothing_at line at [] h = refl
nothing_at line at (b ∷ bs) h = absurd (false≢true (sym h))

pub macros_done : (front : List Macro) (a b : Ahead) → skip_blanks a ≡ b → has_bytes b.bytes ≡ false → with_macros front (macros_ahead a) ≡ Ok front
macros_done front a b skips none = ap (with_macros front) (skip_keeps a b skips ∙ nothing_at b.line b.at b.bytes none) ∙ ap (λ (ms : List Macro). Ok ms) (append-nil front)

some_left : (bytes : List ℕ) → is_macro_name (take (place_of ends_name bytes) bytes) ≡ true → 1 ≤ length bytes
some_left [] h = absurd (no_empty_name h)
some_left (b ∷ bs) h = omega arith

pub macros_less : (m : Macro) (a b after : Ahead) → skip_blanks a ≡ b → pair_ahead b ≡ Ok (m, after) → length after.bytes < length a.bytes
macros_less m a b after skips read =
    let (named, (n, is, some)) = pair_goes b (m, after) read in
    let left = some_left b.bytes named in
    let less : length after.bytes ≡ length b.bytes - n = ap (λ (x : Ahead). length x.bytes) is ∙ length-drop n b.bytes in
    let before : length b.bytes ≡ length a.bytes - place_of is_ink a.bytes = ap (λ (x : Ahead). length x.bytes) (sym skips) ∙ length-drop (place_of is_ink a.bytes) a.bytes in
    omega arith
