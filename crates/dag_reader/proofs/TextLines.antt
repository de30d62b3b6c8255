-- Reading line by line, as the loop does.
use Rattle.std.proofs.Common.{◌≡◌, ℕ, ◌+◌, ◌<◌, false, nat_eq, List, [], ◌∷◌, ◌++◌, length, take, drop, get_or, Option, Some, None, Result, Ok, Err, refl, sym, ap, ◌∙◌, add-one, drop-cons, append_assoc, arith, ⊎_elim}
use Rattle.std.proofs.lemmas.Bool.{cases_Bool, eqb-true}
use Rattle.std.proofs.lemmas.Grind.{common_steps}
use Rattle.std.proofs.lemmas.List.{append-nil, take-append-drop}
use Rattle.std.proofs.lemmas.List.Elements.{All-from_get_or}
use Rattle.std.proofs.lemmas.List.Splits.{slice_split_none, slice_split_at, length-slice_split}
use Rattle.std.specs.List.{slice_split, All}
use Rattle.std.specs.Option.{option_to_list}
use Rattle.std.specs.Str.Lines.{lines, lines_of_parts, strip_carriage_return}
use Rattle.memchr.specs.Find.{IsFirstByte, is_byte}
use Rattle.dag_reader.specs.declared.fault.LineFault.{LineFault}
use Rattle.dag_reader.specs.declared.fault.ReadFault.{ReadFault}
use Rattle.dag_reader.specs.declared.fault.ReadFault.TheVariants as faults
use Rattle.dag_reader.specs.declared.command.Command.{Command}
use Rattle.dag_reader.specs.Reading.{◌>>=◌, Fails, line_at, lines_at}

-- what was read before, and what is still read
abbrev pub with_lines : List Command → Result (List Command) LineFault → Result (List Command) LineFault
with_lines front read = read >>= λ more. Ok (front ++ more)

not_last : (x : List ℕ) (parts : List (List ℕ)) → 0 < length parts → lines_of_parts (x ∷ parts) ≡ strip_carriage_return x ∷ lines_of_parts parts
not_last x [] some = absurd (omega arith)
not_last x (y ∷ more) some = refl

pub lines-first : (xs ys : List ℕ) → All (λ b. nat_eq b 10 ≡ false) xs → lines (xs ++ 10 ∷ ys) ≡ strip_carriage_return xs ∷ lines ys
lines-first xs ys clear =
    let p = λ (b : ℕ). nat_eq b 10 in
    let some : 0 < length (slice_split p ys) = omega (arith, length-slice_split p ys) in
    rw (slice_split_at p xs 10 ys clear refl) (not_last xs (slice_split p ys) some)

lines-last : (xs : List ℕ) → 0 < length xs → All (λ b. nat_eq b 10 ≡ false) xs → lines xs ≡ xs ∷ []
lines-last xs some clear =
    let filled : nat_eq (length xs) 0 ≡ false = grind arith in
    rw (slice_split_none (λ b. nat_eq b 10) xs clear) (rw filled refl)

-- a line that ends in a line break
pub splits_at : (text : List ℕ) (end : ℕ) → IsFirstByte (is_byte 10) text (Some end) → lines text ≡ strip_carriage_return (take end text) ∷ lines (drop (end + 1) text)
splits_at text end h =
    let within = h.0.high in
    let clear : All (λ b. nat_eq b 10 ≡ false) (take end text) = All-from_get_or (λ b. nat_eq b 10 ≡ false) (take end text) 0 (λ i lt.
    let small : i < end = grind (arith, common_steps) in
    let e : get_or (take end text) i 0 ≡ get_or text i 0 = grind (arith, common_steps) in
    rw e (⊎_elim (λ yes. absurd (h.0.before i (omega arith) small yes)) (λ other. other) (cases_Bool (nat_eq (get_or text i 0) 10)))) in
    let here : get_or text end 0 ≡ 10 = eqb-true _ _ h.1 in
    let shape : drop end text ≡ 10 ∷ drop (end + 1) text = rw add-one (drop-cons text end 0 within) ∙ ap (λ (b : ℕ). b ∷ drop (end + 1) text) here in
    let whole : text ≡ take end text ++ 10 ∷ drop (end + 1) text = sym (take-append-drop end text) ∙ ap (λ (ys : List ℕ). take end text ++ ys) shape in
    ap lines whole ∙ lines-first (take end text) (drop (end + 1) text) clear

-- a last line without one
pub all_one_line : (text : List ℕ) → 0 < length text → IsFirstByte (is_byte 10) text None → lines text ≡ text ∷ []
all_one_line text some h =
    lines-last text some (All-from_get_or (λ b. nat_eq b 10 ≡ false) text 0 (λ i lt.
    ⊎_elim (λ yes. absurd (h i (omega arith) lt yes)) (λ other. other) (cases_Bool (nat_eq (get_or text i 0) 10))))

regroup : (front : List Command) (o : Option Command) (read : Result (List Command) LineFault) → with_lines front (read >>= λ others. Ok (option_to_list o ++ others)) ≡ with_lines (front ++ option_to_list o) read
regroup front o (Ok xs) = ap (λ (ys : List Command). Ok ys) (sym (append_assoc front (option_to_list o) xs))
regroup front o (Err f) = refl

pub line_step : (front : List Command) (number : ℕ) (text line after : List ℕ) (o : Option Command) → lines text ≡ line ∷ lines after → line_at number line ≡ Ok o
    → with_lines front (lines_at number (lines text)) ≡ with_lines (front ++ option_to_list o) (lines_at (number + 1) (lines after))
unfolding lines_at
line_step front number text line after o e h = ap (λ (ls : List (List ℕ)). with_lines front (lines_at number ls)) e ∙ rw h (regroup front o (lines_at (number + 1) (lines after)))

pub line_fails : (e : ReadFault) (front : List Command) (number : ℕ) (text line after : List ℕ) (total : Result (List Command) LineFault) → lines text ≡ line ∷ lines after → Fails e (line_at number line)
    → with_lines front (lines_at number (lines text)) ≡ total → Fails e total
unfolding lines_at
line_fails faults.Memory front number text line after total e h so_far = tt
line_fails (faults.Line f) front number text line after total e h so_far =
    let one : with_lines front (lines_at number (lines text)) ≡ Err f = ap (λ (ls : List (List ℕ)). with_lines front (lines_at number ls)) e ∙ rw h refl in
    sym so_far ∙ one

pub lines_done : (front : List Command) (number : ℕ) (text : List ℕ) → length text ≡ 0 → with_lines front (lines_at number (lines text)) ≡ Ok front
unfolding lines_at
lines_done front number [] e = ap (λ (cs : List Command). Ok cs) (append-nil front)
lines_done front number (b ∷ bs) e = absurd (omega arith)
