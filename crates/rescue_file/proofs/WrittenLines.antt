-- The lines of a rescue file that was written.
use Rattle.std.proofs.Common.{◌≡◌, ℕ, ◌+◌, ◌-◌, ◌<◌, ◌≤◌, ◌^◌, ◌%◌, true, false, not, nat_eq, nat_lt, List, [], ◌∷◌, ◌++◌, length, map, get_or, Some, None, refl, sym, ap, subst, ◌∙◌, arith, append_assoc, codes, decimal, IsUtf8, length-append}
use Rattle.std.proofs.lemmas.Bool.{true≢false, false_from_ne_true, eqb-true, ltb-true, cond-false, not-true}
use Rattle.std.proofs.lemmas.Fmt.{IsAscii-decimal, length-decimal-le, decimal_by_steps}
use Rattle.std.proofs.lemmas.List.Elements.{All-get_or, All-weaker, All-append, All-cons, All-nil, All-head, All-tail}
use Rattle.std.proofs.lemmas.List.Sums.{AllPass-from_list_all}
use Rattle.std.proofs.lemmas.Str.{IsUtf8-append, IsUtf8-from_ascii, IsUtf8-nil}
use Rattle.std.proofs.lemmas.Str.Ascii.{IsAscii-from_all}
use Rattle.std.specs.List.{All, list_all}
use Rattle.std.specs.Str.Lines.{lines, strip_carriage_return}
use Rattle.dag_reader.specs.Lines.{is_control}
use Rattle.dag_reader.specs.Words.{is_blank, words}
use Rattle.dag_reader.specs.Word.{PlacedText}
use Rattle.dag_reader.specs.Keywords.{is_keyword, is_comment}
use Rattle.dag_reader.proofs.LineTexts.{IsText}
use Rattle.dag_reader.proofs.Scan.{from_to, words-nil, words-first, words-last}
use Rattle.dag_reader.proofs.TextLines.{lines-first}
use Rattle.splices_flat.specs.Dag.{Dag}
use Rattle.rescue_file.specs.Written.{done_line, done_lines, head_text}
use Rattle.rescue_file.proofs.LineReadings.{AreSilent, LineSays, Says}
use Rattle.rescue_file.specs.Fit.{IsFit}

-- Bytes without control characters.
abbrev pub Clear : List ℕ → Type 0
Clear bytes = All (λ b. is_control b ≡ false) bytes

clear_by : (bytes : List ℕ) → list_all (λ b. not (is_control b)) bytes ≡ true → Clear bytes
clear_by bytes h =
    All-weaker (λ b. not (is_control b) ≡ true) (λ b. is_control b ≡ false) (λ b is. not-true (is_control b) is) bytes
    (AllPass-from_list_all (λ b. not (is_control b)) bytes h)

solid_by : (bytes : List ℕ) → list_all (λ b. not (is_blank b)) bytes ≡ true → All (λ b. is_blank b ≡ false) bytes
solid_by bytes h =
    All-weaker (λ b. not (is_blank b) ≡ true) (λ b. is_blank b ≡ false) (λ b is. not-true (is_blank b) is) bytes
    (AllPass-from_list_all (λ b. not (is_blank b)) bytes h)

utf8_by : (bytes : List ℕ) → list_all (λ b. nat_lt b 128) bytes ≡ true → IsUtf8 bytes
utf8_by bytes h =
    IsUtf8-from_ascii bytes (IsAscii-from_all bytes (All-weaker (λ b. nat_lt b 128 ≡ true) (λ b. b < 128) (λ b is. ltb-true b 128 is) bytes
    (AllPass-from_list_all (λ b. nat_lt b 128) bytes h)))

other_byte : (c b : ℕ) → is_control c ≡ true → is_control b ≡ false → nat_eq b c ≡ false
other_byte c b control clear = false_from_ne_true (nat_eq b c) (λ yes. true≢false (sym control ∙ ap is_control (sym (eqb-true b c yes)) ∙ clear))

unstripped : (bytes : List ℕ) → Clear bytes → strip_carriage_return bytes ≡ bytes
unstripped [] clear = refl
unstripped (b ∷ bs) clear =
    let last = get_or (b ∷ bs) (length (b ∷ bs) - 1) 0 in
    cond-false (nat_eq last 13) _ _ (other_byte 13 last refl (All-get_or (λ x. is_control x ≡ false) (b ∷ bs) (length (b ∷ bs) - 1) 0 (omega arith) clear))

-- A line break ends a line without control characters.
one_line : (line rest : List ℕ) → Clear line → lines (line ++ 10 ∷ rest) ≡ line ∷ lines rest
one_line line rest clear =
    lines-first line rest (All-weaker (λ b. is_control b ≡ false) (λ b. nat_eq b 10 ≡ false) (λ b is. other_byte 10 b refl is) line clear)
    ∙ ap (λ (l : List ℕ). l ∷ lines rest) (unstripped line clear)

-- Decimals.
clear_digit : (d : ℕ) → d < 10 → is_control (48 + d) ≡ false
clear_digit d lt = grind arith

clear_decimal : (n : ℕ) → n < 2 ^ 64 → Clear (decimal n)
clear_decimal n small =
    decimal_by_steps (λ _ ds. Clear ds)
    (λ d lt. All-cons (λ b. is_control b ≡ false) (48 + d) [] (clear_digit d lt) (All-nil (λ b. is_control b ≡ false)))
    (λ m ds large clear. All-append (λ b. is_control b ≡ false) ds _ clear (All-cons (λ b. is_control b ≡ false) _ [] (clear_digit (m % 10) (omega arith)) (All-nil (λ b. is_control b ≡ false))))
    n small

-- The comments: a text, and a number that isn't large.
abbrev pub title : List ℕ
title = codes "# Rescue DAG file"

abbrev pub total_line : ℕ → List ℕ
total_line total = codes "# Total number of Nodes: " ++ decimal total

abbrev pub premarked_line : ℕ → List ℕ
premarked_line done = codes "# Nodes premarked DONE: " ++ decimal done

counted_text : (front : List ℕ) (n : ℕ) → length front ≤ 100 → IsUtf8 front → Clear front → n ≤ 65536 → IsText (front ++ decimal n)
counted_text front n short utf8 clear few =
    let small : n < 2 ^ 64 = omega arith in
    let len = length-append front (decimal n) in
    let digits = length-decimal-le 5 n (omega arith) (omega arith) small in
    record {
      fits = omega arith;
      utf8 = IsUtf8-append front (decimal n) utf8 (IsUtf8-from_ascii (decimal n) (IsAscii-decimal n small));
      clear = All-append (λ b. is_control b ≡ false) front (decimal n) clear (clear_decimal n small);
    }

title_text : IsText title
title_text = record { fits = omega arith; utf8 = utf8_by title refl; clear = clear_by title refl }

total_text : (n : ℕ) → n ≤ 65536 → IsText (total_line n)
total_text n few = counted_text (codes "# Total number of Nodes: ") n (omega arith) (utf8_by (codes "# Total number of Nodes: ") refl) (clear_by (codes "# Total number of Nodes: ") refl) few

premarked_text : (n : ℕ) → n ≤ 65536 → IsText (premarked_line n)
premarked_text n few = counted_text (codes "# Nodes premarked DONE: ") n (omega arith) (utf8_by (codes "# Nodes premarked DONE: ") refl) (clear_by (codes "# Nodes premarked DONE: ") refl) few

hash_word : (number : ℕ) (rest : List ℕ) → AreSilent (words number 0 (35 ∷ 32 ∷ rest))
unfolding is_comment
hash_word number rest = subst AreSilent (sym (words-first number 0 (35 ∷ []) 32 rest (omega arith) (solid_by (35 ∷ []) refl) refl)) refl

empty_text : IsText []
empty_text = record { fits = omega arith; utf8 = IsUtf8-nil; clear = All-nil (λ b. is_control b ≡ false) }

module _ (dag : Dag) (number : ℕ) where
  pub title_says : Says dag number title None
  title_says = (title_text, hash_word number _)

  pub total_says : (n : ℕ) → n ≤ 65536 → Says dag number (total_line n) None
  total_says n few = (total_text n few, hash_word number _)

  pub premarked_says : (n : ℕ) → n ≤ 65536 → Says dag number (premarked_line n) None
  premarked_says n few = (premarked_text n few, hash_word number _)

  pub empty_says : Says dag number [] None
  empty_says = (empty_text, subst AreSilent (sym (words-nil number 0)) tt)

-- The line of a node.
abbrev pub done_words : List ℕ → List ℕ
done_words name = codes "DONE " ++ name

done_text : (name : List ℕ) → IsFit name → IsText (done_words name)
done_text name fit =
    let len = length-append (codes "DONE ") name in
    let short = fit.short in
    record {
      fits = omega arith;
      utf8 = IsUtf8-append (codes "DONE ") name (utf8_by (codes "DONE ") refl) fit.utf8;
      clear = All-append (λ b. is_control b ≡ false) (codes "DONE ") name (clear_by (codes "DONE ") refl) fit.clear;
    }

pub done_says : (number : ℕ) (name : List ℕ) → IsFit name → LineSays number (done_words name) (Some name)
unfolding is_keyword
done_says number name fit =
    let first = words-first number 0 (codes "DONE") 32 name (omega arith) (solid_by (codes "DONE") refl) refl in
    let second = words-last number 5 name fit.some fit.solid in
    (done_text name fit, (from_to number 0 (codes "DONE") 4, from_to number 5 name (5 + length name), first ∙ ap (λ (ws : List PlacedText). from_to number 0 (codes "DONE") 4 ∷ ws) second, refl, refl))

done_first : (name rest : List ℕ) → done_line name ++ rest ≡ done_words name ++ 10 ∷ rest
done_first name rest = ap (λ (t : List ℕ). codes "DONE " ++ t) (append_assoc name (10 ∷ []) rest)

lines_of_done : (names : List (List ℕ)) → All IsFit names → lines (done_lines names) ≡ map done_words names
lines_of_done [] fit = refl
lines_of_done (name ∷ names) fit =
    let here = All-head IsFit name names fit in
    ap lines (done_first name (done_lines names)) ∙ one_line (done_words name) (done_lines names) (done_text name here).clear
    ∙ ap (λ (ls : List (List ℕ)). done_words name ∷ ls) (lines_of_done names (All-tail IsFit name names fit))

-- All lines.
head_cut : (total done : ℕ) (rest : List ℕ) → head_text total done ++ rest ≡ title ++ 10 ∷ (total_line total ++ 10 ∷ (premarked_line done ++ 10 ∷ ([] ++ 10 ∷ rest)))
head_cut total done rest =
    ap (λ (t : List ℕ). codes "# Rescue DAG file\n# Total number of Nodes: " ++ t)
    (append_assoc (decimal total) (codes "\n# Nodes premarked DONE: " ++ (decimal done ++ codes "\n\n")) rest
    ∙ ap (λ (t : List ℕ). decimal total ++ (codes "\n# Nodes premarked DONE: " ++ t)) (append_assoc (decimal done) (codes "\n\n") rest))

pub written_lines : (total done : ℕ) (names : List (List ℕ)) → total ≤ 65536 → done ≤ 65536 → All IsFit names
    → lines (head_text total done ++ done_lines names) ≡ title ∷ total_line total ∷ premarked_line done ∷ [] ∷ map done_words names
written_lines total done names few fewer fit =
    let rest = done_lines names in
    ap lines (head_cut total done rest)
    ∙ one_line title (total_line total ++ 10 ∷ (premarked_line done ++ 10 ∷ ([] ++ 10 ∷ rest))) title_text.clear
    ∙ ap (λ (ls : List (List ℕ)). title ∷ ls)
    (one_line (total_line total) (premarked_line done ++ 10 ∷ ([] ++ 10 ∷ rest)) (total_text total few).clear
    ∙ ap (λ (ls : List (List ℕ)). total_line total ∷ ls)
    (one_line (premarked_line done) ([] ++ 10 ∷ rest) (premarked_text done fewer).clear
    ∙ ap (λ (ls : List (List ℕ)). premarked_line done ∷ ls)
    (one_line [] rest (All-nil (λ b. is_control b ≡ false)) ∙ ap (λ (ls : List (List ℕ)). [] ∷ ls) (lines_of_done names fit))))
