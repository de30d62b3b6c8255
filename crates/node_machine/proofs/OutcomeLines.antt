-- What reading the lines of a text finds is said there, and the line at which it stops is the first bad one.
use Rattle.std.proofs.Common.{◌≡◌, ℕ, suc, ◌+◌, ◌⊎◌, false, cond, List, [], ◌∷◌, ◌++◌, length, Option, None, Some, Result, Ok, Err, IfOk, IfErr, MatchResult, refl, sym, ap, subst, ◌∙◌, append_assoc, arith, inl, inr, ⊎_elim}
use Rattle.std.proofs.lemmas.List.{append-nil}
use Rattle.std.specs.Option.{option_to_list, option_map}
use Rattle.dag_reader.specs.Word.{PlacedText}
use Rattle.dag_reader.specs.Words.{words}
use Rattle.dag_reader.specs.Keywords.{is_comment}
use Rattle.dag_reader.specs.Reading.{text_of}
use Rattle.node_machine.specs.declared.outcomes.TableFault.{TableFault}
use Rattle.node_machine.specs.declared.outcomes.TableFault.TheVariants.{BadLine, Memory}
use Rattle.node_machine.specs.OutcomeTable.{Entry, is_of, outcome_at, SameOutcomes}
use Rattle.node_machine.specs.declared.Outcome.{Outcome}
use Rattle.node_machine.proofs.TableEntries.{outcome_at-push}
use Rattle.std.specs.Str.Lines.{lines}
use Rattle.node_machine.specs.OutcomesFile.{SayEntries, IsFirstBadEntry}
use Rattle.node_machine.specs.OutcomesReading.{words_say_entry, text_says_entry, entry_at, then_lines, entries_at, entry_in, IsFaultOf, IsLineFault}

-- what a line with words says
pub line_says : (number : ℕ) (bytes text : List ℕ) (first : PlacedText) (ws : List PlacedText) (o : Option Entry) → text_of number bytes ≡ Ok text → words number 0 text ≡ first ∷ ws → is_comment first ≡ false → o ≡ entry_in first ws
    → entry_at number bytes ≡ option_map (λ x. Some x) o
unfolding entry_at
line_says number bytes text first ws o read split no_comment entry =
    ap (text_says_entry number) read ∙ ap words_say_entry split ∙ rw no_comment (ap (option_map (λ x. Some x)) (sym entry))

-- Lists of lines.
abbrev good : List Entry → Result (List Entry) ℕ
good entries = Ok entries

abbrev bad : ℕ → Result (List Entry) ℕ
bad number = Err number

pub good_is : (xs ys : List Entry) → good xs ≡ good ys → xs ≡ ys
good_is xs ys e = cc

bad_is : (m n : ℕ) → bad m ≡ bad n → m ≡ n
bad_is m n e = cc

-- the first line says something and so do the others
split_good : (number : ℕ) (o : Option (Option Entry)) (later : Result (List Entry) ℕ) (entries : List Entry) → then_lines number o later ≡ Ok entries
    → (first : Option Entry) × (others : List Entry) × (o ≡ Some first) × (later ≡ Ok others) × (entries ≡ option_to_list first ++ others)
split_good number None later entries e = absurd cc
split_good number (Some first) (Err n) entries e = absurd cc
split_good number (Some first) (Ok others) entries e = (first, others, refl, refl, sym (good_is (option_to_list first ++ others) entries e))

-- the first line says nothing at all, or a later one is bad
split_bad : (number : ℕ) (o : Option (Option Entry)) (later : Result (List Entry) ℕ) (n : ℕ) → then_lines number o later ≡ Err n
    → ((o ≡ None) × (number ≡ n)) ⊎ ((first : Option Entry) × (o ≡ Some first) × (later ≡ Err n))
split_bad number None later n e = inl (refl, bad_is number n e)
split_bad number (Some first) (Err m) n e = inr (first, refl, e)
split_bad number (Some first) (Ok others) n e = absurd cc

pub lines_found : (number : ℕ) (ls : List (List ℕ)) (entries : List Entry) → entries_at number ls ≡ Ok entries → SayEntries number ls entries
unfolding entries_at
lines_found number [] entries e = sym (good_is [] entries e)
lines_found number (line ∷ more) entries e =
    let p = split_good number (entry_at number line) (entries_at (number + 1) more) entries e in
    (p.0, p.1, p.2, lines_found (number + 1) more p.1 p.3, p.4)

pub lines_again : (number : ℕ) (ls : List (List ℕ)) (entries : List Entry) → SayEntries number ls entries → entries_at number ls ≡ Ok entries
unfolding entries_at
lines_again number [] entries e = ap good (sym e)
lines_again number (line ∷ more) entries (first, others, says, all, e) =
    rw (says, lines_again (number + 1) more others all) (ap good (sym e))

-- The line n of lines, the first of which is the line `number`, is the first bad one.
abbrev StopsAt : ℕ → List (List ℕ) → ℕ → Type 0
StopsAt number ls n = (front : List (List ℕ)) × (line : List ℕ) × (back : List (List ℕ)) × (entries : List Entry)
    × (ls ≡ front ++ line ∷ back) × SayEntries number front entries × (n ≡ number + length front) × (entry_at n line ≡ None)

stops : (number : ℕ) (ls : List (List ℕ)) (n : ℕ) → entries_at number ls ≡ Err n → StopsAt number ls n
unfolding entries_at
stops number [] n e = absurd cc
stops number (line ∷ more) n e =
    ⊎_elim
    (λ (here : (entry_at number line ≡ None) × (number ≡ n)).
    let at : n ≡ number + 0 = omega (arith, here.1) in (
      [],
      line,
      more,
      [],
      refl,
      refl,
      at,
      subst (λ (k : ℕ). entry_at k line ≡ None) here.1 here.0,
    ))
    (λ (later : (first : Option Entry) × (entry_at number line ≡ Some first) × (entries_at (number + 1) more ≡ Err n)).
    let s = stops (number + 1) more n later.2 in
    let counted : n ≡ number + 1 + length s.0 = s.6 in
    let at : n ≡ number + suc (length s.0) = omega arith in (
      line ∷ s.0,
      s.1,
      s.2,
      option_to_list later.0 ++ s.3,
      ap (λ (xs : List (List ℕ)). line ∷ xs) s.4,
      (later.0, s.3, later.1, s.5, refl),
      at,
      s.7,
    ))
    (split_bad number (entry_at number line) (entries_at (number + 1) more) n e)

stops_again : (number : ℕ) (front : List (List ℕ)) (line : List ℕ) (back : List (List ℕ)) (entries : List Entry) (n : ℕ) → SayEntries number front entries → n ≡ number + length front
    → entry_at n line ≡ None → entries_at number (front ++ line ∷ back) ≡ Err n
unfolding entries_at
stops_again number [] line back entries n says at none =
    let here : n ≡ number = omega arith in
    let read : entry_at number line ≡ None = ap (λ (k : ℕ). entry_at k line) (sym here) ∙ none in
    rw read (ap bad (sym here))
stops_again number (x ∷ front) line back entries n (first, others, says, all, e) at none =
    let below : n ≡ number + 1 + length front = omega arith in
    rw (says, stops_again (number + 1) front line back others n all below none) refl

pub first_bad : (ls : List (List ℕ)) (n : ℕ) → entries_at 1 ls ≡ Err n → IsFirstBadEntry ls n
first_bad ls n e = stops 1 ls n e

pub first_bad_again : (ls : List (List ℕ)) (n : ℕ) → IsFirstBadEntry ls n → entries_at 1 ls ≡ Err n
first_bad_again ls n (front, line, back, entries, e, says, at, none) = ap (entries_at 1) e ∙ stops_again 1 front line back entries n says at none

-- Reading line by line, as the loop does.
abbrev pub with_front : List Entry → Result (List Entry) ℕ → Result (List Entry) ℕ
with_front front (Ok entries) = Ok (front ++ entries)
with_front front (Err n) = Err n

-- The table has the entries of the lines before the rest, whose first line has this number.
abbrev pub HasRead : List ℕ → List ℕ → ℕ → List Entry → Type 0
HasRead text rest number table = (front : List Entry) × SameOutcomes table front × (with_front front (entries_at number (lines rest)) ≡ entries_at 1 (lines text))

nothing_before : (r : Result (List Entry) ℕ) → with_front [] r ≡ r
nothing_before (Ok entries) = refl
nothing_before (Err n) = refl

pub begins : (text : List ℕ) → HasRead text text 1 []
begins text = ([], λ n a p. refl, nothing_before (entries_at 1 (lines text)))

regroup : (front : List Entry) (number : ℕ) (o : Option Entry) (r : Result (List Entry) ℕ) → with_front front (then_lines number (Some o) r) ≡ with_front (front ++ option_to_list o) r
regroup front number o (Ok entries) = ap good (sym (append_assoc front (option_to_list o) entries))
regroup front number o (Err n) = refl

same_after : (xs ys : List Entry) (o : Option Entry) → SameOutcomes xs ys → SameOutcomes (xs ++ option_to_list o) (ys ++ option_to_list o)
same_after xs ys None same = λ n a p. ap (λ (es : List Entry). outcome_at es n a p) (append-nil xs) ∙ same n a p ∙ sym (ap (λ (es : List Entry). outcome_at es n a p) (append-nil ys))
same_after xs ys (Some entry) same = λ n a p.
    outcome_at-push xs entry n a p ∙ ap (λ (o : Outcome). cond (is_of n a p entry) entry.outcome o) (same n a p) ∙ sym (outcome_at-push ys entry n a p)

pub goes_on : (text rest line after : List ℕ) (number : ℕ) (table new : List Entry) (o : Option Entry) → HasRead text rest number table → lines rest ≡ line ∷ lines after → entry_at number line ≡ Some o
    → SameOutcomes new (table ++ option_to_list o) → HasRead text after (number + 1) new
unfolding entries_at
goes_on text rest line after number table new o (front, same, so_far) split read adds =
    let one : entries_at number (lines rest) ≡ then_lines number (Some o) (entries_at (number + 1) (lines after)) =
    ap (entries_at number) split ∙ ap (λ (x : Option (Option Entry)). then_lines number x (entries_at (number + 1) (lines after))) read in (
      front ++ option_to_list o,
      λ n a p. adds n a p ∙ same_after table front o same n a p,
      sym (regroup front number o (entries_at (number + 1) (lines after))) ∙ ap (with_front front) (sym one) ∙ so_far,
    )

pub fails_at : (text rest line after : List ℕ) (number : ℕ) (table : List Entry) (e : TableFault) → HasRead text rest number table → lines rest ≡ line ∷ lines after → IsLineFault number (entry_at number line) e
    → IsFaultOf (entries_at 1 (lines text)) e
unfolding entries_at
fails_at text rest line after number table Memory read split fault = tt
fails_at text rest line after number table (BadLine n) (front, same, so_far) split fault =
    let one : entries_at number (lines rest) ≡ Err number =
    ap (entries_at number) split ∙ ap (λ (x : Option (Option Entry)). then_lines number x (entries_at (number + 1) (lines after))) fault.1 in
    sym so_far ∙ ap (with_front front) one ∙ ap bad (sym fault.0)

pub ends : (text rest : List ℕ) (number : ℕ) (table : List Entry) → HasRead text rest number table → length rest ≡ 0
    → (entries : List Entry) × (entries_at 1 (lines text) ≡ Ok entries) × SameOutcomes table entries
unfolding entries_at
ends text [] number table (front, same, so_far) e = (front, sym so_far ∙ ap good (append-nil front), same)
ends text (b ∷ bs) number table read e = absurd (omega arith)

-- What the result of reading says of the grammar.
abbrev pub ReadSo : List (List ℕ) → Result (List Entry) TableFault → Type 0
ReadSo ls result = IfOk result (λ table. (entries : List Entry) × (entries_at 1 ls ≡ Ok entries) × SameOutcomes table entries)

pub is_found : (ls : List (List ℕ)) (result : Result (List Entry) TableFault) → ReadSo ls result → IfOk result (λ table. (entries : List Entry) × SayEntries 1 ls entries × SameOutcomes table entries)
is_found ls (Ok table) (entries, read, same) = (entries, lines_found 1 ls entries read, same)
is_found ls (Err e) so = tt

pub is_read : (ls : List (List ℕ)) (result : Result (List Entry) TableFault) → ReadSo ls result → IfErr result (IsFaultOf (entries_at 1 ls))
    → (entries : List Entry) → SayEntries 1 ls entries → MatchResult result (λ table. SameOutcomes table entries) (λ e. e ≡ Memory)
is_read ls (Ok table) (others, read, same) fault entries says =
    let again : entries_at 1 ls ≡ good entries = lines_again 1 ls entries says in
    subst (SameOutcomes table) (good_is others entries (sym read ∙ again)) same
is_read ls (Err Memory) so fault entries says = refl
is_read ls (Err (BadLine n)) so fault entries says =
    let again : entries_at 1 ls ≡ good entries = lines_again 1 ls entries says in
    let stopped : entries_at 1 ls ≡ bad n = fault in
    absurd cc

pub is_first_bad : (ls : List (List ℕ)) (result : Result (List Entry) TableFault) → IfErr result (IsFaultOf (entries_at 1 ls)) → (n : ℕ) → result ≡ Err (BadLine n) → IsFirstBadEntry ls n
is_first_bad ls result fault n e = first_bad ls n (subst (λ (r : Result (List Entry) TableFault). IfErr r (IsFaultOf (entries_at 1 ls))) e fault)

pub is_refused : (ls : List (List ℕ)) (result : Result (List Entry) TableFault) → ReadSo ls result → IfErr result (IsFaultOf (entries_at 1 ls))
    → (n : ℕ) → IsFirstBadEntry ls n → (result ≡ Err (BadLine n)) ⊎ (result ≡ Err Memory)
is_refused ls (Ok table) (entries, read, same) fault n first =
    let stopped : entries_at 1 ls ≡ bad n = first_bad_again ls n first in
    let whole : entries_at 1 ls ≡ good entries = read in
    absurd cc
is_refused ls (Err Memory) so fault n first = inr refl
is_refused ls (Err (BadLine m)) so fault n first =
    let same : m ≡ n = bad_is m n (sym fault ∙ first_bad_again ls n first) in
    inl (ap (λ (k : ℕ). Err (BadLine k)) same)
