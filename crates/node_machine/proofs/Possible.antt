-- The outcomes that lines say are possible.
use Rattle.std.proofs.Common.{◌≡◌, ℕ, ◌+◌, ℤ, pos, negsuc, Bool, true, false, List, [], ◌∷◌, ◌++◌, map, filter, Option, Some, None, unwrap_or, Result, Ok, Err, ⊎_elim, codes, refl, sym, ap, ◌∙◌, subst, if◌then◌else◌}
use Rattle.std.specs.Prelude.{IfOk, nat_le}
use Rattle.std.specs.List.{last_or}
use Rattle.std.specs.Option.{option_to_list, option_map, option_and_then}
use Rattle.std.proofs.lemmas.Bool.{and_from}
use Rattle.dag_reader.specs.Word.{PlacedText}
use Rattle.dag_reader.specs.declared.fault.LineFault.{LineFault}
use Rattle.dag_reader.specs.Words.{words}
use Rattle.dag_reader.specs.Keywords.{is_keyword, is_comment}
use Rattle.dag_reader.specs.Numbers.{integer, up_to, count}
use Rattle.dag_reader.specs.Reading.{text_of}
use Rattle.dag_reader.proofs.Parts.{chosen}
use Rattle.node_machine.specs.declared.Outcome.{Outcome}
use Rattle.node_machine.specs.declared.Outcome.TheVariants.{Exit, Signal, NoStart, Untold}
use Rattle.node_machine.specs.declared.outcomes.TableFault.{TableFault}
use Rattle.node_machine.specs.Story.{is_possible}
use Rattle.node_machine.specs.OutcomeTable.{Entry, is_of, outcome_at, SameOutcomes, HasPossibleOutcomes}
use Rattle.node_machine.specs.OutcomesFile.{SayEntries}
use Rattle.node_machine.specs.OutcomesReading.{phase_in, ending_in, signal_of, signal_in, spelled_outcome, phased_in, entry_in, words_say_entry, text_says_entry, entry_at}

abbrev some : {A : Type 0} → A → Option A
some x = Some x

-- each entry has a possible outcome
abbrev ArePossible : List Entry → Type 0
ArePossible [] = Unit {0}
ArePossible (entry ∷ entries) = (is_possible entry.outcome ≡ true) × ArePossible entries

-- a number up to a bound is not above it
most-of : (most : ℕ) (o : Option ℤ) (n : ℕ) → up_to most o ≡ Some n → nat_le n most ≡ true
most-of most None n e = absurd cc
most-of most (Some (negsuc m)) n e = absurd cc
most-of most (Some (pos m)) n e = go (nat_le m most) refl e
  where
    go : (b : Bool) → nat_le m most ≡ b → (if b then Some m else None) ≡ Some n → nat_le n most ≡ true
    go true h f = let same : m ≡ n = cc in ap (λ k. nat_le k most) (sym same) ∙ h
    go false h f = absurd cc

some_is : {A : Type 0} (x y : A) → some x ≡ some y → x ≡ y
some_is x y e = cc

mapped : {A B : Type 0} (f : A → B) (o : Option A) (y : B) → option_map f o ≡ Some y → (x : A) × (o ≡ Some x) × (f x ≡ y)
mapped f None y e = absurd cc
mapped f (Some x) y e = (x, refl, some_is (f x) y e)

chained : {A B : Type 0} (f : A → Option B) (o : Option A) (y : B) → option_and_then f o ≡ Some y → (x : A) × (o ≡ Some x) × (f x ≡ Some y)
chained f None y e = absurd cc
chained f (Some x) y e = (x, refl, e)

ending-possible : (w : PlacedText) (o : Outcome) → ending_in w ≡ Some o → is_possible o ≡ true
unfolding ending_in integer
ending-possible w o e =
    ⊎_elim
    (λ here. ap is_possible (sym (some_is NoStart o here.1)))
    (λ a. ⊎_elim
    (λ here. ap is_possible (sym (some_is Untold o here.1)))
    (λ b. let m = mapped Exit (count 255 w.text) o b.1 in ap is_possible (sym m.2) ∙ most-of 255 (integer w.text) m.0 m.1)
    (chosen (is_keyword (codes "UNTOLD") w) _ _ (Some o) a.1))
    (chosen (is_keyword (codes "NOSTART") w) _ _ (Some o) e)

signal-possible : (q : Option ℕ) (n : PlacedText) (o : Outcome) → count 127 n.text ≡ q → signal_of q ≡ Some o → is_possible o ≡ true
unfolding integer
signal-possible None n o counted e = absurd cc
signal-possible (Some number) n o counted e =
    ⊎_elim
    (λ here. ap is_possible (sym (some_is (Signal number) o here.1)) ∙ and_from _ _ here.0 (most-of 127 (integer n.text) number counted))
    (λ other. absurd (let bad = other.1 in cc))
    (chosen (nat_le 1 number) _ _ (Some o) e)

outcome-possible : (ws : List PlacedText) (o : Outcome) → spelled_outcome ws ≡ Some o → is_possible o ≡ true
unfolding spelled_outcome signal_in
outcome-possible [] o e = absurd cc
outcome-possible (w ∷ []) o e = ending-possible w o e
outcome-possible (k ∷ n ∷ []) o e =
    ⊎_elim
    (λ here. signal-possible (count 127 n.text) n o refl here.1)
    (λ other. absurd (let bad = other.1 in cc))
    (chosen (is_keyword (codes "SIGNAL") k) _ _ (Some o) e)
outcome-possible (k ∷ n ∷ w ∷ ws) o e = absurd cc

phased-possible : (name : PlacedText) (attempt : ℕ) (ws : List PlacedText) (entry : Entry) → phased_in name attempt ws ≡ Some entry → is_possible entry.outcome ≡ true
unfolding phased_in
phased-possible name attempt [] entry e = absurd cc
phased-possible name attempt (w ∷ ws) entry e =
    let p = chained _ (phase_in w) entry e in
    let o = mapped _ (spelled_outcome ws) entry p.2 in
    ap (λ (x : Entry). is_possible x.outcome) (sym o.2) ∙ outcome-possible ws o.0 o.1

entry-possible : (name : PlacedText) (ws : List PlacedText) (entry : Entry) → entry_in name ws ≡ Some entry → is_possible entry.outcome ≡ true
unfolding entry_in
entry-possible name [] entry e = absurd cc
entry-possible name (w ∷ ws) entry e =
    let a = chained _ (count 1000000 w.text) entry e in
    phased-possible name a.0 ws entry a.2

-- what a line says, if it says an entry
abbrev IsPossibleEntry : Option Entry → Type 0
IsPossibleEntry None = Unit {0}
IsPossibleEntry (Some entry) = is_possible entry.outcome ≡ true

words-possible : (ws : List PlacedText) (o : Option Entry) → words_say_entry ws ≡ Some o → IsPossibleEntry o
words-possible [] o e = subst IsPossibleEntry (some_is None o e) tt
words-possible (first ∷ ws) o e =
    ⊎_elim
    (λ comment. subst IsPossibleEntry (some_is None o comment.1) tt)
    (λ other. let m = mapped some (entry_in first ws) o other.1 in subst IsPossibleEntry m.2 (entry-possible first ws m.0 m.1))
    (chosen (is_comment first) _ _ (Some o) e)

text-possible : (number : ℕ) (r : Result (List ℕ) LineFault) (o : Option Entry) → text_says_entry number r ≡ Some o → IsPossibleEntry o
text-possible number (Err f) o e = absurd cc
text-possible number (Ok text) o e = words-possible (words number 0 text) o e

said-possible : (number : ℕ) (line : List ℕ) (o : Option Entry) (entries : List Entry) → entry_at number line ≡ Some o → ArePossible entries → ArePossible (option_to_list o ++ entries)
unfolding entry_at
said-possible number line o entries e rest = with-rest o (text-possible number (text_of number line) o e)
  where
    with-rest : (o : Option Entry) → IsPossibleEntry o → ArePossible (option_to_list o ++ entries)
    with-rest None p = rest
    with-rest (Some entry) p = (p, rest)

lines-possible : (number : ℕ) (ls : List (List ℕ)) (entries : List Entry) → SayEntries number ls entries → ArePossible entries
lines-possible number [] entries e = subst ArePossible (sym e) tt
lines-possible number (line ∷ more) entries (first, others, says, rest, e) =
    subst ArePossible (sym e) (said-possible number line first others says (lines-possible (number + 1) more others rest))

abbrev IsPossibleIfAny : Option Outcome → Type 0
IsPossibleIfAny None = Unit {0}
IsPossibleIfAny (Some outcome) = is_possible outcome ≡ true

ends-possible : (o : Option Outcome) → IsPossibleIfAny o → is_possible (unwrap_or o (Exit 0)) ≡ true
ends-possible None p = refl
ends-possible (Some outcome) p = p

last-possible : (test : Entry → Bool) (o : Option Outcome) (entries : List Entry) → IsPossibleIfAny o → ArePossible entries
    → is_possible (unwrap_or (last_or o (map (λ entry. entry.outcome) (filter test entries))) (Exit 0)) ≡ true
last-possible test o [] p all = ends-possible o p
last-possible test o (x ∷ xs) p all = go (test x) (last-possible test (Some x.outcome) xs all.0 all.1) (last-possible test o xs p all.1)
  where
    go : (b : Bool) → is_possible (unwrap_or (last_or (Some x.outcome) (map (λ entry. entry.outcome) (filter test xs))) (Exit 0)) ≡ true
        → is_possible (unwrap_or (last_or o (map (λ entry. entry.outcome) (filter test xs))) (Exit 0)) ≡ true
        → is_possible (unwrap_or (last_or o (map (λ entry. entry.outcome) (if b then x ∷ filter test xs else filter test xs))) (Exit 0)) ≡ true
    go true here others = here
    go false here others = others

-- what a table of lines reads is possible
pub possible-at : (ls : List (List ℕ)) (entries table : List Entry) → SayEntries 1 ls entries → SameOutcomes table entries → HasPossibleOutcomes table
unfolding outcome_at
possible-at ls entries table says same name attempt phase =
    ap is_possible (same name attempt phase) ∙ last-possible (is_of name attempt phase) None entries tt (lines-possible 1 ls entries says)

-- and so is each of a table of no entries
pub possible-none : HasPossibleOutcomes []
unfolding outcome_at
possible-none name attempt phase = refl

pub is_possible_table : (ls : List (List ℕ)) (result : Result (List Entry) TableFault)
    → IfOk result (λ table. (entries : List Entry) × SayEntries 1 ls entries × SameOutcomes table entries) → IfOk result HasPossibleOutcomes
is_possible_table ls (Ok table) (entries, says, same) = possible-at ls entries table says same
is_possible_table ls (Err e) found = tt
