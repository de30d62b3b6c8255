-- What is written is read again.
use Rattle.std.proofs.Common.{◌≡◌, ℕ, suc, ◌+◌, ◌<◌, ◌≤◌, Bool, true, false, List, [], ◌∷◌, length, map, get_or, Some, None, Ok, refl, sym, ap, subst, ◌∙◌, arith, length-append, bytes_eq}
use Rattle.std.proofs.lemmas.Bool.{false_from_ne_true, lt-ltb, cond-true}
use Rattle.std.proofs.lemmas.List.{length-map, get_or_append_left}
use Rattle.std.proofs.lemmas.List.Elements.{All-head, All-tail, All-cons, All-nil}
use Rattle.std.proofs.lemmas.List.Sums.{position_or_len_is}
use Rattle.std.proofs.lemmas.Slice.Eq.{bytes_eq-Decides}
use Rattle.std.specs.List.{All, range_with_len, position_or_len}
use Rattle.splices_flat.specs.declared.flat.FlatNode.{FlatNode}
use Rattle.splices_flat.specs.Dag.{Dag}
use Rattle.dag_graph.specs.Graph.{names_of, names_with_final}
use Rattle.rescue_file.specs.Written.{ordinary_names, marked, rescue_text_of}
use Rattle.rescue_file.specs.Grammar.{SayNodes}
use Rattle.rescue_file.specs.Reading.{number_of, rescued_of}
use Rattle.rescue_file.specs.Fit.{IsFit, AreFit}
use Rattle.rescue_file.proofs.LineReadings.{good, says_again}
use Rattle.rescue_file.proofs.FileReadings.{lines_again}
use Rattle.rescue_file.proofs.WrittenLines.{title, total_line, premarked_line, title_says, total_says, premarked_says, empty_says, done_words, done_says, written_lines}

-- The marked names are fit, and not more than all.
marked_fit : (names : List (List ℕ)) (marks : List Bool) → All IsFit names → All IsFit (marked names marks)
marked_fit [] marks fit = All-nil IsFit
marked_fit (name ∷ names) [] fit = All-nil IsFit
marked_fit (name ∷ names) (true ∷ marks) fit = All-cons IsFit name (marked names marks) (All-head IsFit name names fit) (marked_fit names marks (All-tail IsFit name names fit))
marked_fit (name ∷ names) (false ∷ marks) fit = marked_fit names marks (All-tail IsFit name names fit)

marked_few : (names : List (List ℕ)) (marks : List Bool) → length (marked names marks) ≤ length names
marked_few [] marks = omega arith
marked_few (name ∷ names) [] = omega arith
marked_few (name ∷ names) (true ∷ marks) = let below = marked_few names marks in omega arith
marked_few (name ∷ names) (false ∷ marks) = let below = marked_few names marks in omega arith

-- The number of an ordinary node is its place.
placed : (dag : Dag) → AreFit dag → (i : ℕ) → i < length dag.nodes → number_of dag (get_or (ordinary_names dag) i []) ≡ Some i
placed dag fit i lt =
    let names = ordinary_names dag in
    let all = names_of dag in
    let name = get_or names i [] in
    let count : length names ≡ length dag.nodes = length-map dag.nodes (λ (n : FlatNode). n.name) in
    let more = length-append names (names_with_final dag.final_node) in
    let inside : i < length all = omega arith in
    let at = λ (k : ℕ) (below : k < length names). get_or_append_left names (names_with_final dag.final_node) [] k below in
    let before : (k : ℕ) → k < i → bytes_eq name (get_or all k []) ≡ false =
    λ k low. false_from_ne_true (bytes_eq name (get_or all k [])) (λ yes.
    fit.apart k i low lt (sym ((bytes_eq-Decides name (get_or all k [])).0 yes ∙ at k (omega arith)))) in
    let here : bytes_eq name (get_or all i []) ≡ true = (bytes_eq-Decides name (get_or all i [])).1 (sym (at i (omega arith))) in
    let place : position_or_len (bytes_eq name) all ≡ i = position_or_len_is (bytes_eq name) all i [] (omega arith) before (λ _. here) in
    cond-true _ _ _ (lt-ltb _ _ (subst (λ (k : ℕ). k < length all) (sym place) inside)) ∙ ap (λ (k : ℕ). Some k) place

-- The names are those of the nodes from this place on.
abbrev AreFrom : Dag → ℕ → List (List ℕ) → Type 0
AreFrom dag at names = (i : ℕ) → i < length names → number_of dag (get_or names i []) ≡ Some (at + i)

first_is : (dag : Dag) (at : ℕ) (name : List ℕ) (names : List (List ℕ)) → AreFrom dag at (name ∷ names) → number_of dag name ≡ Some at
first_is dag at name names are = let here : at + 0 ≡ at = omega arith in are 0 (omega arith) ∙ ap (λ (k : ℕ). Some k) here

others_are : (dag : Dag) (at : ℕ) (name : List ℕ) (names : List (List ℕ)) → AreFrom dag at (name ∷ names) → AreFrom dag (at + 1) names
others_are dag at name names are = λ i lt. let below : at + suc i ≡ at + 1 + i = omega arith in are (suc i) (omega arith) ∙ ap (λ (k : ℕ). Some k) below

done_say : (dag : Dag) (number at : ℕ) (names : List (List ℕ)) (marks : List Bool) → All IsFit names → AreFrom dag at names → at + length names ≤ length dag.nodes
    → SayNodes dag number (map done_words (marked names marks)) (marked (range_with_len at (length names)) marks)
done_say dag number at [] marks fit are within = refl
done_say dag number at (name ∷ names) [] fit are within = refl
done_say dag number at (name ∷ names) (true ∷ marks) fit are within = (
  Some at,
  marked (range_with_len (at + 1) (length names)) marks,
  says_again dag number (done_words name) (Some at) (name, done_says number name (All-head IsFit name names fit), record { named = first_is dag at name names are; below = omega arith }),
  done_say dag (number + 1) (at + 1) names marks (All-tail IsFit name names fit) (others_are dag at name names are) (omega arith),
  refl,
)
done_say dag number at (name ∷ names) (false ∷ marks) fit are within = done_say dag number (at + 1) names marks (All-tail IsFit name names fit) (others_are dag at name names are) (omega arith)

pub read_again : (dag : Dag) (marks : List Bool) → AreFit dag → rescued_of dag (rescue_text_of (ordinary_names dag) marks) ≡ Ok (marked (range_with_len 0 (length dag.nodes)) marks)
read_again dag marks fit =
    let names = ordinary_names dag in
    let done = marked names marks in
    let count : length names ≡ length dag.nodes = length-map dag.nodes (λ (n : FlatNode). n.name) in
    let few = fit.few in
    let total_few : length names ≤ 65536 = omega arith in
    let done_few : length done ≤ 65536 = omega (arith, marked_few names marks) in
    let are : AreFrom dag 0 names = λ i lt. let zero_first : i ≡ 0 + i = omega arith in placed dag fit i (omega arith) ∙ ap (λ (k : ℕ). Some k) zero_first in
    let nodes = marked (range_with_len 0 (length names)) marks in
    let says : SayNodes dag 5 (map done_words done) nodes = done_say dag 5 0 names marks fit.fit are (omega arith) in
    let all : SayNodes dag 1 (title ∷ total_line (length names) ∷ premarked_line (length done) ∷ [] ∷ map done_words done) nodes =
    (None, nodes, says_again dag 1 title None (title_says dag 1), (None, nodes, says_again dag 2 (total_line (length names)) None (total_says dag 2 (length names) total_few), (None, nodes, says_again dag 3 (premarked_line (length done)) None (premarked_says dag 3 (length done) done_few), (None, nodes, says_again dag 4 [] None (empty_says dag 4), says, refl), refl), refl), refl) in
    lines_again dag 1 _ nodes (subst (λ (ls : List (List ℕ)). SayNodes dag 1 ls nodes) (sym (written_lines (length names) (length done) done total_few done_few (marked_fit names marks fit.fit))) all)
    ∙ ap (λ (n : ℕ). good (marked (range_with_len 0 n) marks)) count
