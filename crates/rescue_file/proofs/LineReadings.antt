-- What the lines that are written say, and that a line says an ordinary node.
use Rattle.std.proofs.Common.{◌≡◌, ℕ, ◌<◌, true, false, nat_lt, List, [], ◌∷◌, length, Option, None, Some, Result, Ok, Err, refl, sym, ap, subst, ◌∙◌, ⊎_elim, codes}
use Rattle.std.proofs.lemmas.Bool.{false≢true, both_ways, false_from_ne_true, eqb-true, ltb-true, lt-ltb}
use Rattle.std.specs.Str.{str_eq_ignore_ascii_case}
use Rattle.dag_reader.specs.Word.{PlacedText}
use Rattle.dag_reader.specs.Words.{words}
use Rattle.dag_reader.specs.Keywords.{is_keyword, is_comment, begins_with}
use Rattle.dag_reader.proofs.LineTexts.{IsText, text_again}
use Rattle.dag_reader.proofs.Parts.{chosen}
use Rattle.splices_flat.specs.Dag.{Dag}
use Rattle.rescue_file.specs.declared.fault.RescueFault.{RescueFault}
use Rattle.rescue_file.specs.Reading.{◌>>=◌, number_of, last_name, name_behind, words_say_node, text_says_node, rescue_name_at, ordinary_of, said_of_line, rescue_line_at}

abbrev some : {A : Type 0} → A → Option A
some x = Some x

abbrev pub good : {A : Type 0} → A → Result A RescueFault
good x = Ok x

good_is : {A : Type 0} (x y : A) → good x ≡ good y → x ≡ y
good_is x y e = cc

abbrev Is : List ℕ → PlacedText → Type 0
Is keyword w = is_keyword keyword w ≡ true

-- no words, or those of a comment
abbrev pub AreSilent : List PlacedText → Type 0
AreSilent [] = Unit {0}
AreSilent (first ∷ ws) = is_comment first ≡ true

-- The keyword begins no comment.
hash_not_done : (text : List ℕ) → begins_with 35 text ≡ true → str_eq_ignore_ascii_case text (codes "DONE") ≡ false
hash_not_done [] h = absurd (false≢true h)
hash_not_done (c ∷ cs) h = subst (λ (d : ℕ). str_eq_ignore_ascii_case (d ∷ cs) (codes "DONE") ≡ false) (sym (eqb-true c 35 h)) refl

no_comment : (keyword : PlacedText) → Is (codes "DONE") keyword → is_comment keyword ≡ false
unfolding is_keyword is_comment
no_comment keyword is = false_from_ne_true (begins_with 35 keyword.text) (λ yes. both_ways _ (hash_not_done keyword.text yes) is)

-- What is said is read.
-- the keyword DONE, in any case, and a name
abbrev SpellsDone : List ℕ → List PlacedText → Type 0
SpellsDone name ws = (keyword word : PlacedText) × (ws ≡ keyword ∷ word ∷ []) × Is (codes "DONE") keyword × (name ≡ word.text)

abbrev WordsSay : List PlacedText → Option (List ℕ) → Type 0
WordsSay ws None = AreSilent ws
WordsSay ws (Some name) = SpellsDone name ws

abbrev pub LineSays : ℕ → List ℕ → Option (List ℕ) → Type 0
LineSays number bytes o = IsText bytes × WordsSay (words number 0 bytes) o

pub record IsOrdinary (dag : Dag) (name : List ℕ) (node : ℕ) : Type 0 where
  pub named : number_of dag name ≡ Some node
  pub below : node < length dag.nodes

abbrev pub Says : Dag → ℕ → List ℕ → Option ℕ → Type 0
Says dag number bytes None = LineSays number bytes None
Says dag number bytes (Some node) = (name : List ℕ) × LineSays number bytes (Some name) × IsOrdinary dag name node

done_again : (keyword : PlacedText) (ws : List PlacedText) (name : List ℕ) → SpellsDone name (keyword ∷ ws) → (is_comment keyword ≡ false) × (name_behind keyword ws ≡ Some name)
unfolding name_behind
done_again keyword ws name (k, w, e, is, same) =
    let first : keyword ≡ k = cc in
    let more : ws ≡ w ∷ [] = cc in
    (ap is_comment first ∙ no_comment k is, ap (λ (x : PlacedText). name_behind x ws) first ∙ ap (name_behind k) more ∙ rw is (ap some (sym same)))

words_again : (number : ℕ) (ws : List PlacedText) (o : Option (List ℕ)) → WordsSay ws o → words_say_node number ws ≡ Ok o
words_again number [] None says = refl
words_again number [] (Some name) (k, w, e, is, same) = absurd cc
words_again number (first ∷ ws) None says = rw says refl
words_again number (first ∷ ws) (Some name) says = let p = done_again first ws name says in rw (p.0, p.1) refl

name_again : (number : ℕ) (bytes : List ℕ) (o : Option (List ℕ)) → LineSays number bytes o → rescue_name_at number bytes ≡ Ok o
unfolding rescue_name_at
name_again number bytes o says = ap (text_says_node number) (text_again number bytes says.0) ∙ words_again number (words number 0 bytes) o says.1

abbrev to_node : Result ℕ RescueFault → Result (Option ℕ) RescueFault
to_node r = r >>= λ node. Ok (Some node)

pub says_again : (dag : Dag) (number : ℕ) (bytes : List ℕ) (o : Option ℕ) → Says dag number bytes o → rescue_line_at dag number bytes ≡ Ok o
unfolding rescue_line_at
says_again dag number bytes None says = ap (λ (q : Result (Option (List ℕ)) RescueFault). q >>= said_of_line dag number) (name_again number bytes None says)
says_again dag number bytes (Some node) (name, says, is) =
    let below = lt-ltb node (length dag.nodes) is.below in
    ap (λ (q : Result (Option (List ℕ)) RescueFault). q >>= said_of_line dag number) (name_again number bytes (Some name) says)
    ∙ ap (λ (k : Option ℕ). to_node (ordinary_of dag number k)) is.named ∙ rw below refl

-- The node that a line says is an ordinary one.
ordinary_is : (dag : Dag) (number : ℕ) (k : Option ℕ) (node : ℕ) → ordinary_of dag number k ≡ Ok node → node < length dag.nodes
ordinary_is dag number None node e = absurd cc
ordinary_is dag number (Some n) node e =
    ⊎_elim
    (λ yes. subst (λ (m : ℕ). m < length dag.nodes) (good_is n node yes.1) (ltb-true n (length dag.nodes) yes.0))
    (λ no. absurd (let none = no.1 in cc))
    (chosen (nat_lt n (length dag.nodes)) _ _ (good node) e)

node_said : (r : Result ℕ RescueFault) (node : ℕ) → to_node r ≡ Ok (Some node) → r ≡ Ok node
node_said (Ok n) node e = let same : n ≡ node = cc in ap (λ (m : ℕ). good m) same
node_said (Err f) node e = absurd cc

said_ordinary : (dag : Dag) (number : ℕ) (q : Result (Option (List ℕ)) RescueFault) (node : ℕ) → (q >>= said_of_line dag number) ≡ Ok (Some node) → node < length dag.nodes
said_ordinary dag number (Ok None) node e = absurd cc
said_ordinary dag number (Ok (Some name)) node e = ordinary_is dag number (number_of dag name) node (node_said (ordinary_of dag number (number_of dag name)) node e)
said_ordinary dag number (Err f) node e = absurd cc

pub line_ordinary : (dag : Dag) (number : ℕ) (bytes : List ℕ) (node : ℕ) → rescue_line_at dag number bytes ≡ Ok (Some node) → node < length dag.nodes
unfolding rescue_line_at
line_ordinary dag number bytes node e = said_ordinary dag number (rescue_name_at number bytes) node e

-- What comes after the first word.
pub no_keyword : (keyword : PlacedText) (ws : List PlacedText) → is_keyword (codes "DONE") keyword ≡ false → None ≡ name_behind keyword ws
unfolding name_behind
no_keyword keyword ws is = sym (rw is refl)

pub with_keyword : (keyword : PlacedText) (ws : List PlacedText) → is_keyword (codes "DONE") keyword ≡ true → name_behind keyword ws ≡ last_name ws
unfolding name_behind
with_keyword keyword ws is = rw is refl
