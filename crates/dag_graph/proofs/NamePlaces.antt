-- Places of names in lists that grow.
use Rattle.std.proofs.Common.{◌≡◌, ℕ, ◌+◌, ◌<◌, ◌≤◌, Bool, true, false, not, cond, eqb, ◌++◌, List, [], ◌∷◌, length, map, take, get_or, Option, Some, None, refl, sym, ap, ◌∙◌, subst, arith, ⊎_elim, position, if◌then◌else◌}
use Rattle.std.proofs.lemmas.Bool.{cases_Bool, cases_lt, both_ways, false_from_ne_true, lt-ltb, le-ltb, eq-eqb, ne_eqb, cond-true, cond-false}
use Rattle.std.proofs.lemmas.List.{length_push, length-map, map_more, length-take-le}
use Rattle.std.proofs.lemmas.List.Folds.{position_or_len_push}
use Rattle.std.proofs.lemmas.List.Sums.{prefix_len-le-length}
use Rattle.std.specs.List.{position_or_len}
use Rattle.std.proofs.lemmas.Slice.Eq.{bytes_eq-Decides}
use Rattle.std.specs.Option.{option_or, is_some}
use Rattle.std.specs.Str.{bytes_eq}
use Rattle.splices_flat.specs.declared.flat.FlatNode.{FlatNode}
use Rattle.splices_flat.specs.Dag.{Dag}
use Rattle.dag_graph.specs.Graph.{names_of, names_with_final}
use Rattle.dag_graph.specs.Names.{GivesPlaces, with_name}

none_or : {X : Type 0} (o : Option X) → option_or o None ≡ o
none_or None = refl
none_or (Some x) = refl

-- the first place in a list with one element more
position_push : {X : Type 0} (p : X → Bool) (xs : List X) (y : X) → position p (xs ++ y ∷ []) ≡ option_or (position p xs) (if p y then Some (length xs) else None)
position_push p xs y = ⊎_elim
    (λ lt.
    let old : position p xs ≡ Some (position_or_len p xs) = cond-true _ _ _ (lt-ltb _ _ lt) in
    let same : position_or_len p (xs ++ y ∷ []) ≡ position_or_len p xs = position_or_len_push p xs y ∙ cond-false (eqb (position_or_len p xs) (length xs)) _ _ (ne_eqb _ _ (λ e. absurd (omega arith))) in
    let inside : position_or_len p (xs ++ y ∷ []) < length (xs ++ y ∷ []) = omega (arith, same, length_push xs y) in
    cond-true _ _ _ (lt-ltb _ _ inside) ∙ ap Some same ∙ sym (ap (λ o. option_or o (if p y then Some (length xs) else None)) old))
    (λ le.
    let none : position p xs ≡ None = cond-false _ _ _ (le-ltb _ _ le) in
    let all : position_or_len p xs ≡ length xs = omega (arith, prefix_len-le-length (λ x. not (p x)) xs) in
    let new : position_or_len p (xs ++ y ∷ []) ≡ length xs + cond (p y) 0 1 = position_or_len_push p xs y ∙ cond-true (eqb (position_or_len p xs) (length xs)) _ _ (eq-eqb _ _ all) in
    ⊎_elim
    (λ yes.
    let at : position_or_len p (xs ++ y ∷ []) ≡ length xs + 0 = new ∙ ap (λ (b : Bool). length xs + cond b 0 1) yes in
    let is : position_or_len p (xs ++ y ∷ []) ≡ length xs = omega arith in
    let inside : position_or_len p (xs ++ y ∷ []) < length (xs ++ y ∷ []) = omega (arith, length_push xs y) in
    cond-true _ _ _ (lt-ltb _ _ inside) ∙ ap Some is ∙ sym (ap (λ (b : Bool). option_or None (if b then Some (length xs) else None)) yes) ∙ sym (ap (λ o. option_or o (if p y then Some (length xs) else None)) none))
    (λ no.
    let at : position_or_len p (xs ++ y ∷ []) ≡ length xs + 1 = new ∙ ap (λ (b : Bool). length xs + cond b 0 1) no in
    let past : length (xs ++ y ∷ []) ≤ position_or_len p (xs ++ y ∷ []) = omega (arith, length_push xs y) in
    cond-false _ _ _ (le-ltb _ _ past) ∙ sym (ap (λ (b : Bool). option_or None (if b then Some (length xs) else None)) no) ∙ sym (ap (λ o. option_or o (if p y then Some (length xs) else None)) none))
    (cases_Bool (p y)))
    (cases_lt (position_or_len p xs) (length xs))

pub places_push : (before after : List ℕ → Option ℕ) (names : List (List ℕ)) (new : List ℕ) (number : ℕ) → number ≡ length names → GivesPlaces before names → ((name : List ℕ) → after name ≡ with_name before new number name) → GivesPlaces after (names ++ new ∷ [])
places_push before after names new number len gives more = λ name.
    more name ∙ ap (λ (n : ℕ). with_name before new n name) len ∙ ap (λ o. option_or o (if bytes_eq name new then Some (length names) else None)) (gives name) ∙ sym (position_push (bytes_eq name) names new)

-- a name that had no number gets one
pub named_new : (get : List ℕ → Option ℕ) (new other : List ℕ) (number : ℕ) (r : Option ℕ) → get new ≡ None → r ≡ cond (bytes_eq new other) (Some number) (get other) → r ≡ with_name get new number other
named_new get new other number r absent is = ⊎_elim
    (λ yes.
    let same : new ≡ other = (bytes_eq-Decides new other).0 yes in
    let back : bytes_eq other new ≡ true = (bytes_eq-Decides other new).1 (sym same) in
    let none : get other ≡ None = ap get (sym same) ∙ absent in
    is ∙ cond-true (bytes_eq new other) (Some number) (get other) yes ∙ sym (ap (λ (b : Bool). option_or None (if b then Some number else None)) back) ∙ sym (ap (λ o. option_or o (if bytes_eq other new then Some number else None)) none))
    (λ no.
    let back : bytes_eq other new ≡ false = false_from_ne_true (bytes_eq other new) (λ t. both_ways (bytes_eq new other) no ((bytes_eq-Decides new other).1 (sym ((bytes_eq-Decides other new).0 t)))) in
    is ∙ cond-false (bytes_eq new other) (Some number) (get other) no ∙ sym (none_or (get other)) ∙ sym (ap (λ (b : Bool). option_or (get other) (if b then Some number else None)) back))
    (cases_Bool (bytes_eq new other))

pub absent_none : {X : Type 0} (o : Option X) (b : Bool) → b ≡ is_some o → b ≡ false → o ≡ None
absent_none None b is f = refl
absent_none (Some x) b is f = absurd (both_ways b f is)

-- the name of one node more
pub node_more : (nodes seen : List FlatNode) (node : FlatNode) (text : List ℕ) (i : ℕ) (before after : List ℕ → Option ℕ) → seen ≡ nodes → i < length seen → node ≡ get_or seen i node → text ≡ node.name → GivesPlaces before (map (λ (n : FlatNode). n.name) (take i nodes)) → ((name : List ℕ) → after name ≡ with_name before text i name) → GivesPlaces after (map (λ (n : FlatNode). n.name) (take (i + 1) nodes))
node_more nodes seen node text i before after same lt read is gives more =
    let turn : i < length nodes = subst (λ (ns : List FlatNode). i < length ns) same lt in
    let there : node ≡ get_or nodes i node = subst (λ (ns : List FlatNode). node ≡ get_or ns i node) same read in
    let len : i ≡ length (map (λ (n : FlatNode). n.name) (take i nodes)) = sym (length-map (take i nodes) (λ (n : FlatNode). n.name) ∙ length-take-le i nodes (omega arith)) in
    let names : map (λ (n : FlatNode). n.name) (take (i + 1) nodes) ≡ map (λ (n : FlatNode). n.name) (take i nodes) ++ text ∷ [] = map_more (λ (n : FlatNode). n.name) nodes i node turn ∙ ap (λ (t : List ℕ). map (λ (n : FlatNode). n.name) (take i nodes) ++ t ∷ []) (sym (is ∙ ap (λ (n : FlatNode). n.name) there)) in
    subst (GivesPlaces after) (sym names) (places_push before after (map (λ (n : FlatNode). n.name) (take i nodes)) text i len gives more)

-- the name of the FINAL node
pub final_more : (dag : Dag) (node : FlatNode) (text : List ℕ) (i : ℕ) (before after : List ℕ → Option ℕ) → dag.final_node ≡ Some node → i ≡ length dag.nodes → text ≡ node.name → GivesPlaces before (map (λ (n : FlatNode). n.name) dag.nodes) → ((name : List ℕ) → after name ≡ with_name before text i name) → GivesPlaces after (names_of dag)
final_more dag node text i before after final count is gives more =
    let len : i ≡ length (map (λ (n : FlatNode). n.name) dag.nodes) = count ∙ sym (length-map dag.nodes (λ (n : FlatNode). n.name)) in
    let names : names_of dag ≡ map (λ (n : FlatNode). n.name) dag.nodes ++ text ∷ [] = ap (λ (o : Option FlatNode). map (λ (n : FlatNode). n.name) dag.nodes ++ names_with_final o) final ∙ ap (λ (t : List ℕ). map (λ (n : FlatNode). n.name) dag.nodes ++ t ∷ []) (sym is) in
    subst (GivesPlaces after) (sym names) (places_push before after (map (λ (n : FlatNode). n.name) dag.nodes) text i len gives more)
