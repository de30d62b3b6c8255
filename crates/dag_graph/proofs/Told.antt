-- What is in the lists of parents is in the edges.
use Rattle.std.proofs.Common.{◌≡◌, ℕ, zero, suc, ◌<◌, true, ◌==◌, List, [], ◌∷◌, length, map, refl, sym, ap, ◌∙◌, subst, arith, ⊎_elim}
use Rattle.std.proofs.lemmas.Bool.{cases_lt, and_from, and_parts, or_cases, eq-eqb, eqb-true, false≢true}
use Rattle.std.proofs.lemmas.List.{get_or_past}
use Rattle.std.proofs.lemmas.List.Folds.{list_any_at}
use Rattle.std.proofs.lemmas.List.Elements.{All-contains, All-filter}
use Rattle.std.specs.List.{Contains, All, range_with_len, list_any}
use Rattle.splices_flat.specs.declared.flat.Edge.{Edge}
use Rattle.splices_flat.specs.Dag.{IsBelow}
use Rattle.dag_graph.specs.Numbers.{has}
use Rattle.dag_graph.specs.Graph.{IsParent, is_edge, parents_among}
use Rattle.dag_graph.specs.Climb.{up}
use Rattle.dag_graph.proofs.Lists.{range_below}
use Rattle.dag_graph.proofs.Families.{has_range, lists_len, parents_at}

edge_is : (p c : ℕ) (e : Edge) → is_edge p c e ≡ true → e ≡ record { parent = p; child = c }
edge_is p c e t =
    let both = and_parts _ _ t in
    ap (λ (a : ℕ). record { parent = a; child = e.child }) (eqb-true _ _ both.0) ∙ ap (λ (b : ℕ). record { parent = p; child = b }) (eqb-true _ _ both.1)

pub any_edge : (p c : ℕ) (edges : List Edge) → list_any (is_edge p c) edges ≡ true → IsParent edges p c
any_edge p c [] t = absurd (false≢true t)
any_edge p c (e ∷ es) t = ⊎_elim
    (λ here. (zero, omega arith, edge_is p c e here))
    (λ later. let rest = any_edge p c es later in (suc rest.0, (let lt = rest.1 in omega (arith, lt)), rest.2))
    (or_cases _ _ t)

pub edge_any : (p c : ℕ) (edges : List Edge) → IsParent edges p c → list_any (is_edge p c) edges ≡ true
edge_any p c edges is =
    let e : Edge = record { parent = p; child = c } in
    list_any_at (is_edge p c) edges is.0 e is.1 (ap (is_edge p c) is.2 ∙ and_from _ _ (eq-eqb p p refl) (eq-eqb c c refl))

has_contains : (xs : List ℕ) (p : ℕ) → has xs p ≡ true → Contains xs p
has_contains [] p t = absurd (false≢true t)
has_contains (x ∷ xs) p t = ⊎_elim
    (λ here. (zero, omega arith, eqb-true _ _ here))
    (λ later. let rest = has_contains xs p later in (suc rest.0, (let lt = rest.1 in omega (arith, lt)), rest.2))
    (or_cases _ _ t)

contains_has : (xs : List ℕ) (p : ℕ) → Contains xs p → has xs p ≡ true
contains_has xs p is = list_any_at (λ m. m == p) xs is.0 p is.1 (eq-eqb _ _ is.2)

-- the lists of parents say what the edges say
pub record Tells (count : ℕ) (edges : List Edge) (parents : List (List ℕ)) : Type 0 where
  pub len : length parents ≡ count
  pub parent_below : (p c : ℕ) → IsParent edges p c → p < count
  pub child_below : (p c : ℕ) → IsParent edges p c → c < count
  pub listed : (p c : ℕ) → IsParent edges p c → Contains (up parents c) p
  pub said : (p c : ℕ) → Contains (up parents c) p → IsParent edges p c

pub tells : (count : ℕ) (edges : List Edge) (parents : List (List ℕ)) → All (IsBelow count) edges → parents ≡ map (parents_among count edges) (range_with_len 0 count) → Tells count edges parents
tells count edges parents within is = record {
  len = lists_len count edges parents is;
  parent_below = λ p c e. (All-contains (IsBelow count) edges (record { parent = p; child = c }) within e).parent;
  child_below = λ p c e. (All-contains (IsBelow count) edges (record { parent = p; child = c }) within e).child;
  listed = λ p c e.
      let below = All-contains (IsBelow count) edges (record { parent = p; child = c }) within e in
      subst (λ (xs : List ℕ). Contains xs p) (sym (parents_at count edges parents is c below.child))
      (has_contains (parents_among count edges c) p (has_range (λ q. list_any (is_edge q c) edges) count p below.parent ∙ edge_any p c edges e));
  said = λ p c e. ⊎_elim
      (λ small.
      let there : Contains (parents_among count edges c) p = subst (λ (xs : List ℕ). Contains xs p) (parents_at count edges parents is c small) e in
      let low : p < count = All-contains (λ m. m < count) (parents_among count edges c) p (All-filter (λ q. list_any (is_edge q c) edges) (λ m. m < count) (range_with_len 0 count) (range_below count)) there in
      any_edge p c edges (sym (has_range (λ q. list_any (is_edge q c) edges) count p low) ∙ contains_has (parents_among count edges c) p there))
      (λ high.
      let past : up parents c ≡ [] = get_or_past parents c [] (omega (arith, lists_len count edges parents is)) in
      let none : length (up parents c) ≡ 0 = ap (λ (xs : List ℕ). length xs) past in
      let lt = e.1 in
      absurd (omega (arith, lt, none)))
      (cases_lt c count);
}
