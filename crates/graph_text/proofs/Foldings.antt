-- When nodes may be folded by their classes, and which edges there are then.
use Rattle.std.proofs.Common.{◌≡◌, inl, inr, ℕ, suc, ◌+◌, ◌<◌, ◌≤◌, Bool, true, false, cond, ◌==◌, ◌&&◌, List, [], ◌∷◌, ◌++◌, map, length, get_or, set, Option, refl, sym, ap, ◌∙◌, subst, arith}
use Rattle.std.specs.Prelude.{is_some, slice_get, if◌then◌else◌}
use Rattle.std.specs.Option.{option_map}
use Rattle.splices_flat.specs.declared.flat.FlatNode.{FlatNode}
use Rattle.std.proofs.lemmas.Bool.{eq-eqb, eqb-true, ne_eqb, cases_Bool, cases_eq, and_parts, and_from}
use Rattle.std.proofs.lemmas.List.{append-nil, append_assoc, length_push, get_or_push, get_or_append_left, get_or_read, get_or-set_same, get_or-set_other}
use Rattle.std.proofs.lemmas.List.Elements.{All-contains, All-filter}
use Rattle.std.proofs.lemmas.List.Folds.{list_any_at, Any-from_list_any}
use Rattle.std.proofs.lemmas.List.FromFn.{get_or-range_with_len}
use Rattle.std.specs.List.{All, Contains, list_any, range_with_len}
use Rattle.dag_graph.specs.Graph.{parents_of, children_of, is_edge}
use Rattle.run_plan.specs.Plan.{Plan, count_of}
use Rattle.status_report.specs.declared.status.Status.{Status}
use Rattle.status_report.specs.Text.{reported}
use Rattle.graph_text.specs.declared.checking.Around.{Around}
use Rattle.graph_text.specs.Folding.{kind_of_flat, kind_at, AreMatched, IsLike, IsFolding, IsLikeFirst, IsClassesOf, IsAround, AreArounds}
use Rattle.graph_text.specs.Folded.{members_below, box_at, box_lines, is_box_edge, box_children, box_edges_at, box_edges}
use Rattle.graph_text.proofs.Rising.{contains-mapped, mapped-contains, first-below, first-contains, kept-more, kept-rising}

-- nodes of the same classes match
matched : (class_of : ℕ → ℕ) (xs ys l m : List ℕ) → IsClassesOf class_of xs l → IsClassesOf class_of ys m → l ≡ m → AreMatched class_of xs ys
matched class_of xs ys l m of_xs of_ys same x is =
    let there = of_xs.of_all (class_of x) (contains-mapped class_of xs x is) in
    let found = mapped-contains class_of ys (class_of x) (of_ys.of_nodes (class_of x) (subst (λ (zs : List ℕ). Contains zs (class_of x)) same there)) in
    (found.0, found.1, sym found.2)

module _ (plan : Plan) (class_of : ℕ → ℕ) where
  pub like-around : (a b : ℕ) (one other : Around) → kind_at plan a ≡ kind_at plan b → IsAround plan class_of a one → IsAround plan class_of b other
      → one.parents ≡ other.parents → one.children ≡ other.children → IsLike plan class_of a b
  like-around a b one other kind of_a of_b parents children = record {
    kind = kind;
    parents = matched class_of (parents_of plan.graph.dag a) (parents_of plan.graph.dag b) one.parents other.parents of_a.parents of_b.parents parents;
    children = matched class_of (children_of plan.graph.dag a) (children_of plan.graph.dag b) one.children other.children of_a.children of_b.children children;
  }

  like-itself : (a : ℕ) → IsLike plan class_of a a
  like-itself a = record { kind = refl; parents = λ x is. (x, is, refl); children = λ x is. (x, is, refl) }

  chained : (xs ys zs : List ℕ) → AreMatched class_of xs ys → AreMatched class_of ys zs → AreMatched class_of xs zs
  chained xs ys zs one two x is =
      let y = one x is in
      let z = two y.0 y.1 in
      (z.0, z.1, y.2 ∙ z.2)

  like-chained : (a b c : ℕ) → IsLike plan class_of a b → IsLike plan class_of b c → IsLike plan class_of a c
  like-chained a b c one two = record {
    kind = one.kind ∙ two.kind;
    parents = chained _ _ _ one.parents two.parents;
    children = chained _ _ _ one.children two.children;
  }

  -- nodes that are like the first of their class are folded
  pub folding-firsts : ((v : ℕ) → v < reported plan → IsLikeFirst plan class_of v) → IsFolding plan class_of
  folding-firsts firsts = record {
    alike = λ a b low_a low_b same.
        like-chained a (class_of a) b (firsts a low_a).forth (subst (λ (c : ℕ). IsLike plan class_of c b) (sym same) (firsts b low_b).back);
    first = λ a low. (firsts a low).first;
    itself = λ a low. (firsts a low).itself;
  }

  -- a node is added to those of which it is known what is around them
  pub arounds-more : (n : ℕ) (arounds : List Around) (more : Around) (all : List Around) → AreArounds plan class_of n arounds → all ≡ arounds ++ more ∷ [] → IsAround plan class_of n more
      → AreArounds plan class_of (n + 1) all
  arounds-more n arounds more all are added is = subst (AreArounds plan class_of (n + 1)) (sym added) (record {
    len = length_push arounds more ∙ ap (λ (k : ℕ). k + 1) are.len;
    each = λ node d low. elim (cases_eq node n) [
      | inl same ↦ subst (IsAround plan class_of node) (sym (ap (λ (k : ℕ). get_or (arounds ++ more ∷ []) k d) same ∙ get_or_push arounds more d n are.len))
          (subst (λ (k : ℕ). IsAround plan class_of k more) (sym same) is)
      | inr other ↦ let below : node < n = omega (arith, low, other) in
          subst (IsAround plan class_of node) (sym (get_or_append_left arounds (more ∷ []) d node (omega (arith, below, are.len)))) (are.each node d below)
    ];
  })

  -- a node that has the kind of the first of its class, and the same around it, is like it
  pub like-first : (arounds : List Around) (node first : ℕ) (one other : Around) → AreArounds plan class_of (reported plan) arounds → node < reported plan → first ≤ node → first ≡ class_of node
      → class_of first ≡ first → kind_at plan node ≡ kind_at plan first → one ≡ get_or arounds node one → other ≡ get_or arounds first other
      → (one.parents ≡ other.parents) × (one.children ≡ other.children) → IsLikeFirst plan class_of node
  like-first arounds node first one other are low at_most is itself kind read_one read_other same =
      let of_node = subst (IsAround plan class_of node) (sym read_one) (are.each node one low) in
      let of_first = subst (IsAround plan class_of first) (sym read_other) (are.each first other (omega (arith, low, at_most))) in
      record {
        first = omega (arith, at_most, is);
        itself = ap class_of (sym is) ∙ itself ∙ is;
        forth = subst (IsLike plan class_of node) is (like-around node first one other kind of_node of_first same.0 same.1);
        back = subst (λ (m : ℕ). IsLike plan class_of m node) is (like-around first node other one (sym kind) of_first of_node (sym same.0) (sym same.1));
      }

  -- nodes each of which is alone are folded
  pub folding-alone : ((v : ℕ) → v < reported plan → class_of v ≡ v) → IsFolding plan class_of
  folding-alone alone = record {
    alike = λ a b low_a low_b same. subst (IsLike plan class_of a) (sym (alone a low_a) ∙ same ∙ alone b low_b) (like-itself a);
    first = λ a low. let is = alone a low in omega (arith, is);
    itself = λ a low. ap class_of (alone a low);
  }

-- ordinary nodes are drawn
pub ordinary-drawn : (plan : Plan) (v : ℕ) → v < count_of plan → v < reported plan
ordinary-drawn plan v low =
    elim (cases_Bool (is_some plan.final_node)) [
      | inl there ↦ let is : reported plan ≡ suc (count_of plan) = ap (λ (b : Bool). if b then suc (count_of plan) else count_of plan) there in omega arith
      | inr none ↦ let is : reported plan ≡ count_of plan = ap (λ (b : Bool). if b then suc (count_of plan) else count_of plan) none in omega arith
    ]

-- children are ordinary nodes
pub children-below : (plan : Plan) → count_of plan ≡ length plan.graph.dag.nodes → (node : ℕ) → All (λ c. c < count_of plan) (children_of plan.graph.dag node)
children-below plan counted node =
    subst (λ (n : ℕ). All (λ c. c < n) (children_of plan.graph.dag node)) (sym counted)
    (All-filter (λ c. list_any (is_edge node c) plan.graph.dag.edges) (λ c. c < length plan.graph.dag.nodes) (range_with_len 0 (length plan.graph.dag.nodes)) (first-below (length plan.graph.dag.nodes)))

-- a test of numbers that one of a list passes
passed : (p : ℕ → Bool) (xs : List ℕ) (x : ℕ) → Contains xs x → p x ≡ true → list_any p xs ≡ true
passed p xs x (k, low, is) passes = list_any_at p xs k x low (subst (λ (y : ℕ). p y ≡ true) (sym is) passes)

passing : (p : ℕ → Bool) (xs : List ℕ) → list_any p xs ≡ true → (x : ℕ) × Contains xs x × (p x ≡ true)
passing p xs passes =
    let found = Any-from_list_any p xs passes in
    (found.1, (found.0, found.2, found.3), found.4)

-- The edges of a class are those of its first node.
module _ (plan : Plan) (class_of : ℕ → ℕ) (folding : IsFolding plan class_of) (counted : count_of plan ≡ length plan.graph.dag.nodes) (first : ℕ) (low : first < count_of plan) (named : class_of first ≡ first) where
  edge-found : (c : ℕ) → Contains (map class_of (children_of plan.graph.dag first)) c → (c < count_of plan) × (is_box_edge plan class_of first c ≡ true)
  edge-found c is =
      let child = mapped-contains class_of (children_of plan.graph.dag first) c is in
      let below : child.0 < count_of plan = All-contains (λ m. m < count_of plan) (children_of plan.graph.dag first) child.0 (children-below plan counted first) child.1 in
      let at_most : class_of child.0 ≤ child.0 = folding.first child.0 (ordinary-drawn plan child.0 below) in
      let has : list_any (λ m. class_of m == c) (children_of plan.graph.dag first) ≡ true =
      passed (λ m. class_of m == c) (children_of plan.graph.dag first) child.0 child.1 (eq-eqb (class_of child.0) c child.2) in (
        omega (arith, below, at_most, child.2),
        passed (λ n. (class_of n == first) && list_any (λ m. class_of m == c) (children_of plan.graph.dag n)) (range_with_len 0 (count_of plan)) first (first-contains (count_of plan) first low)
            (and_from _ _ (eq-eqb (class_of first) first named) has),
      )

  edge-from : (c : ℕ) → is_box_edge plan class_of first c ≡ true → Contains (map class_of (children_of plan.graph.dag first)) c
  edge-from c passes =
      let parent = passing (λ n. (class_of n == first) && list_any (λ m. class_of m == c) (children_of plan.graph.dag n)) (range_with_len 0 (count_of plan)) passes in
      let below : parent.0 < count_of plan = All-contains (λ m. m < count_of plan) (range_with_len 0 (count_of plan)) parent.0 (first-below (count_of plan)) parent.1 in
      let same : class_of parent.0 ≡ first = eqb-true (class_of parent.0) first (and_parts _ _ parent.2).0 in
      let child = passing (λ m. class_of m == c) (children_of plan.graph.dag parent.0) (and_parts _ _ parent.2).1 in
      let like = folding.alike parent.0 first (ordinary-drawn plan parent.0 below) (ordinary-drawn plan first low) (same ∙ sym named) in
      let other = like.children child.0 child.1 in
      subst (Contains (map class_of (children_of plan.graph.dag first))) (sym other.2 ∙ eqb-true (class_of child.0) c child.2)
      (contains-mapped class_of (children_of plan.graph.dag first) other.0 other.1)

  pub box-children-are : (list : List ℕ) → IsClassesOf class_of (children_of plan.graph.dag first) list → list ≡ box_children plan class_of first
  box-children-are list of_children =
      kept-rising list (count_of plan) (is_box_edge plan class_of first) of_children.rising
      (λ c is. edge-found c (of_children.of_nodes c is))
      (λ c below passes. of_children.of_all c (edge-from c passes))

-- at most one node is drawn beside the ordinary ones
pub drawn-few : (plan : Plan) → reported plan ≤ count_of plan + 1
drawn-few plan =
    elim (cases_Bool (is_some plan.final_node)) [
      | inl there ↦ let is : reported plan ≡ suc (count_of plan) = ap (λ (b : Bool). if b then suc (count_of plan) else count_of plan) there in omega arith
      | inr none ↦ let is : reported plan ≡ count_of plan = ap (λ (b : Bool). if b then suc (count_of plan) else count_of plan) none in omega arith
    ]

-- the members of a class are drawn
pub members-few : (plan : Plan) (class_of : ℕ → ℕ) (first : ℕ) → All (λ n. n ≤ count_of plan) (members_below class_of (reported plan) first)
members-few plan class_of first =
    All-filter (λ m. class_of m == first) (λ n. n ≤ count_of plan) (range_with_len 0 (reported plan))
    (λ k d low. let few = drawn-few plan in let below = first-below (reported plan) k d low in omega (arith, few, below))

-- a node is added to the members of its class
pub members-more : (class_of : ℕ → ℕ) (lists : List (List ℕ)) (here more : List ℕ) (node class v : ℕ) → class ≡ class_of node → class < length lists → here ≡ get_or lists class here
    → more ≡ here ++ node ∷ [] → get_or lists v [] ≡ members_below class_of node v → get_or (set lists class more) v [] ≡ members_below class_of (node + 1) v
members-more class_of lists here more node class v is low read added before =
    elim (cases_eq v class) [
      | inl same ↦
          let at : get_or (set lists class more) v [] ≡ more = ap (λ (k : ℕ). get_or (set lists class more) k []) same ∙ get_or-set_same lists class more [] low in
          let was : here ≡ members_below class_of node v = get_or_read lists class here low read [] ∙ ap (λ (k : ℕ). get_or lists k []) (sym same) ∙ before in
          let member : (class_of node == v) ≡ true = eq-eqb (class_of node) v (sym is ∙ sym same) in
          at ∙ added ∙ ap (λ (ns : List ℕ). ns ++ node ∷ []) was
          ∙ sym (kept-more (λ m. class_of m == v) node ∙ ap (λ (b : Bool). members_below class_of node v ++ cond b (node ∷ []) []) member)
      | inr other ↦
          let differs : (class_of node == v) ≡ false = ne_eqb (class_of node) v (λ e. other (sym e ∙ sym is)) in
          get_or-set_other lists class v more [] other ∙ before
          ∙ sym (kept-more (λ m. class_of m == v) node ∙ ap (λ (b : Bool). members_below class_of node v ++ cond b (node ∷ []) []) differs ∙ append-nil (members_below class_of node v))
    ]

-- nodes with the same submit file and the same folder are of one kind
pub same-kinds : (plan : Plan) (a b : ℕ) (one other : Option FlatNode) → one ≡ slice_get plan.graph.dag.nodes a → other ≡ slice_get plan.graph.dag.nodes b
    → option_map kind_of_flat one ≡ option_map kind_of_flat other → kind_at plan a ≡ kind_at plan b
same-kinds plan a b one other is_one is_other same = ap (option_map kind_of_flat) (sym is_one) ∙ same ∙ ap (option_map kind_of_flat) is_other

-- by the first numbers each node is alone
pub alone-first : (xs : List ℕ) (n count v : ℕ) → xs ≡ range_with_len 0 n → n ≡ count → v < count → get_or xs v 0 ≡ v
alone-first xs n count v are same low =
    let at : get_or (range_with_len 0 n) v 0 ≡ 0 + v = get_or-range_with_len 0 n v 0 (omega (arith, same, low)) in
    let is : get_or xs v 0 ≡ get_or (range_with_len 0 n) v 0 = ap (λ (ys : List ℕ). get_or ys v 0) are in
    omega (arith, at, is)

-- the children of a class are ordinary nodes
pub box-children-below : (plan : Plan) (class_of : ℕ → ℕ) (first : ℕ) → All (λ c. c < count_of plan) (box_children plan class_of first)
box-children-below plan class_of first =
    All-filter (is_box_edge plan class_of first) (λ c. c < count_of plan) (range_with_len 0 (count_of plan)) (first-below (count_of plan))

-- one more box, and the edges of one more
pub boxes-more : (plan : Plan) (class_of : ℕ → ℕ) (states : ℕ → Option Status) (n : ℕ) (start old now : List ℕ) → old ≡ start ++ box_lines plan class_of states n
    → now ≡ old ++ box_at plan class_of states n → now ≡ start ++ box_lines plan class_of states (n + 1)
boxes-more plan class_of states n start old now so_far added =
    let one : suc n ≡ n + 1 = omega arith in
    added ∙ ap (λ (t : List ℕ). t ++ box_at plan class_of states n) so_far ∙ append_assoc start (box_lines plan class_of states n) (box_at plan class_of states n)
    ∙ ap (λ (m : ℕ). start ++ box_lines plan class_of states m) one

pub edges-more : (plan : Plan) (class_of : ℕ → ℕ) (n : ℕ) (start old now : List ℕ) → old ≡ start ++ box_edges plan class_of n
    → now ≡ old ++ box_edges_at plan class_of n → now ≡ start ++ box_edges plan class_of (n + 1)
edges-more plan class_of n start old now so_far added =
    let one : suc n ≡ n + 1 = omega arith in
    added ∙ ap (λ (t : List ℕ). t ++ box_edges_at plan class_of n) so_far ∙ append_assoc start (box_edges plan class_of n) (box_edges_at plan class_of n)
    ∙ ap (λ (m : ℕ). start ++ box_edges plan class_of m) one
