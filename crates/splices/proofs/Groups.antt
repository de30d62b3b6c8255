-- The edges of groups, and the nodes that they have on a side.
use Rattle.std.proofs.Common.{◌≡◌, ℕ, ◌+◌, ◌<◌, Bool, true, false, ◌||◌, ◌==◌, ◌++◌, List, [], ◌∷◌, length, map, get_or, take, refl, sym, ap, ◌∙◌, arith, subst}
use Rattle.std.proofs.lemmas.Bool.{ne_eqb}
use Rattle.std.proofs.lemmas.Grind.{flat_map-append}
use Rattle.std.proofs.lemmas.List.{append-nil, take_more}
use Rattle.std.proofs.lemmas.List.Folds.{list_any-append}
use Rattle.std.proofs.Math.Bool.{or-false}
use Rattle.std.specs.List.{list_any}
use Rattle.splices_flat.specs.declared.flat.Edge.{Edge}
use Rattle.splices_flat.specs.declared.flat.EdgeGroup.{EdgeGroup}
use Rattle.splices_flat.specs.declared.flat.Side.{Side}
use Rattle.splices_flat.specs.declared.flat.Side.TheVariants.{Parent, Child}
use Rattle.splices_flat.specs.Places.{edge, pairs, edges_of, nodes_on_side, other_side, is_end, AreSideMarks}

or_same : (b : Bool) → (b || b) ≡ b
or_same true = refl
or_same false = refl

-- the parents of edges from one node to others, of which there is one
row_parent : (p n c : ℕ) (cs : List ℕ) → is_end Parent (map (λ d. edge p d) (c ∷ cs)) n ≡ (p == n)
row_parent p n c [] = or-false (p == n)
row_parent p n c (d ∷ cs) = ap (λ (b : Bool). (p == n) || b) (row_parent p n d cs) ∙ or_same (p == n)

row_child : (p n : ℕ) (cs : List ℕ) → is_end Child (map (λ d. edge p d) cs) n ≡ list_any (λ m. m == n) cs
row_child p n [] = refl
row_child p n (c ∷ cs) = ap (λ (b : Bool). (c == n) || b) (row_child p n cs)

some_parents : (ps : List ℕ) (c : ℕ) (cs : List ℕ) (n : ℕ) → is_end Parent (pairs ps (c ∷ cs)) n ≡ list_any (λ m. m == n) ps
some_parents [] c cs n = refl
some_parents (p ∷ ps) c cs n =
    list_any-append (λ (e : Edge). e.parent == n) (map (λ d. edge p d) (c ∷ cs)) (pairs ps (c ∷ cs))
    ∙ ap (λ (b : Bool). b || is_end Parent (pairs ps (c ∷ cs)) n) (row_parent p n c cs) ∙ ap (λ (b : Bool). (p == n) || b) (some_parents ps c cs n)

some_children : (p : ℕ) (ps cs : List ℕ) (n : ℕ) → is_end Child (pairs (p ∷ ps) cs) n ≡ list_any (λ m. m == n) cs
some_children p [] cs n = ap (λ (es : List Edge). is_end Child es n) (append-nil (map (λ d. edge p d) cs)) ∙ row_child p n cs
some_children p (q ∷ ps) cs n =
    list_any-append (λ (e : Edge). e.child == n) (map (λ d. edge p d) cs) (pairs (q ∷ ps) cs)
    ∙ ap (λ (b : Bool). b || is_end Child (pairs (q ∷ ps) cs) n) (row_child p n cs) ∙ ap (λ (b : Bool). list_any (λ m. m == n) cs || b) (some_children q ps cs n)
    ∙ or_same (list_any (λ m. m == n) cs)

no_children : (ps : List ℕ) → pairs ps [] ≡ []
no_children [] = refl
no_children (p ∷ ps) = no_children ps

group_parents : (ps cs : List ℕ) (n : ℕ) → (cs ≡ [] → ⊥) → is_end Parent (pairs ps cs) n ≡ list_any (λ m. m == n) ps
group_parents ps [] n some = absurd (some refl)
group_parents ps (c ∷ cs) n some = some_parents ps c cs n

group_children : (ps cs : List ℕ) (n : ℕ) → (ps ≡ [] → ⊥) → is_end Child (pairs ps cs) n ≡ list_any (λ m. m == n) cs
group_children [] cs n some = absurd (some refl)
group_children (p ∷ ps) cs n some = some_children p ps cs n

-- a group has its nodes on a side where there are some on the other
some_ends : (side : Side) (g : EdgeGroup) (n : ℕ) → (nodes_on_side (other_side side) g ≡ [] → ⊥) → is_end side (pairs g.parents g.children) n ≡ list_any (λ m. m == n) (nodes_on_side side g)
some_ends Parent g n some = group_parents g.parents g.children n some
some_ends Child g n some = group_children g.parents g.children n some

-- and else has no edges
no_edges : (side : Side) (g : EdgeGroup) → nodes_on_side (other_side side) g ≡ [] → pairs g.parents g.children ≡ []
no_edges Parent g none = ap (pairs g.parents) none ∙ no_children g.parents
no_edges Child g none = ap (λ (ps : List ℕ). pairs ps g.children) none

edges_more : (groups : List EdgeGroup) (i : ℕ) (g : EdgeGroup) → i < length groups → g ≡ get_or groups i g → edges_of (take (i + 1) groups) ≡ edges_of (take i groups) ++ pairs g.parents g.children
edges_more groups i g lt is =
    ap edges_of (take_more groups i g lt ∙ ap (λ (h : EdgeGroup). take i groups ++ h ∷ []) (sym is))
    ∙ flat_map-append (λ (h : EdgeGroup). pairs h.parents h.children) (take i groups) (g ∷ []) ∙ ap (λ (es : List Edge). edges_of (take i groups) ++ es) (append-nil (pairs g.parents g.children))

-- one more group with edges
pub ends_more : (side : Side) (groups : List EdgeGroup) (i : ℕ) (g : EdgeGroup) (n : ℕ) → i < length groups → g ≡ get_or groups i g → (nodes_on_side (other_side side) g ≡ [] → ⊥)
    → is_end side (edges_of (take (i + 1) groups)) n ≡ (is_end side (edges_of (take i groups)) n || list_any (λ m. m == n) (nodes_on_side side g))
ends_more Parent groups i g n lt is some =
    ap (λ (es : List Edge). is_end Parent es n) (edges_more groups i g lt is) ∙ list_any-append (λ (e : Edge). e.parent == n) (edges_of (take i groups)) (pairs g.parents g.children)
    ∙ ap (λ (b : Bool). is_end Parent (edges_of (take i groups)) n || b) (some_ends Parent g n some)
ends_more Child groups i g n lt is some =
    ap (λ (es : List Edge). is_end Child es n) (edges_more groups i g lt is) ∙ list_any-append (λ (e : Edge). e.child == n) (edges_of (take i groups)) (pairs g.parents g.children)
    ∙ ap (λ (b : Bool). is_end Child (edges_of (take i groups)) n || b) (some_ends Child g n some)

-- one more without edges
pub edges_same : (side : Side) (groups : List EdgeGroup) (i : ℕ) (g : EdgeGroup) → i < length groups → g ≡ get_or groups i g → nodes_on_side (other_side side) g ≡ [] → edges_of (take (i + 1) groups) ≡ edges_of (take i groups)
edges_same side groups i g lt is none =
    edges_more groups i g lt is ∙ ap (λ (es : List Edge). edges_of (take i groups) ++ es) (no_edges side g none) ∙ append-nil (edges_of (take i groups))

pub some_if : (seen xs : List ℕ) (empty : Bool) → empty ≡ (length seen == 0) → empty ≡ false → seen ≡ xs → xs ≡ [] → ⊥
some_if [] xs empty is full same none = cc
some_if (y ∷ ys) xs empty is full same none = cc

apart : true ≡ false → ⊥
apart e = cc

pub none_if : (seen xs : List ℕ) (empty : Bool) → empty ≡ (length seen == 0) → empty ≡ true → seen ≡ xs → xs ≡ []
none_if [] xs empty is bare same = sym same
none_if (y ∷ ys) xs empty is bare same = absurd (apart (sym bare ∙ is ∙ ne_eqb (length (y ∷ ys)) 0 (λ e. omega arith)))

-- the marks once those of one more group are set
pub marks_more : (side : Side) (first : ℕ) (groups : List EdgeGroup) (i : ℕ) (g : EdgeGroup) (old new : List Bool) (seen : List ℕ) → i < length groups → g ≡ get_or groups i g → (nodes_on_side (other_side side) g ≡ [] → ⊥) → seen ≡ nodes_on_side side g → length new ≡ length old
    → AreSideMarks side first (edges_of (take i groups)) old → ((k : ℕ) → k < length old → get_or new k false ≡ (get_or old k false || list_any (λ n. n == first + k) seen)) → AreSideMarks side first (edges_of (take (i + 1) groups)) new
marks_more side first groups i g old new seen lt is some same len before more = λ k small.
    let low : k < length old = omega (arith, len) in
    more k low ∙ ap (λ (b : Bool). b || list_any (λ n. n == first + k) seen) (before k low)
    ∙ ap (λ (ns : List ℕ). is_end side (edges_of (take i groups)) (first + k) || list_any (λ n. n == first + k) ns) same
    ∙ sym (ends_more side groups i g (first + k) lt is some)

pub marks_same : (side : Side) (first : ℕ) (groups : List EdgeGroup) (i : ℕ) (g : EdgeGroup) (marks : List Bool) → i < length groups → g ≡ get_or groups i g → nodes_on_side (other_side side) g ≡ []
    → AreSideMarks side first (edges_of (take i groups)) marks → AreSideMarks side first (edges_of (take (i + 1) groups)) marks
marks_same side first groups i g marks lt is none before = subst (λ (es : List Edge). AreSideMarks side first es marks) (sym (edges_same side groups i g lt is none)) before
