-- The nodes that are named, one more.
use Rattle.std.proofs.Common.{◌≡◌, ℕ, ◌+◌, ◌<◌, ◌≤◌, List, [], ◌∷◌, ◌++◌, Bor, Some, None, map, length, take, drop, get_or, sym, ap, ◌∙◌, subst, append_assoc}
use Rattle.std.proofs.Common.{take-append-drop}
use Rattle.std.proofs.lemmas.List.{take_more, take_all, map_push, map-append}
use Rattle.std.specs.Str.{bytes_eq}
use Rattle.std.specs.Prelude.{position}
use Rattle.dag_graph.specs.Graph.{Network, names_of}
use Rattle.node_machine.specs.declared.Record.{Record}
use Rattle.run_plan.specs.Plan.{Plan}
use Rattle.failure_report.specs.declared.why.Reported.{Reported}
use Rattle.failure_report.specs.Named.{number_of_node, AreNumbers, IsReportedOfNode, AreReported, one_more_reported, IsUnknownLine, IsUnknownName}

pub reported-more : (plan : Plan) (past : List Record) (nodes : List ℕ) (i : ℕ) (reported new : List Reported) (one : Reported) → i < length nodes
    → AreReported plan past (take i nodes) reported → IsReportedOfNode plan past (get_or nodes i 0) one → new ≡ reported ++ one ∷ [] → AreReported plan past (take (i + 1) nodes) new
reported-more plan past nodes i reported new one less so_far here added =
    subst (AreReported plan past (take (i + 1) nodes)) (sym added)
    (subst (λ (ns : List ℕ). AreReported plan past ns (reported ++ one ∷ [])) (sym (take_more nodes i 0 less))
    (one_more_reported (take i nodes) reported (get_or nodes i 0) one so_far here))

pub reported-all : (plan : Plan) (past : List Record) (nodes : List ℕ) (i : ℕ) (reported : List Reported) → length nodes ≤ i → AreReported plan past (take i nodes) reported → AreReported plan past nodes reported
reported-all plan past nodes i reported over so_far = subst (λ (ns : List ℕ). AreReported plan past ns reported) (take_all i nodes over) so_far

-- the names as they are lent
abbrev pub lent_names : List (Bor (List ℕ)) → List (List ℕ)
lent_names names = map (λ (n : Bor (List ℕ)). n.now) names

lent-more : (names : List (Bor (List ℕ))) (i : ℕ) (d : Bor (List ℕ)) → i < length names → lent_names (take (i + 1) names) ≡ lent_names (take i names) ++ (get_or names i d).now ∷ []
lent-more names i d less =
    ap lent_names (take_more names i d less) ∙ map_push (λ (n : Bor (List ℕ)). n.now) (take i names) (get_or names i d)

pub numbers-more : (plan : Plan) (graph : Network) (names : List (Bor (List ℕ))) (i : ℕ) (d : Bor (List ℕ)) (numbers new : List ℕ) (number : ℕ) → graph ≡ plan.graph → i < length names
    → AreNumbers plan (lent_names (take i names)) numbers → position (bytes_eq (get_or names i d).now) (names_of graph.dag) ≡ Some number
    → new ≡ numbers ++ number ∷ [] → AreNumbers plan (lent_names (take (i + 1) names)) new
numbers-more plan graph names i d numbers new number same less so_far found added =
    let own : number_of_node plan (get_or names i d).now ≡ Some number = (λ k. position (bytes_eq (get_or names i d).now) (names_of (sym same k).dag)) ∙ found in
    ap (map (number_of_node plan)) (lent-more names i d less)
    ∙ map_push (number_of_node plan) (lent_names (take i names)) (get_or names i d).now
    ∙ (λ j. so_far j ++ own j ∷ [])
    ∙ sym (map_push Some numbers number)
    ∙ ap (map Some) (sym added)

pub numbers-all : (plan : Plan) (names : List (Bor (List ℕ))) (i : ℕ) (numbers : List ℕ) → length names ≤ i → AreNumbers plan (lent_names (take i names)) numbers
    → AreNumbers plan (lent_names names) numbers
numbers-all plan names i numbers over so_far = subst (λ (ns : List (Bor (List ℕ))). AreNumbers plan (lent_names ns) numbers) (take_all i names over) so_far

-- the first that is unknown
pub first-unknown : (plan : Plan) (graph : Network) (path : List ℕ) (names : List (Bor (List ℕ))) (i : ℕ) (d : Bor (List ℕ)) (numbers : List ℕ) (line : List ℕ) → graph ≡ plan.graph
    → i < length names → AreNumbers plan (lent_names (take i names)) numbers → position (bytes_eq (get_or names i d).now) (names_of graph.dag) ≡ None
    → IsUnknownLine path (get_or names i d).now line → IsUnknownName plan path (lent_names names) line
first-unknown plan graph path names i d numbers line same less so_far none reported = record {
  before = lent_names (take i names);
  name = (get_or names i d).now;
  behind = lent_names (drop (i + 1) names);
  stand =
      ap lent_names (sym (take-append-drop (i + 1) names))
      ∙ map-append (λ (n : Bor (List ℕ)). n.now) (take (i + 1) names) (drop (i + 1) names)
      ∙ ap (λ (l : List (List ℕ)). l ++ lent_names (drop (i + 1) names)) (lent-more names i d less)
      ∙ append_assoc (lent_names (take i names)) ((get_or names i d).now ∷ []) (lent_names (drop (i + 1) names));
  numbers = numbers;
  known = so_far;
  unknown = (λ k. position (bytes_eq (get_or names i d).now) (names_of (sym same k).dag)) ∙ none;
  reported = reported;
}

-- the parts of a line, one after another
pub parts-of : (b0 b1 b2 b3 b4 b5 a w1 m w2 n : List ℕ) → b0 ≡ [] → b1 ≡ b0 ++ a → b2 ≡ b1 ++ w1 → b3 ≡ b2 ++ m → b4 ≡ b3 ++ w2 → b5 ≡ b4 ++ n
    → b5 ≡ a ++ (w1 ++ (m ++ (w2 ++ n)))
parts-of b0 b1 b2 b3 b4 b5 a w1 m w2 n e0 e1 e2 e3 e4 e5 =
    let all : b5 ≡ (((a ++ w1) ++ m) ++ w2) ++ n =
    e5 ∙ ap (λ (b : List ℕ). b ++ n) (e4 ∙ ap (λ (b : List ℕ). b ++ w2) (e3 ∙ ap (λ (b : List ℕ). b ++ m) (e2 ∙ ap (λ (b : List ℕ). b ++ w1) (e1 ∙ ap (λ (b : List ℕ). b ++ a) e0)))) in
    all ∙ append_assoc ((a ++ w1) ++ m) w2 n ∙ append_assoc (a ++ w1) m (w2 ++ n) ∙ append_assoc a w1 (m ++ (w2 ++ n))
