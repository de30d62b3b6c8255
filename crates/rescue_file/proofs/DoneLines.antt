-- The lines of the marked nodes, one node after the other.
use Rattle.std.proofs.Common.{◌≡◌, ℕ, suc, ◌+◌, ◌<◌, ◌≤◌, Bool, true, false, cond, if◌then◌else◌, List, [], ◌∷◌, ◌++◌, length, map, drop, get_or, refl, sym, ap, ◌∙◌, arith, append_assoc, add-one, drop-cons, count_by}
use Rattle.std.proofs.lemmas.Grind.{common_steps}
use Rattle.std.proofs.lemmas.List.{append-nil}
use Rattle.std.proofs.lemmas.List.Sums.{sum_by-cons}
use Rattle.splices_flat.specs.declared.flat.FlatNode.{FlatNode}
use Rattle.rescue_file.specs.Written.{marked, done_line, done_lines}

abbrev pub node_names : List FlatNode → List (List ℕ)
node_names nodes = map (λ (node : FlatNode). node.name) nodes

abbrev pub lines_of : List FlatNode → List Bool → List ℕ
lines_of nodes marks = done_lines (marked (node_names nodes) marks)

-- as many as there are marks
pub marked_count : {A : Type 0} (xs : List A) (marks : List Bool) → length marks ≡ length xs → length (marked xs marks) ≡ count_by (λ mark. mark) marks
marked_count [] [] e = refl
marked_count [] (mark ∷ marks) e = absurd (omega arith)
marked_count (x ∷ xs) [] e = absurd (omega arith)
marked_count (x ∷ xs) (true ∷ marks) e =
    let below = marked_count xs marks (omega arith) in
    let more : count_by (λ mark. mark) (true ∷ marks) ≡ 1 + count_by (λ mark. mark) marks = sum_by-cons (λ (mark : Bool). cond mark 1 0) true marks in
    omega arith
marked_count (x ∷ xs) (false ∷ marks) e =
    let below = marked_count xs marks (omega arith) in
    let more : count_by (λ mark. mark) (false ∷ marks) ≡ 0 + count_by (λ mark. mark) marks = sum_by-cons (λ (mark : Bool). cond mark 1 0) false marks in
    omega arith

module _ (nodes : List FlatNode) (marks : List Bool) (i : ℕ) (node : FlatNode) (lt : i < length nodes) (same : length marks ≡ length nodes) (is : node ≡ get_or nodes i node) where
  cut_nodes : drop i nodes ≡ node ∷ drop (i + 1) nodes
  cut_nodes = rw add-one (drop-cons nodes i node lt ∙ ap (λ (n : FlatNode). n ∷ drop (suc i) nodes) (sym is))

  cut_marks : (mark : Bool) → get_or marks i false ≡ mark → drop i marks ≡ mark ∷ drop (i + 1) marks
  cut_marks mark at = rw add-one (drop-cons marks i false (omega arith) ∙ ap (λ (m : Bool). m ∷ drop (suc i) marks) at)

  first_line : (mark : Bool) → lines_of (node ∷ drop (i + 1) nodes) (mark ∷ drop (i + 1) marks) ≡ (if mark then done_line node.name else []) ++ lines_of (drop (i + 1) nodes) (drop (i + 1) marks)
  first_line true = refl
  first_line false = refl

  -- the line of one node more
  pub with_node : (old new text whole : List ℕ) (mark : Bool) → get_or marks i false ≡ mark → text ≡ node.name → new ≡ old ++ (if mark then done_line text else [])
      → old ++ lines_of (drop i nodes) (drop i marks) ≡ whole → new ++ lines_of (drop (i + 1) nodes) (drop (i + 1) marks) ≡ whole
  with_node old new text whole mark at named adds so_far =
      let later = lines_of (drop (i + 1) nodes) (drop (i + 1) marks) in
      ap (λ (t : List ℕ). t ++ later) (adds ∙ ap (λ (t : List ℕ). old ++ (if mark then done_line t else [])) named)
      ∙ append_assoc old (if mark then done_line node.name else []) later
      ∙ ap (λ (t : List ℕ). old ++ t) (sym (ap (λ (ns : List FlatNode). lines_of ns (drop i marks)) cut_nodes ∙ ap (lines_of (node ∷ drop (i + 1) nodes)) (cut_marks mark at) ∙ first_line mark))
      ∙ so_far

pub all_lines : (nodes : List FlatNode) (marks : List Bool) (i : ℕ) (text whole : List ℕ) → length nodes ≤ i → text ++ lines_of (drop i nodes) (drop i marks) ≡ whole → text ≡ whole
all_lines nodes marks i text whole past so_far =
    let none : drop i nodes ≡ [] = grind (arith, common_steps) in
    sym (append-nil text) ∙ ap (λ (ns : List FlatNode). text ++ lines_of ns (drop i marks)) (sym none) ∙ so_far
