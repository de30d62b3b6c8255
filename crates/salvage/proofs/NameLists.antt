-- Lists of names: those at whose places a mark is, those in a table, and those that are not in one.
use Rattle.std.proofs.Common.{◌≡◌, ◌∙◌, ◌+◌, ◌-◌, ◌<◌, ◌≤◌, ◌||◌, min, ℕ, suc, Bool, true, false, not, if◌then◌else◌, List, [], ◌∷◌, ◌++◌, length, map, filter, take, drop, get_or, refl, sym, ap, subst, arith, append_assoc, add-one, drop-cons}
use Rattle.std.specs.Str.{bytes_eq}
use Rattle.std.specs.List.{flat_map}
use Rattle.std.proofs.lemmas.Grind.{common_steps}
use Rattle.std.proofs.lemmas.List.{append-nil, take_more, take_min}
use Rattle.std.proofs.lemmas.List.Folds.{list_any-append}
use Rattle.std.proofs.lemmas.Slice.Eq.{bytes_eq-Decides}
use Rattle.splices_flat.specs.declared.flat.FlatNode.{FlatNode}
use Rattle.rescue_file.specs.Written.{marked}
use Rattle.salvage.specs.Carried.{is_among_names, marks_by_name, gone_names, gone_line, more_line, gone_lines}

abbrev pub node_names : List FlatNode → List (List ℕ)
node_names nodes = map (λ (node : FlatNode). node.name) nodes

-- the names at whose places a mark is
abbrev pub marked_of : List FlatNode → List Bool → List (List ℕ)
marked_of nodes marks = marked (node_names nodes) marks

module _ (nodes : List FlatNode) (marks : List Bool) (i : ℕ) (node : FlatNode) (lt : i < length nodes) (same : length marks ≡ length nodes) (is : node ≡ get_or nodes i node) where
  cut_nodes : drop i nodes ≡ node ∷ drop (i + 1) nodes
  cut_nodes = rw add-one (drop-cons nodes i node lt ∙ ap (λ (n : FlatNode). n ∷ drop (suc i) nodes) (sym is))

  cut_marks : (mark : Bool) → get_or marks i false ≡ mark → drop i marks ≡ mark ∷ drop (i + 1) marks
  cut_marks mark at = rw add-one (drop-cons marks i false (omega arith) ∙ ap (λ (m : Bool). m ∷ drop (suc i) marks) at)

  cut_both : (mark : Bool) → get_or marks i false ≡ mark → marked_of (drop i nodes) (drop i marks) ≡ marked_of (node ∷ drop (i + 1) nodes) (mark ∷ drop (i + 1) marks)
  cut_both mark at = ap (λ (ns : List FlatNode). marked_of ns (drop i marks)) cut_nodes ∙ ap (marked_of (node ∷ drop (i + 1) nodes)) (cut_marks mark at)

  -- one node more that is marked, and one that is not
  pub with_marked : (old new whole : List (List ℕ)) (name : List ℕ) → get_or marks i false ≡ true → name ≡ node.name → new ≡ old ++ name ∷ []
      → old ++ marked_of (drop i nodes) (drop i marks) ≡ whole → new ++ marked_of (drop (i + 1) nodes) (drop (i + 1) marks) ≡ whole
  with_marked old new whole name at named adds so_far =
      let later = marked_of (drop (i + 1) nodes) (drop (i + 1) marks) in
      ap (λ (t : List (List ℕ)). t ++ later) (adds ∙ ap (λ (n : List ℕ). old ++ n ∷ []) named)
      ∙ append_assoc old (node.name ∷ []) later
      ∙ ap (λ (t : List (List ℕ)). old ++ t) (sym (cut_both true at))
      ∙ so_far

  pub with_unmarked : (old whole : List (List ℕ)) → get_or marks i false ≡ false
      → old ++ marked_of (drop i nodes) (drop i marks) ≡ whole → old ++ marked_of (drop (i + 1) nodes) (drop (i + 1) marks) ≡ whole
  with_unmarked old whole at so_far = ap (λ (t : List (List ℕ)). old ++ t) (sym (cut_both false at)) ∙ so_far

-- no node more
pub all_marked : (nodes : List FlatNode) (marks : List Bool) (i : ℕ) (names whole : List (List ℕ)) → length nodes ≤ i
    → names ++ marked_of (drop i nodes) (drop i marks) ≡ whole → names ≡ whole
all_marked nodes marks i names whole past so_far =
    let none : drop i nodes ≡ [] = grind (arith, common_steps) in
    sym (append-nil names) ∙ ap (λ (ns : List FlatNode). names ++ marked_of ns (drop i marks)) (sym none) ∙ so_far

-- these names are in a table, and no others
abbrev pub HasNames : List (List ℕ) → List (List ℕ) → Type 0
HasNames table names = (name : List ℕ) → is_among_names table name ≡ is_among_names names name

-- one name more, which is in the table already
there : (table names : List (List ℕ)) (one name : List ℕ) (same : Bool) → bytes_eq name one ≡ same → is_among_names table one ≡ true → HasNames table names
    → is_among_names table name ≡ (is_among_names names name || (same || false))
there table names one name true eq in_table has =
    let is : name ≡ one = (bytes_eq-Decides name one).0 eq in
    let yes : is_among_names table name ≡ true = ap (is_among_names table) is ∙ in_table in
    let old : is_among_names names name ≡ true = sym (has name) ∙ yes in
    yes ∙ sym (ap (λ (b : Bool). b || true) old)
there table names one name false eq in_table has = has name ∙ orf (is_among_names names name) where
  orf : (b : Bool) → b ≡ (b || false)
  orf true = refl
  orf false = refl

pub kept_name : (table names : List (List ℕ)) (one : List ℕ) → is_among_names table one ≡ true → HasNames table names → HasNames table (names ++ one ∷ [])
kept_name table names one in_table has = λ name.
    there table names one name (bytes_eq name one) refl in_table has ∙ sym (list_any-append (bytes_eq name) names (one ∷ []))

-- one name more, which is added to it
pub added_name : (table new names : List (List ℕ)) (one : List ℕ) → new ≡ table ++ one ∷ [] → HasNames table names → HasNames new (names ++ one ∷ [])
added_name table new names one adds has = λ name.
    ap (λ (t : List (List ℕ)). is_among_names t name) adds ∙ list_any-append (bytes_eq name) table (one ∷ [])
    ∙ ap (λ (b : Bool). b || (bytes_eq name one || false)) (has name) ∙ sym (list_any-append (bytes_eq name) names (one ∷ []))

-- one name more of a list
next_name : (names : List (List ℕ)) (i : ℕ) (name : List ℕ) → i < length names → name ≡ get_or names i name → take (i + 1) names ≡ take i names ++ name ∷ []
next_name names i name lt is = take_more names i name lt ∙ ap (λ (n : List ℕ). take i names ++ n ∷ []) (sym is)

pub next_kept : (table names : List (List ℕ)) (i : ℕ) (name : List ℕ) → i < length names → name ≡ get_or names i name → is_among_names table name ≡ true
    → HasNames table (take i names) → HasNames table (take (i + 1) names)
next_kept table names i name lt is in_table has = subst (HasNames table) (sym (next_name names i name lt is)) (kept_name table (take i names) name in_table has)

pub next_added : (table new names : List (List ℕ)) (i : ℕ) (name added : List ℕ) → i < length names → name ≡ get_or names i name → added ≡ name → new ≡ table ++ added ∷ []
    → HasNames table (take i names) → HasNames new (take (i + 1) names)
next_added table new names i name added lt is same adds has =
    subst (HasNames new) (sym (next_name names i name lt is))
    (added_name table new (take i names) name (adds ∙ ap (λ (n : List ℕ). table ++ n ∷ []) same) has)

-- what is made of names by a table that has these
pub marks-same : (table done names : List (List ℕ)) → HasNames table done → map (is_among_names table) names ≡ marks_by_name done names
marks-same table done [] has = refl
marks-same table done (name ∷ names) has = λ j. has name j ∷ marks-same table done names has j

pub gone-same : (table names done : List (List ℕ)) → HasNames table names → filter (λ name. not (is_among_names table name)) done ≡ gone_names done names
gone-same table names [] has = refl
gone-same table names (name ∷ done) has =
    ap (λ (b : Bool). if not b then name ∷ filter (λ n. not (is_among_names table n)) done else filter (λ n. not (is_among_names table n)) done) (has name)
    ∙ ap (λ (rest : List (List ℕ)). if not (is_among_names names name) then name ∷ rest else rest) (gone-same table names done has)

-- the lines of the names that are gone: some of the first, and how many more there are
pub all_told : (old first new : List ℕ) (gone part : List (List ℕ)) (told more : ℕ) → told ≡ min 20 (length gone) → part ≡ take told gone → more ≡ length gone - told
    → first ≡ old ++ flat_map gone_line part → new ≡ first ++ more_line more → new ≡ old ++ gone_lines gone
all_told old first new gone part told more is cut left so_far adds =
    let some : part ≡ take 20 gone = cut ∙ ap (λ (n : ℕ). take n gone) is ∙ take_min 20 gone in
    let rest : more ≡ length gone - 20 = omega (arith, is, left) in
    adds ∙ ap (λ (t : List ℕ). t ++ more_line more) so_far
    ∙ append_assoc old (flat_map gone_line part) (more_line more)
    ∙ ap (λ (ns : List (List ℕ)). old ++ (flat_map gone_line ns ++ more_line more)) some
    ∙ ap (λ (n : ℕ). old ++ (flat_map gone_line (take 20 gone) ++ more_line n)) rest
