-- The text of a rescue file.
use Rattle.std.specs.Prelude.{ℕ, Bool, List, [], ◌∷◌, ◌++◌, length, map, codes, decimal, if◌then◌else◌}
use Rattle.std.specs.List.{flat_map}
use Rattle.splices_flat.specs.Dag.{Dag}

-- the full names of the ordinary nodes in plan order
abbrev pub ordinary_names : Dag → List (List ℕ)
ordinary_names dag = map (λ node. node.name) dag.nodes

-- those things of a list at whose places a mark is
abbrev pub marked : {A : Type 0} → List A → List Bool → List A
marked [] marks = []
marked (x ∷ xs) [] = []
marked (x ∷ xs) (mark ∷ marks) = if mark then x ∷ marked xs marks else marked xs marks

-- `DONE name`
abbrev pub done_line : List ℕ → List ℕ
done_line name = codes "DONE " ++ (name ++ codes "\n")

abbrev pub done_lines : List (List ℕ) → List ℕ
done_lines names = flat_map done_line names

-- two comments and an empty line: how many ordinary nodes there are, and how many of them are marked
abbrev pub head_text : ℕ → ℕ → List ℕ
head_text total done = codes "# Rescue DAG file\n"
    ++ (codes "# Total number of Nodes: " ++ (decimal total
    ++ (codes "\n# Nodes premarked DONE: " ++ (decimal done ++ codes "\n\n"))))

-- the head, and a line for each marked node
abbrev pub rescue_text_of : List (List ℕ) → List Bool → List ℕ
rescue_text_of names marks =
    head_text (length names) (length (marked names marks)) ++ done_lines (marked names marks)
