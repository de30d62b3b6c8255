-- Splices as clusters, one within the other.
use Rattle.std.specs.Prelude.{ℕ, zero, suc, ◌+◌, ◌-◌, List, [], ◌∷◌, ◌++◌, length, drop, codes}
use Rattle.std.specs.Fmt.{decimal}
use Rattle.std.specs.List.{common_prefix_len}
use Rattle.std.specs.Str.{bytes_eq}
use Rattle.graph_text.specs.Names.{quoted_label}

-- four blanks for each depth
abbrev pub indent : ℕ → List ℕ
indent zero = []
indent (suc depth) = indent depth ++ codes "    "

-- What opens the cluster of a splice at this depth that begins before this node. Its name is no other cluster's, since a node begins at most one
-- of a depth.
abbrev pub cluster_line : (node depth : ℕ) → List ℕ
cluster_line node depth = codes "subgraph cluster_" ++ (decimal node ++ (codes "_" ++ (decimal depth ++ codes " {\n")))

-- the label of a cluster
abbrev pub label_line : List ℕ → List ℕ
label_line name = codes "label=" ++ (quoted_label name ++ codes ";\n")

-- the beginning of such a cluster, with the splice's name as label
abbrev pub opening : (node depth : ℕ) → List ℕ → List ℕ
opening node depth name =
    indent (depth + 1) ++ (cluster_line node depth ++ (indent (depth + 2) ++ label_line name))

-- the clusters of these splices, the first of which has this depth
abbrev pub openings : (node depth : ℕ) → List (List ℕ) → List ℕ
openings node depth [] = []
openings node depth (name ∷ names) = opening node depth name ++ openings node (depth + 1) names

-- the ends of as many clusters, the innermost first, of which the outermost has this depth
abbrev pub closings : (depth count : ℕ) → List ℕ
closings depth zero = []
closings depth (suc count) = indent (depth + suc count) ++ (codes "}\n" ++ closings depth count)

-- how many splices two nodes share, from the outermost on
abbrev pub shared : List (List ℕ) → List (List ℕ) → ℕ
shared before scope = common_prefix_len bytes_eq before scope

-- From one node to the next: the clusters that the next does not share end, and those in which it is beside them begin.
abbrev pub moved : (node : ℕ) → (before scope : List (List ℕ)) → List ℕ
moved node before scope =
    closings (shared before scope) (length before - shared before scope) ++ openings node (shared before scope) (drop (shared before scope) scope)
