-- Files that two nodes may write at once.
use Rattle.std.specs.Prelude.{◌≡◌, ◌⊎◌, ℕ, List, [], ◌∷◌, ◌++◌, Option, Some, None, if◌then◌else◌}
use Rattle.std.specs.Str.{bytes_eq}
use Rattle.dag_graph.specs.Graph.{IsAncestor}
use Rattle.splices_flat.specs.declared.flat.Edge.{Edge}
use Rattle.file_hints.specs.declared.outputs.Writer.{Writer}
use Rattle.file_hints.specs.declared.outputs.Clash.{Clash}

-- the last of some writers of this path
abbrev pub last_writer : Option Writer → List Writer → List ℕ → Option Writer
last_writer found [] path = found
last_writer found (w ∷ ws) path = last_writer (if bytes_eq w.path path then Some w else found) ws path

-- two nodes are one, or one of them is an ancestor of the other
abbrev pub AreRelated : List Edge → ℕ → ℕ → Type 0
AreRelated edges a b = (a ≡ b) ⊎ (IsAncestor edges a b ⊎ IsAncestor edges b a)

abbrev pub a_clash : Writer → Writer → Clash
a_clash v w = record { first = v.node; second = w.node; path = w.path }

-- the clashes with those of a writer, after the last one before it that writes the same file
abbrev pub HasClash : List Edge → Option Writer → Writer → (old new : List Clash) → Type 0
HasClash edges None w old new = new ≡ old
HasClash edges (Some v) w old new = (AreRelated edges v.node w.node × (new ≡ old)) ⊎ ((¬ AreRelated edges v.node w.node) × (new ≡ old ++ a_clash v w ∷ []))

-- the clashes of some writers, each with the last one before it
abbrev pub AreClashes : List Edge → (before ws : List Writer) → List Clash → Type 0
AreClashes edges before [] found = found ≡ []
AreClashes edges before (w ∷ ws) found =
    (here more : List Clash) × (found ≡ here ++ more) × HasClash edges (last_writer None before w.path) w [] here × AreClashes edges (before ++ w ∷ []) ws more
