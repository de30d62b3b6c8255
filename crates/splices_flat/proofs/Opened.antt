-- Forests of opened files: how many nodes and splices they have, and what they are joined.
use Rattle.std.proofs.Common.{◌≡◌, ℕ, suc, ◌+◌, List, [], ◌∷◌, ◌++◌, length, refl, sym, ap, ◌∙◌, append_assoc, add_assoc, add-zero, arith}
use Rattle.std.proofs.lemmas.Grind.{flat_map-append}
use Rattle.std.proofs.lemmas.List.{length-append}
use Rattle.std.specs.List.{flat_map}
use Rattle.splices_flat.specs.declared.flat.FlatNode.{FlatNode}
use Rattle.splices_flat.specs.declared.flat.Settings.{Settings}
use Rattle.splices_flat.specs.declared.flat.EdgeGroup.{EdgeGroup}
use Rattle.splices_flat.specs.declared.part.Part.{Part}
use Rattle.splices_flat.specs.declared.used.Used.{Used}
use Rattle.splices_flat.specs.Nodes.{Declared, jobs_in, declared_nodes, own_count}
use Rattle.splices_flat.specs.Forest.{Forest, none, more, OpenFile, inside, opened_as, forest_files, forest_count, job_nodes}
use Rattle.splices_flat.specs.Edges.{file_edges, part_of, forest_edges, forest_parts}
use Rattle.splices_flat.specs.Opening.{forests_joined, with_forest, forest_declared, forest_splices}

pub joined-none : (f : Forest) → forests_joined f none ≡ f
joined-none none = refl
joined-none (more name file inner others) = ap (λ (g : Forest). more name file inner g) (joined-none others)

pub joined_assoc : (f g h : Forest) → forests_joined (forests_joined f g) h ≡ forests_joined f (forests_joined g h)
joined_assoc none g h = refl
joined_assoc (more name file inner others) g h = ap (λ (k : Forest). more name file inner k) (joined_assoc others g h)

-- How many nodes and splices.
pub used_is : (u v : Used) → u.nodes ≡ v.nodes → u.splices ≡ v.splices → u ≡ v
used_is u v a b = ap (λ (n : ℕ). record { nodes = n; splices = u.splices }) a ∙ ap (λ (n : ℕ). record { nodes = v.nodes; splices = n }) b

pub declared-joined : (f g : Forest) → forest_declared (forests_joined f g) ≡ forest_declared f + forest_declared g
declared-joined none g = omega arith
declared-joined (more name file inner others) g =
    let rest : forest_declared (forests_joined others g) ≡ forest_declared others + forest_declared g = declared-joined others g in
    omega arith

pub splices-joined : (f g : Forest) → forest_splices (forests_joined f g) ≡ forest_splices f + forest_splices g
splices-joined none g = omega arith
splices-joined (more name file inner others) g =
    let rest : forest_splices (forests_joined others g) ≡ forest_splices others + forest_splices g = splices-joined others g in
    omega arith

pub used-joined : (u : Used) (f g : Forest) → with_forest (with_forest u f) g ≡ with_forest u (forests_joined f g)
used-joined u f g =
    let a : forest_declared (forests_joined f g) ≡ forest_declared f + forest_declared g = declared-joined f g in
    let b : forest_splices (forests_joined f g) ≡ forest_splices f + forest_splices g = splices-joined f g in
    used_is _ _ (omega arith) (omega arith)

pub used-none : (u : Used) → with_forest u none ≡ u
used-none u = used_is _ _ (add-zero u.nodes) (add-zero u.splices)

-- The forests.
pub files-joined : (prefix : List ℕ) (f g : Forest) → forest_files prefix (forests_joined f g) ≡ forest_files prefix f ++ forest_files prefix g
files-joined prefix none g = refl
files-joined prefix (more name file inner others) g =
    let own = opened_as (inside prefix name) file inner ∷ forest_files (inside prefix name) inner in
    ap (λ (ns : List OpenFile). own ++ ns) (files-joined prefix others g) ∙ sym (append_assoc own (forest_files prefix others) (forest_files prefix g))

pub nodes_of-length : (prefix folder : List ℕ) (settings : ℕ → Settings) (place : ℕ) (ds : List Declared) → length (declared_nodes prefix folder settings place ds) ≡ length ds
nodes_of-length prefix folder settings place [] = refl
nodes_of-length prefix folder settings place (d ∷ ds) = ap (λ (n : ℕ). suc n) (nodes_of-length prefix folder settings (place + 1) ds)

pub own-length : (f : OpenFile) → length (job_nodes f) ≡ own_count f.said.commands
own-length f = nodes_of-length _ _ _ 0 (jobs_in f.said.commands)

pub nodes-length : (prefix : List ℕ) (f : Forest) → length (flat_map job_nodes (forest_files prefix f)) ≡ forest_count f
nodes-length prefix none = refl
nodes-length prefix (more name file inner others) =
    let here = opened_as (inside prefix name) file inner in
    let within = flat_map job_nodes (forest_files (inside prefix name) inner) in
    let rest = flat_map job_nodes (forest_files prefix others) in
    ap (λ (ns : List FlatNode). length ns) (flat_map-append job_nodes (here ∷ forest_files (inside prefix name) inner) (forest_files prefix others))
    ∙ length-append (job_nodes here ++ within) rest
    ∙ ap (λ (n : ℕ). n + length rest) (length-append (job_nodes here) within)
    ∙ ap (λ (n : ℕ). n + length within + length rest) (own-length here)
    ∙ ap (λ (n : ℕ). own_count file.commands + n + length rest) (nodes-length (inside prefix name) inner)
    ∙ ap (λ (n : ℕ). own_count file.commands + forest_count inner + n) (nodes-length prefix others)

pub edges-joined : (first : ℕ) (f g : Forest) → forest_edges first (forests_joined f g) ≡ forest_edges first f ++ forest_edges (first + forest_count f) g
edges-joined first none g = ap (λ (n : ℕ). forest_edges n g) (sym (add-zero first))
edges-joined first (more name file inner others) g =
    let count = own_count file.commands + forest_count inner in
    let within = file_edges first file.commands (forest_edges (first + own_count file.commands) inner) (forest_parts (first + own_count file.commands) inner) in
    ap (λ (es : List EdgeGroup). within ++ es) (edges-joined (first + count) others g)
    ∙ sym (append_assoc within (forest_edges (first + count) others) (forest_edges (first + count + forest_count others) g))
    ∙ ap (λ (n : ℕ). (within ++ forest_edges (first + count) others) ++ forest_edges n g) (add_assoc first count (forest_count others))

pub parts-joined : (first : ℕ) (f g : Forest) → forest_parts first (forests_joined f g) ≡ forest_parts first f ++ forest_parts (first + forest_count f) g
parts-joined first none g = ap (λ (n : ℕ). forest_parts n g) (sym (add-zero first))
parts-joined first (more name file inner others) g =
    let count = own_count file.commands + forest_count inner in
    let here = part_of first count (file_edges first file.commands (forest_edges (first + own_count file.commands) inner) (forest_parts (first + own_count file.commands) inner)) in
    ap (λ (ps : List Part). here ∷ ps) (parts-joined (first + count) others g ∙ ap (λ (n : ℕ). forest_parts (first + count) others ++ forest_parts n g) (add_assoc first count (forest_count others)))
