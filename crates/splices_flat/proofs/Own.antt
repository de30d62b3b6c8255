-- The names and the nodes of a file's own declarations.
use Rattle.std.proofs.Common.{◌≡◌, ℕ, suc, ◌+◌, List, [], ◌∷◌, ◌++◌, length, sym, ap, ◌∙◌, add-zero, arith}
use Rattle.std.proofs.lemmas.List.{length-map}
use Rattle.splices_flat.specs.declared.flat.FlatNode.{FlatNode}
use Rattle.splices_flat.specs.declared.flat.Settings.{Settings}
use Rattle.splices_flat.specs.Nodes.{Declared, names_in, node_of, declared_nodes}

pub names-length : (ds : List Declared) → length (names_in ds) ≡ length ds
names-length ds = length-map ds (λ d. d.name.text)

-- the nodes of two lists of declarations
pub nodes_of-append : (prefix folder : List ℕ) (settings : ℕ → Settings) (place : ℕ) (xs ys : List Declared) → declared_nodes prefix folder settings place (xs ++ ys) ≡ declared_nodes prefix folder settings place xs ++ declared_nodes prefix folder settings (place + length xs) ys
nodes_of-append prefix folder settings place [] ys = ap (λ (k : ℕ). declared_nodes prefix folder settings k ys) (sym (add-zero place))
nodes_of-append prefix folder settings place (x ∷ xs) ys =
    let shift : place + 1 + length xs ≡ place + suc (length xs) = omega arith in
    ap (λ (ns : List FlatNode). node_of prefix folder (settings place) x ∷ ns) (nodes_of-append prefix folder settings (place + 1) xs ys
    ∙ ap (λ (k : ℕ). declared_nodes prefix folder settings (place + 1) xs ++ declared_nodes prefix folder settings k ys) shift)
