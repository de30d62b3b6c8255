-- Files are opened exactly where they are there, spell commands and keep the rules.
use Rattle.std.proofs.Common.{◌≡◌, ℕ, zero, suc, ◌+◌, ◌<◌, ◌≤◌, Bool, true, false, nat_lt, List, [], ◌∷◌, ◌++◌, length, Option, Some, None, Result, Ok, Err, refl, sym, ap, subst, ◌∙◌, arith, length-append, if◌then◌else◌}
use Rattle.std.proofs.lemmas.Bool.{or_parts, or_from, ltb-false}
use Rattle.std.proofs.lemmas.Bool.Decides.{nat_tests}
use Rattle.std.specs.Prelude.{position}
use Rattle.std.specs.Str.{bytes_eq}
use Rattle.dag_reader.specs.declared.command.Command.{Command}
use Rattle.dag_reader.specs.declared.command.Command.TheVariants.{Splice}
use Rattle.splices_flat.specs.declared.fault.DagFault.{DagFault}
use Rattle.splices_flat.specs.declared.fault.DagFault.TheVariants.{TooManyNodes}
use Rattle.splices_flat.specs.declared.used.Used.{Used}
use Rattle.splices_flat.specs.Dag.{Dag}
use Rattle.splices_flat.specs.Faults.{files_fault}
use Rattle.splices_flat.specs.Nodes.{Declared, finals_in, own_count}
use Rattle.splices_flat.specs.Forest.{ParsedFile, Forest, none, more, Tree, tree_files}
use Rattle.splices_flat.specs.Opened.{dag_at, dag_of, dag_unless, flat_of}
use Rattle.splices_flat.specs.Opening.{◌>>=◌, Files, Opener, in_file, says_at, final_fault, check_final, check_lines, check_count, check_file, forest_declared, forest_splices, with_file, with_forest, with_splice, parsed_file, forests_joined, enter_at, open_line, open_lines, open_said, open_file, tree_at}
use Rattle.splices_flat.specs.OpenedFiles.{Spliced, splices_in, splice_folder, splice_path, IsSaid, AreOpened, IsOpenedTree}
use Rattle.splices_flat.specs.Regular.{DeclareOnce, AreRegular, IsRegular, forest_depth}
use Rattle.splices_flat.proofs.DeclaredOnce.{accepted, once_passes, passes_once}
use Rattle.splices_flat.proofs.Opened.{declared-joined, splices-joined}
use Rattle.splices_flat.proofs.OpeningFiles.{bound, entered, given, is-opened}

-- FINAL is only in a file with none above it.
abbrev MayHaveFinal : List (List ℕ) → List Command → Type 0
MayHaveFinal [] cs = Unit {0}
MayHaveFinal (top ∷ []) cs = Unit {0}
MayHaveFinal (top ∷ next ∷ above) cs = finals_in cs ≡ []

final_passes : (above : List (List ℕ)) (path : List ℕ) (cs : List Command) → MayHaveFinal above cs → check_final above path cs ≡ accepted
final_passes [] path cs may = refl
final_passes (top ∷ []) path cs may = refl
final_passes (top ∷ next ∷ above) path cs may = ap (final_fault path) may

no_finals : (path : List ℕ) (ds : List Declared) → final_fault path ds ≡ accepted → ds ≡ []
no_finals path [] is = refl
no_finals path (d ∷ ds) is = absurd cc

passes_final : (above : List (List ℕ)) (path : List ℕ) (cs : List Command) → check_final above path cs ≡ accepted → MayHaveFinal above cs
passes_final [] path cs is = tt
passes_final (top ∷ []) path cs is = tt
passes_final (top ∷ next ∷ above) path cs is = no_finals path (finals_in cs) is

-- a file in a file
may_below : (above : List (List ℕ)) (path : List ℕ) (cs : List Command) → 0 < length above → finals_in cs ≡ [] → MayHaveFinal (above ++ path ∷ []) cs
may_below [] path cs some silent = absurd (omega arith)
may_below (top ∷ []) path cs some silent = silent
may_below (top ∷ next ∷ above) path cs some silent = silent

none_below : (above : List (List ℕ)) (path : List ℕ) (cs : List Command) → 0 < length above → MayHaveFinal (above ++ path ∷ []) cs → finals_in cs ≡ []
none_below [] path cs some may = absurd (omega arith)
none_below (top ∷ []) path cs some may = may
none_below (top ∷ next ∷ above) path cs some may = may

some_below : (above : List (List ℕ)) (path : List ℕ) → 0 < length (above ++ path ∷ [])
some_below above path = let more = length-append above (path ∷ []) in omega arith

-- Numbers.
not_many : (many : Bool) → (if many then Err TooManyNodes else accepted) ≡ accepted → many ≡ false
not_many true is = absurd cc
not_many false is = refl

few_if : (used : Used) (cs : List Command) → check_count used cs ≡ accepted → (used.nodes + (own_count cs + length (finals_in cs)) ≤ 65536) × (used.splices ≤ 4096)
few_if used cs is =
    let both = or_parts (nat_lt 65536 (used.nodes + (own_count cs + length (finals_in cs)))) (nat_lt 4096 used.splices) (not_many _ is) in
    (ltb-false 65536 (used.nodes + (own_count cs + length (finals_in cs))) both.0, ltb-false 4096 used.splices both.1)

not_over : (most n : ℕ) → n ≤ most → nat_lt most n ≡ false
not_over most n few = grind (arith, nat_tests)

count_passes : (used : Used) (cs : List Command) → used.nodes + (own_count cs + length (finals_in cs)) ≤ 65536 → used.splices ≤ 4096 → check_count used cs ≡ accepted
count_passes used cs nodes splices =
    ap (λ (many : Bool). if many then Err TooManyNodes else accepted)
    (or_from (nat_lt 65536 (used.nodes + (own_count cs + length (finals_in cs)))) (nat_lt 4096 used.splices) (not_over 65536 _ nodes) (not_over 4096 used.splices splices))

-- Files that keep the rules, so many in one another, after those that were opened before.
record Fits (left : ℕ) (used : Used) (f : Forest) : Type 0 where
  pub regular : AreRegular f
  pub depth : forest_depth f ≤ left
  pub nodes : used.nodes + forest_declared f ≤ 65536
  pub splices : used.splices + forest_splices f ≤ 4096

abbrev FitsTree : ℕ → Used → Tree → Type 0
FitsTree zero used tree = ⊥
FitsTree (suc left) used tree = DeclareOnce tree.file.commands × Fits left (with_file used tree.file.commands) tree.inner

file_passes : (left : ℕ) (used : Used) (above : List (List ℕ)) (path : List ℕ) (tree : Tree) → MayHaveFinal above tree.file.commands → DeclareOnce tree.file.commands → Fits left (with_file used tree.file.commands) tree.inner → check_file used above path tree.file.commands ≡ accepted
file_passes left used above path tree may once fits =
    let cs = tree.file.commands in
    let nodes = fits.nodes in
    let splices = fits.splices in
    ap (λ r. r >>= λ _. check_lines path [] cs >>= λ _. check_count used cs) (final_passes above path cs may)
    ∙ ap (λ r. r >>= λ _. check_count used cs) (once_passes path cs once)
    ∙ count_passes used cs (omega arith) (omega arith)

-- a splice's file, of the files of SPLICE lines that fit
tree_fits : (left : ℕ) (used : Used) (name : List ℕ) (said : ParsedFile) (inner others : Forest) → Fits left used (more name said inner others) → FitsTree left (with_splice used) (record { file = said; inner = inner })
tree_fits zero used name said inner others fits = let deep = fits.depth in absurd (omega arith)
tree_fits (suc left) used name said inner others fits =
    let deep = fits.depth in
    let nodes = fits.nodes in
    let splices = fits.splices in
    (fits.regular.0, record { regular = fits.regular.2; depth = omega arith; nodes = omega arith; splices = omega arith })

others_fit : (left : ℕ) (used : Used) (name text : List ℕ) (said : ParsedFile) (inner others : Forest) → Fits left used (more name said inner others) → Fits left (with_forest used (more text said inner none)) others
others_fit left used name text said inner others fits =
    let deep = fits.depth in
    let nodes = fits.nodes in
    let splices = fits.splices in
    record { regular = fits.regular.3; depth = omega arith; nodes = omega arith; splices = omega arith }

silent_fits : (left : ℕ) (used : Used) (f : Forest) → Fits left used f → Fits left (with_forest used none) f
silent_fits left used f fits =
    let nodes = fits.nodes in
    let splices = fits.splices in
    record { regular = fits.regular; depth = fits.depth; nodes = omega arith; splices = omega arith }

-- What the rules open is opened.
module _ (files : Files) (left : ℕ) (opener : Opener) (each : (used : Used) (above : List (List ℕ)) (folder path : List ℕ) (tree : Tree) → 0 < length above → MayHaveFinal above tree.file.commands → FitsTree left used tree
    → IsSaid files folder path tree.file → AreOpened files above folder (splices_in tree.file.commands) tree.inner → opener used above folder path ≡ Ok tree) where
  lines_open : (cs : List Command) (used : Used) (above : List (List ℕ)) (folder : List ℕ) (f : Forest) → 0 < length above → AreOpened files above folder (splices_in cs) f → Fits left used f → open_lines opener used above folder cs ≡ Ok f
  lines_open [] used above folder none some are fits = refl
  lines_open [] used above folder (more name said inner others) some are fits = absurd are
  lines_open (Splice name file dir ∷ cs) used above folder none some are fits = absurd are
  lines_open (Splice name file dir ∷ cs) used above folder (more n said inner others) some are fits =
      let s : Spliced = record { name = name; file = file; dir = dir } in
      let path = splice_path folder s in
      let tree : Tree = record { file = said; inner = inner } in
      let first = more name.text said inner none in
      let enter = enter_at opener used above (splice_folder folder s) path in
      let opens : opener (with_splice used) (above ++ path ∷ []) (splice_folder folder s) path ≡ Ok tree =
      each (with_splice used) (above ++ path ∷ []) (splice_folder folder s) path tree (some_below above path) (may_below above path said.commands some fits.regular.1) (tree_fits left used n said inner others fits) are.2 are.3 in
      let rest : open_lines opener (with_forest used first) above folder cs ≡ Ok others = lines_open cs (with_forest used first) above folder others some are.4 (others_fit left used n name.text said inner others fits) in
      ap (λ (o : Option ℕ). (enter o >>= λ t. Ok (more name.text t.file t.inner none)) >>= λ f. open_lines opener (with_forest used f) above folder cs >>= λ g. Ok (forests_joined f g)) are.1
      ∙ ap (λ (r : Result Tree DagFault). (r >>= λ t. Ok (more name.text t.file t.inner none)) >>= λ f. open_lines opener (with_forest used f) above folder cs >>= λ g. Ok (forests_joined f g)) opens
      ∙ ap (λ (r : Result Forest DagFault). r >>= λ g. Ok (forests_joined first g)) rest
      ∙ ap (λ (x : List ℕ). Ok (more x said inner others)) (sym are.0)
  lines_open (c ∷ cs) used above folder f some are fits =
      ap (λ (r : Result Forest DagFault). r >>= λ g. Ok g) (lines_open cs (with_forest used none) above folder f some are (silent_fits left used f fits))

says_it : (files : Files) (folder path : List ℕ) (said : ParsedFile) → IsSaid files folder path said → says_at path (files path) ≡ Ok said.commands
says_it files folder path said is = ap (says_at path) is.there ∙ ap (in_file path) is.says

said_is : (files : Files) (folder path : List ℕ) (said : ParsedFile) → IsSaid files folder path said → parsed_file path folder said.commands ≡ said
said_is files folder path said is = λ i. record { path = sym is.path_is i; folder = sym is.folder_is i; commands = said.commands }

file_open : (files : Files) (left : ℕ) (used : Used) (above : List (List ℕ)) (folder path : List ℕ) (tree : Tree) → 0 < length above → MayHaveFinal above tree.file.commands → FitsTree left used tree → IsSaid files folder path tree.file
    → AreOpened files above folder (splices_in tree.file.commands) tree.inner → open_file files left used above folder path ≡ Ok tree
file_open files zero used above folder path tree some may fits is are = absurd fits
file_open files (suc left) used above folder path tree some may fits is are =
    let cs = tree.file.commands in
    let inner = lines_open files left (open_file files left) (file_open files left) cs (with_file used cs) above folder tree.inner some are fits.1 in
    ap (λ (r : Result (List Command) DagFault). r >>= open_said (open_file files left) used above folder path) (says_it files folder path tree.file is)
    ∙ ap (λ (r : Result (Unit {0}) DagFault). r >>= λ _. open_lines (open_file files left) (with_file used cs) above folder cs >>= λ f. Ok (record { file = parsed_file path folder cs; inner = f }))
    (file_passes left used above path tree may fits.0 fits.1)
    ∙ ap (λ (r : Result Forest DagFault). r >>= λ f. Ok (record { file = parsed_file path folder cs; inner = f })) inner
    ∙ ap (λ (s : ParsedFile). Ok (record { file = s; inner = tree.inner })) (said_is files folder path tree.file is)

pub all_opened : (files : Files) (top : List ℕ) (tree : Tree) → IsOpenedTree files top tree → IsRegular tree → tree_at files top ≡ Ok tree
unfolding tree_at
all_opened files top tree is regular =
    let used : Used = record { nodes = 0; splices = 0 } in
    let nodes = regular.nodes in
    let splices = regular.splices in
    let fits : Fits 32 (with_file used tree.file.commands) tree.inner = record { regular = regular.inner; depth = regular.depth; nodes = omega arith; splices = omega arith } in
    file_open files 33 used (top ∷ []) [] top tree (omega arith) tt (regular.once, fits) is.0 is.1

-- What is opened keeps the rules.
joined_regular : (f g : Forest) → AreRegular f → AreRegular g → AreRegular (forests_joined f g)
joined_regular none g front back = back
joined_regular (more name file inner others) g front back = (front.0, front.1, front.2, joined_regular others g front.3 back)

depth_joined : (f g : Forest) (most : ℕ) → forest_depth f ≤ most → forest_depth g ≤ most → forest_depth (forests_joined f g) ≤ most
depth_joined none g most front back = back
depth_joined (more name file inner others) g most front back =
    let rest : forest_depth (forests_joined others g) ≤ most = depth_joined others g most (omega arith) back in
    omega arith

joined_fit : (left : ℕ) (used : Used) (f g : Forest) → Fits left used f → Fits left (with_forest used f) g → Fits left used (forests_joined f g)
joined_fit left used f g front back =
    let declared = declared-joined f g in
    let splices = splices-joined f g in
    let few_nodes = back.nodes in
    let few_splices = back.splices in
    record { regular = joined_regular f g front.regular back.regular; depth = depth_joined f g left front.depth back.depth; nodes = omega arith; splices = omega arith }

none_fits : (left : ℕ) (used : Used) → used.nodes ≤ 65536 → used.splices ≤ 4096 → Fits left used none
none_fits left used nodes splices = record { regular = tt; depth = omega arith; nodes = omega arith; splices = omega arith }

one_fits : (left : ℕ) (used : Used) (name : List ℕ) (tree : Tree) → finals_in tree.file.commands ≡ [] → FitsTree left (with_splice used) tree → Fits left used (more name tree.file tree.inner none)
one_fits zero used name tree final fits = absurd fits
one_fits (suc left) used name tree final fits =
    let within = fits.1 in
    let deep = within.depth in
    let nodes = within.nodes in
    let splices = within.splices in
    record { regular = (fits.0, final, within.regular, tt); depth = omega arith; nodes = omega arith; splices = omega arith }

module _ (left : ℕ) (opener : Opener) (each : (used : Used) (above : List (List ℕ)) (folder path : List ℕ) (tree : Tree) → 0 < length above → opener used above folder path ≡ Ok tree → FitsTree left used tree × MayHaveFinal above tree.file.commands) where
  line_fits : (c : Command) (used : Used) (above : List (List ℕ)) (folder : List ℕ) (first : Forest) → 0 < length above → open_line opener used above folder c ≡ Ok first → used.nodes ≤ 65536 → used.splices ≤ 4096 → Fits left used first
  line_fits (Splice name file dir) used above folder first some is nodes splices =
      let s : Spliced = record { name = name; file = file; dir = dir } in
      let path = splice_path folder s in
      let place = position (bytes_eq path) above in
      let b = bound (enter_at opener used above (splice_folder folder s) path place) _ first is in
      let e = entered opener used above (splice_folder folder s) path place b.0 b.1 in
      let o = each (with_splice used) (above ++ path ∷ []) (splice_folder folder s) path b.0 (some_below above path) e.1 in
      subst (Fits left used) (given (more name.text b.0.file b.0.inner none) first b.2) (one_fits left used name.text b.0 (none_below above path b.0.file.commands some o.1) o.0)
  line_fits c used above folder first some is nodes splices = subst (Fits left used) (given none first is) (none_fits left used nodes splices)

  lines_fit : (cs : List Command) (used : Used) (above : List (List ℕ)) (folder : List ℕ) (f : Forest) → 0 < length above → open_lines opener used above folder cs ≡ Ok f → used.nodes ≤ 65536 → used.splices ≤ 4096 → Fits left used f
  lines_fit [] used above folder f some is nodes splices = subst (Fits left used) (given none f is) (none_fits left used nodes splices)
  lines_fit (c ∷ cs) used above folder f some is nodes splices =
      let a = bound (open_line opener used above folder c) _ f is in
      let b = bound (open_lines opener (with_forest used a.0) above folder cs) _ f a.2 in
      let here = line_fits c used above folder a.0 some a.1 nodes splices in
      subst (Fits left used) (given (forests_joined a.0 b.0) f b.2) (joined_fit left used a.0 b.0 here (lines_fit cs (with_forest used a.0) above folder b.0 some b.1 here.nodes here.splices))

file_fits : (files : Files) (left : ℕ) (used : Used) (above : List (List ℕ)) (folder path : List ℕ) (tree : Tree) → 0 < length above → open_file files left used above folder path ≡ Ok tree → FitsTree left used tree × MayHaveFinal above tree.file.commands
file_fits files zero used above folder path tree some is = absurd cc
file_fits files (suc left) used above folder path tree some is =
    let a = bound (says_at path (files path)) (open_said (open_file files left) used above folder path) tree is in
    let cs = a.0 in
    let b = bound (check_file used above path cs) _ tree a.2 in
    let p = bound (check_final above path cs) _ tt b.1 in
    let q = bound (check_lines path [] cs) _ tt p.2 in
    let few = few_if used cs q.2 in
    let d = bound (open_lines (open_file files left) (with_file used cs) above folder cs) _ tree b.2 in
    subst (λ (t : Tree). FitsTree (suc left) used t × MayHaveFinal above t.file.commands) (given (record { file = parsed_file path folder cs; inner = d.0 }) tree d.2)
    ((passes_once path cs q.1, lines_fit left (open_file files left) (file_fits files left) cs (with_file used cs) above folder d.0 some d.1 few.0 few.1), passes_final above path cs p.1)

pub opened_regular : (files : Files) (top : List ℕ) (tree : Tree) → tree_at files top ≡ Ok tree → IsRegular tree
unfolding tree_at
opened_regular files top tree is =
    let used : Used = record { nodes = 0; splices = 0 } in
    let f = file_fits files 33 used (top ∷ []) [] top tree (omega arith) is in
    let within : Fits 32 (with_file used tree.file.commands) tree.inner = f.0.1 in
    let nodes = within.nodes in
    let splices = within.splices in
    record { once = f.0.0; inner = within.regular; depth = within.depth; nodes = omega arith; splices = omega arith }

-- The DAG of what is opened.
pub dag_opened : (files : Files) (top : List ℕ) (tree : Tree) → IsOpenedTree files top tree → IsRegular tree → files_fault (tree_files [] tree) ≡ None → dag_at files top ≡ Ok (flat_of top tree)
unfolding dag_at
dag_opened files top tree is regular stands =
    ap (dag_of top) (all_opened files top tree is regular) ∙ ap (λ (o : Option DagFault). dag_unless top o tree) stands

made_of : (top : List ℕ) (o : Option DagFault) (tree : Tree) (dag : Dag) → dag_unless top o tree ≡ Ok dag → (o ≡ None) × (dag ≡ flat_of top tree)
made_of top None tree dag is = (refl, sym (given (flat_of top tree) dag is))
made_of top (Some fault) tree dag is = absurd cc

pub opened_dag : (files : Files) (top : List ℕ) (dag : Dag) → dag_at files top ≡ Ok dag → (tree : Tree) × IsOpenedTree files top tree × IsRegular tree × (files_fault (tree_files [] tree) ≡ None) × (dag ≡ flat_of top tree)
unfolding dag_at
opened_dag files top dag is =
    let b = bound (tree_at files top) (λ tree. dag_unless top (files_fault (tree_files [] tree)) tree) dag is in
    let made = made_of top (files_fault (tree_files [] b.0)) b.0 dag b.2 in
    (b.0, is-opened files top b.0 b.1, opened_regular files top b.0 b.1, made.0, made.1)
