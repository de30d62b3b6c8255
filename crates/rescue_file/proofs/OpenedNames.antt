-- What is opened has names that are read again.
use Rattle.std.proofs.Common.{◌≡◌, ◌≢◌, ℕ, zero, suc, ◌+◌, ◌<◌, ◌≤◌, Bool, true, false, nat_lt, if◌then◌else◌, List, [], ◌∷◌, ◌++◌, length, map, get_or, Option, Some, None, Result, Ok, Err, refl, sym, ap, subst, ◌∙◌, arith, length-append}
use Rattle.std.proofs.lemmas.Bool.{or_parts, ltb-false}
use Rattle.std.proofs.lemmas.List.{length-map}
use Rattle.std.proofs.lemmas.List.Elements.{All-weaker, All-get_or}
use Rattle.std.specs.List.{All}
use Rattle.std.specs.Prelude.{position}
use Rattle.std.specs.Str.{bytes_eq}
use Rattle.std.specs.Str.Lines.{lines}
use Rattle.dag_reader.specs.declared.command.Command.{Command}
use Rattle.dag_reader.specs.declared.command.Command.TheVariants.{Splice}
use Rattle.dag_reader.specs.declared.fault.LineFault.{LineFault}
use Rattle.dag_reader.specs.Grammar.{SayAll}
use Rattle.dag_reader.specs.Reading.{text_at}
use Rattle.dag_reader.proofs.LineTexts.{lines_ok}
use Rattle.splices_flat.specs.declared.fault.DagFault.{DagFault}
use Rattle.splices_flat.specs.declared.flat.FlatNode.{FlatNode}
use Rattle.splices_flat.specs.Dag.{Dag}
use Rattle.splices_flat.specs.Faults.{files_fault}
use Rattle.splices_flat.specs.Nodes.{job_names, jobs_in, splice_name, splice_names, own_count, finals_in}
use Rattle.splices_flat.specs.Forest.{Forest, none, more, Tree, tree_files}
use Rattle.splices_flat.specs.OpenedFiles.{Spliced, splice_folder, splice_path}
use Rattle.splices_flat.specs.Opened.{flat_of, dag_unless, dag_at}
use Rattle.splices_flat.specs.Opening.{Files, Opener, in_file, says_at, check_final, check_lines, check_count, check_file, forest_declared, with_file, with_forest, with_splice, parsed_file, forests_joined, enter_at, open_line, open_lines, open_said, open_file, tree_at}
use Rattle.splices_flat.proofs.Opened.{declared-joined}
use Rattle.splices_flat.proofs.Own.{names-length}
use Rattle.rescue_file.specs.Written.{ordinary_names}
use Rattle.rescue_file.specs.Fit.{IsFit, AreFit}
use Rattle.rescue_file.proofs.PlainNames.{IsPlain, AreApart, then_ok, names_plain, names_apart}
use Rattle.rescue_file.proofs.FullNames.{forest_names, seen_from, spliced, IsLawful, AreLawful, IsBounded, bound, all_bounded, all_apart, top_names}

abbrev good : {A : Type 0} → A → Result A DagFault
good x = Ok x

given : {A : Type 0} (x y : A) → good x ≡ good y → x ≡ y
given x y is = cc

-- A file and those in it, at most so many in one another, with not too many nodes after those of before.
abbrev IsTree : ℕ → ℕ → Tree → Type 0
IsTree zero nodes tree = ⊥
IsTree (suc left) nodes tree = IsLawful tree.file tree.inner × AreLawful left tree.inner
    × ((nodes + (own_count tree.file.commands + length (finals_in tree.file.commands))) + forest_declared tree.inner ≤ 65536)

record IsForest (left nodes : ℕ) (names : List (List ℕ)) (f : Forest) : Type 0 where
  pub lawful : AreLawful left f
  pub named : forest_names f ≡ names
  pub few : nodes + forest_declared f ≤ 65536

joined_lawful : (left : ℕ) (f g : Forest) → AreLawful left f → AreLawful left g → AreLawful left (forests_joined f g)
joined_lawful left none g front back = back
joined_lawful zero (more name file inner others) g front back = absurd front
joined_lawful (suc left) (more name file inner others) g (law, within, behind) back = (law, within, joined_lawful (suc left) others g behind back)

joined_names : (f g : Forest) → forest_names (forests_joined f g) ≡ forest_names f ++ forest_names g
joined_names none g = refl
joined_names (more name file inner others) g = ap (λ (ns : List (List ℕ)). name ∷ ns) (joined_names others g)

nothing : (left nodes : ℕ) → nodes ≤ 65536 → IsForest left nodes [] none
nothing left nodes few = record { lawful = tt; named = refl; few = omega arith }

alone : (left nodes : ℕ) (name : List ℕ) (tree : Tree) → IsTree left nodes tree → IsForest left nodes (name ∷ []) (more name tree.file tree.inner none)
alone zero nodes name tree is = absurd is
alone (suc left) nodes name tree (law, within, few) = record { lawful = (law, within, tt); named = refl; few = omega arith }

entered : (opener : Opener) (used : _) (above : List (List ℕ)) (folder path : List ℕ) (place : Option ℕ) (tree : Tree) → enter_at opener used above folder path place ≡ Ok tree → opener (with_splice used) (above ++ path ∷ []) folder path ≡ Ok tree
entered opener used above folder path None tree is = is
entered opener used above folder path (Some k) tree is = absurd cc

module _ (opener : Opener) (left : ℕ) (each : (used : _) (above : List (List ℕ)) (folder path : List ℕ) (tree : Tree) → opener used above folder path ≡ Ok tree → IsTree left used.nodes tree) where
  silent : (nodes : ℕ) (first : Forest) → nodes ≤ 65536 → good none ≡ good first → IsForest left nodes [] first
  silent nodes first few is = subst (IsForest left nodes []) (given none first is) (nothing left nodes few)

  line_forest : (used : _) (above : List (List ℕ)) (folder : List ℕ) (c : Command) (first : Forest) → open_line opener used above folder c ≡ Ok first → used.nodes ≤ 65536 → IsForest left used.nodes (splice_name c) first
  line_forest used above folder (Splice name file dir) first is few =
      let s : Spliced = record { name = name; file = file; dir = dir } in
      let place = position (bytes_eq (splice_path folder s)) above in
      let (tree, opened, made) = then_ok (enter_at opener used above (splice_folder folder s) (splice_path folder s) place) _ first is in
      let o = each (with_splice used) (above ++ splice_path folder s ∷ []) (splice_folder folder s) (splice_path folder s) tree (entered opener used above (splice_folder folder s) (splice_path folder s) place tree opened) in
      subst (IsForest left used.nodes (name.text ∷ [])) (given (more name.text tree.file tree.inner none) first made) (alone left used.nodes name.text tree o)
  line_forest used above folder c first is few = silent used.nodes first few is

  lines_forest : (cs : List Command) (used : _) (above : List (List ℕ)) (folder : List ℕ) (forest : Forest) → open_lines opener used above folder cs ≡ Ok forest → used.nodes ≤ 65536 → IsForest left used.nodes (splice_names cs) forest
  lines_forest [] used above folder forest is few = silent used.nodes forest few is
  lines_forest (c ∷ cs) used above folder forest is few =
      let (first, one, a) = then_ok (open_line opener used above folder c) _ forest is in
      let (others, rest, made) = then_ok (open_lines opener (with_forest used first) above folder cs) _ forest a in
      let here = line_forest used above folder c first one few in
      let later = lines_forest cs (with_forest used first) above folder others rest here.few in
      let more_few = later.few in
      let count = declared-joined first others in
      subst (IsForest left used.nodes (splice_name c ++ splice_names cs)) (given (forests_joined first others) forest made)
      (record {
        lawful = joined_lawful left first others here.lawful later.lawful;
        named = joined_names first others ∙ ap (λ (ns : List (List ℕ)). ns ++ forest_names others) here.named ∙ ap (λ (ns : List (List ℕ)). splice_name c ++ ns) later.named;
        few = omega arith;
      })

read_text : (path : List ℕ) (r : Result (List Command) LineFault) (contents : List Command) → in_file path r ≡ Ok contents → r ≡ Ok contents
read_text path (Ok x) contents is = cc
read_text path (Err e) contents is = absurd cc

abbrev AreSaid : List Command → Type 0
AreSaid contents = (bytes : List ℕ) × SayAll 1 (lines bytes) contents

are_said : (path : List ℕ) (found : Option (List ℕ)) (contents : List Command) → says_at path found ≡ Ok contents → AreSaid contents
are_said path None contents is = absurd cc
are_said path (Some bytes) contents is = (bytes, lines_ok 1 (lines bytes) contents (read_text path (text_at bytes) contents is))

abbrev accepted : Result (Unit {0}) DagFault
accepted = Ok tt

abbrev refused : DagFault → Result (Unit {0}) DagFault
refused fault = Err fault

counted : (many : Bool) (fault : DagFault) → (if many then refused fault else accepted) ≡ accepted → many ≡ false
counted true fault is = absurd cc
counted false fault is = refl

few_nodes : (used : _) (cs : List Command) → check_count used cs ≡ Ok tt → used.nodes + (own_count cs + length (finals_in cs)) ≤ 65536
few_nodes used cs is =
    let both = or_parts (nat_lt 65536 (used.nodes + (own_count cs + length (finals_in cs)))) (nat_lt 4096 used.splices) (counted _ _ is) in
    ltb-false 65536 (used.nodes + (own_count cs + length (finals_in cs))) both.0

file_tree : (files : Files) (left : ℕ) (used : _) (above : List (List ℕ)) (folder path : List ℕ) (tree : Tree) → open_file files left used above folder path ≡ Ok tree → IsTree left used.nodes tree
file_tree files zero used above folder path tree is = absurd cc
file_tree files (suc left) used above folder path tree is =
    let (cs, says, a) = then_ok (says_at path (files path)) (open_said (open_file files left) used above folder path) tree is in
    let (_, checks, b) = then_ok (check_file used above path cs) _ tree a in
    let (_, _, more_checks) = then_ok (check_final above path cs) _ _ checks in
    let (_, names, count) = then_ok (check_lines path [] cs) _ _ more_checks in
    let (forest, opens, made) = then_ok (open_lines (open_file files left) (with_file used cs) above folder cs) _ tree b in
    let (bytes, all) = are_said path (files path) cs says in
    let plain = names_plain 1 (lines bytes) cs all in
    let apart = names_apart path cs names in
    let inner = lines_forest (open_file files left) left (file_tree files left) cs (with_file used cs) above folder forest opens (few_nodes used cs count) in
    subst (IsTree (suc left) used.nodes) (given (record { file = parsed_file path folder cs; inner = forest }) tree made) (
      record {
        jobs_plain = plain.0;
        jobs_apart = apart.0;
        splices_plain = subst (All IsPlain) (sym inner.named) plain.1;
        splices_apart = subst AreApart (sym inner.named) apart.1;
      },
      inner.lawful,
      inner.few,
    )

-- As many names as nodes.
seen_few : (f : Forest) → length (seen_from f) ≤ forest_declared f
seen_few none = omega arith
seen_few (more name file inner others) =
    let jobs = job_names file.commands in
    let own = names-length (jobs_in file.commands) in
    let put = length-map (jobs ++ seen_from inner) (spliced name) in
    let here = length-append jobs (seen_from inner) in
    let all = length-append (map (spliced name) (jobs ++ seen_from inner)) (seen_from others) in
    let within = seen_few inner in
    let behind = seen_few others in
    omega arith

differ_at : (ns : List (List ℕ)) (m n : ℕ) → AreApart ns → m < n → n < length ns → get_or ns m [] ≢ get_or ns n []
differ_at [] m n apart low high = absurd (omega arith)
differ_at (x ∷ ns) m zero apart low high = absurd (omega arith)
differ_at (x ∷ ns) zero (suc n) (here, later) low high = All-get_or (λ y. x ≢ y) ns n [] (omega arith) here
differ_at (x ∷ ns) (suc m) (suc n) (here, later) low high = differ_at ns m n later (omega arith) (omega arith)

fit_name : (most : ℕ) (name : List ℕ) → most ≤ 65531 → IsBounded most name → IsFit name
fit_name most name low b = let short = b.short in record { some = b.some; short = omega arith; utf8 = b.utf8; solid = b.solid; clear = b.clear }

tree_fit : (top : List ℕ) (left nodes : ℕ) (tree : Tree) → bound left ≤ 65531 → IsTree (suc left) nodes tree → AreFit (flat_of top tree)
tree_fit top left nodes tree low (law, within, few) =
    let jobs = job_names tree.file.commands in
    let names = jobs ++ seen_from tree.inner in
    let are : ordinary_names (flat_of top tree) ≡ names = top_names tree.file tree.inner in
    let count : length (ordinary_names (flat_of top tree)) ≡ length (flat_of top tree).nodes = length-map (flat_of top tree).nodes (λ (n : FlatNode). n.name) in
    let same : length (ordinary_names (flat_of top tree)) ≡ length names = ap (λ (ns : List (List ℕ)). length ns) are in
    let own = names-length (jobs_in tree.file.commands) in
    let parts = length-append jobs (seen_from tree.inner) in
    let inner = seen_few tree.inner in
    record {
      few = omega arith;
      fit = subst (All IsFit) (sym are) (All-weaker (IsBounded (bound left)) IsFit (λ n b. fit_name (bound left) n low b) names (all_bounded left tree.file tree.inner law within));
      apart = λ m n less below. subst (λ (ns : List (List ℕ)). get_or ns m [] ≢ get_or ns n []) (sym are) (differ_at names m n (all_apart left tree.file tree.inner law within) less (omega arith));
    }

made_of : (top : List ℕ) (o : Option DagFault) (tree : Tree) (dag : Dag) → dag_unless top o tree ≡ Ok dag → flat_of top tree ≡ dag
made_of top None tree dag is = given (flat_of top tree) dag is
made_of top (Some fault) tree dag is = absurd cc

pub dag_fit : (files : Files) (top : List ℕ) (dag : Dag) → dag_at files top ≡ Ok dag → AreFit dag
unfolding dag_at tree_at
dag_fit files top dag is =
    let (tree, opened, made) = then_ok (open_file files 33 (record { nodes = 0; splices = 0 }) (top ∷ []) [] top) (λ tree. dag_unless top (files_fault (tree_files [] tree)) tree) dag is in
    subst AreFit (made_of top (files_fault (tree_files [] tree)) tree dag made) (tree_fit top 32 0 tree (omega arith) (file_tree files 33 (record { nodes = 0; splices = 0 }) (top ∷ []) [] top tree opened))
