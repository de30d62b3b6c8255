-- A file that is opened by its lines without those that say nothing.
use Rattle.std.proofs.Common.{◌≡◌, ℕ, ◌+◌, ◌-◌, ◌<◌, ◌||◌, nat_lt, List, [], ◌∷◌, ◌++◌, length, map, drop, Option, Result, Ok, Err, if◌then◌else◌, refl, sym, ap, subst, ◌∙◌}
use Rattle.std.specs.List.{flat_map}
use Rattle.std.specs.Option.{option_or}
use Rattle.dag_reader.specs.declared.command.Command.{Command}
use Rattle.splices_flat.specs.declared.fault.DagFault.{DagFault}
use Rattle.splices_flat.specs.declared.fault.DagFault.TheVariants.{TooManyNodes}
use Rattle.splices_flat.specs.declared.fault.SpliceFault.{SpliceFault}
use Rattle.splices_flat.specs.declared.flat.EdgeGroup.{EdgeGroup}
use Rattle.splices_flat.specs.declared.flat.Settings.{Settings}
use Rattle.splices.specs.declared.open.DagBuilder.{DagBuilder}
use Rattle.splices.specs.declared.open.Found.{Found}
use Rattle.splices_flat.specs.declared.used.Used.{Used}
use Rattle.splices_flat.specs.declared.part.Part.{Part}
use Rattle.splices.specs.Acting.{acting}
use Rattle.splices.specs.Adds.{Fails, AddsTree, SameButEdges}
use Rattle.splices_flat.specs.Edges.{NodeScope, line_edges, part_of, tree_part}
use Rattle.splices_flat.specs.Faults.{Names, files_fault, first_some, line_fault}
use Rattle.splices_flat.specs.Forest.{Tree, tree_files}
use Rattle.splices_flat.specs.Nodes.{Declared, final_names, finals_in, job_names, jobs_in, names_in, declared_nodes, splice_names}
use Rattle.splices_flat.specs.Opening.{◌>>=◌, Files, check_count, check_file, check_final, check_lines, final_fault, open_file, open_lines, open_said, says_at, with_file}
use Rattle.splices_flat.specs.Settings.{settings_at}
use Rattle.splices.proofs.ActingLines.{Acts, acts}
use Rattle.splices.proofs.DagBuilders.{fails_bind, open_deeper}
use Rattle.splices.proofs.Trees.{Begun, Inner, tree_fails, tree_opens}

finals_check : (above : List (List ℕ)) (path : List ℕ) (xs ys : List Command) → Acts xs ys → check_final above path xs ≡ check_final above path ys
finals_check [] path xs ys a = refl
finals_check (top ∷ []) path xs ys a = refl
finals_check (top ∷ next ∷ above) path xs ys a = ap (final_fault path) a.finals

used_same : (used : Used) (xs ys : List Command) → Acts xs ys → with_file used xs ≡ with_file used ys
used_same used xs ys a =
    ap (λ (js : List Declared). record { nodes = used.nodes + (length js + length (finals_in xs)); splices = used.splices }) a.jobs
    ∙ ap (λ (fs : List Declared). record { nodes = used.nodes + (length (jobs_in ys) + length fs); splices = used.splices }) a.finals

count_same : (used : Used) (xs ys : List Command) → Acts xs ys → check_count used xs ≡ check_count used ys
count_same used xs ys a =
    ap (λ (js : List Declared). if nat_lt 65536 (used.nodes + (length js + length (finals_in xs))) || nat_lt 4096 used.splices then Err TooManyNodes else Ok tt) a.jobs
    ∙ ap (λ (fs : List Declared). if nat_lt 65536 (used.nodes + (length (jobs_in ys) + length fs)) || nat_lt 4096 used.splices then Err TooManyNodes else Ok tt) a.finals

file_check : (used : Used) (above : List (List ℕ)) (path : List ℕ) (xs ys : List Command) → Acts xs ys → check_file used above path xs ≡ check_file used above path ys
file_check used above path xs ys a =
    ap (λ (r : Result (Unit {0}) DagFault). r >>= λ _. check_lines path [] xs >>= λ _. check_count used xs) (finals_check above path xs ys a)
    ∙ ap (λ (r : Result (Unit {0}) DagFault). check_final above path ys >>= λ _. r >>= λ _. check_count used xs) (a.checks path)
    ∙ ap (λ (r : Result (Unit {0}) DagFault). check_final above path ys >>= λ _. check_lines path [] ys >>= λ _. r) (count_same used xs ys a)

begun_same : (prefix folder path : List ℕ) (xs ys : List Command) (old mid : DagBuilder) → Acts xs ys → Begun prefix folder path xs old mid → Begun prefix folder path ys old mid
begun_same prefix folder path xs ys old mid a b =
    let settings : settings_at prefix xs xs ≡ settings_at prefix ys ys = λ i place. a.settings prefix place i in
    record {
      files = λ counts.
          let f = b.files counts in
          record {
            nodes = f.nodes ∙ ap (λ (s : ℕ → Settings). old.nodes.items ++ (declared_nodes prefix folder s 0 (jobs_in xs) ++ [])) settings
                ∙ ap (λ (js : List Declared). old.nodes.items ++ (declared_nodes prefix folder (settings_at prefix ys ys) 0 js ++ [])) a.jobs;
            finals = f.finals ∙ ap (λ (s : ℕ → Settings). old.finals.items ++ (declared_nodes prefix folder s (length (jobs_in xs)) (finals_in xs) ++ [])) settings
                ∙ ap (λ (js : List Declared). old.finals.items ++ (declared_nodes prefix folder (settings_at prefix ys ys) (length js) (finals_in xs) ++ [])) a.jobs
                ∙ ap (λ (fs : List Declared). old.finals.items ++ (declared_nodes prefix folder (settings_at prefix ys ys) (length (jobs_in ys)) fs ++ [])) a.finals;
            warned = f.warned ∙ a.warned path prefix old.warned;
          };
      edges = b.edges;
      used = b.used ∙ used_same old.used xs ys a;
    }

pub acting_refused : (files : Files) (left : ℕ) (used : Used) (above : List (List ℕ)) (folder path : List ℕ) (contents kept lines : List Command) (e : SpliceFault) → Acts kept contents → 0 < left → says_at path (files path) ≡ Ok contents → lines ≡ kept
    → Fails e (check_file used above path lines) → Fails e (open_file files left used above folder path)
acting_refused files left used above folder path contents kept lines e a some says are fails =
    let failing : Fails e (check_file used above path contents) = subst (Fails e) (ap (check_file used above path) are ∙ file_check used above path kept contents a) fails in
    let opener = open_file files (left - 1) in
    subst (Fails e) (sym (open_deeper files left used above folder path some ∙ ap (λ (r : Result (List Command) DagFault). r >>= open_said opener used above folder path) says))
    (fails_bind e (check_file used above path contents) _ failing)

pub acting_fails : (files : Files) (left : ℕ) (used mid : Used) (above : List (List ℕ)) (folder path : List ℕ) (contents kept lines : List Command) (e : SpliceFault) → Acts kept contents
    → 0 < left → says_at path (files path) ≡ Ok contents → lines ≡ kept → check_file used above path lines ≡ Ok tt → mid ≡ with_file used kept
    → Fails e (open_lines (open_file files (left - 1)) mid above folder lines) → Fails e (open_file files left used above folder path)
acting_fails files left used mid above folder path contents kept lines e a some says are right mid_is fails =
    tree_fails files left used mid above folder path contents contents e some says refl (sym (ap (check_file used above path) are ∙ file_check used above path kept contents a) ∙ right)
    (mid_is ∙ used_same used kept contents a) (subst (Fails e) (ap (open_lines (open_file files (left - 1)) mid above folder) are ∙ a.opens (open_file files (left - 1)) mid above folder) fails)

pub acting_opens : (files : Files) (left : ℕ) (above : List (List ℕ)) (folder path prefix : List ℕ) (contents kept lines : List Command) (old mid inner new : DagBuilder) (parts : List Part) (jobs finals splices : List (List ℕ)) (first start : ℕ) (found : Found) (own fault : Option DagFault) → Acts kept contents
    → 0 < left → says_at path (files path) ≡ Ok contents → lines ≡ kept → check_file old.used above path lines ≡ Ok tt
    → jobs ≡ job_names lines → finals ≡ final_names lines → splices ≡ splice_names lines → first ≡ length old.nodes.items → start ≡ length old.edges.items
    → Begun prefix folder path kept old mid
    → Inner files left above folder prefix lines mid inner parts fault
    → SameButEdges inner new
    → new.edges.items ≡ inner.edges.items ++ flat_map (line_edges (record { first = first; jobs = jobs; splices = splices; parts = parts })) lines
    → found.part ≡ part_of first (length new.nodes.items - first) (drop start new.edges.items)
    → own ≡ first_some (line_fault (record { path = path; jobs = jobs; finals = finals; splices = splices; counts = map (λ (p : Part). p.count) parts })) lines
    → found.fault ≡ option_or own fault
    → (tree : Tree) × (open_file files left old.used above folder path ≡ Ok tree) × AddsTree prefix old new tree × (found.part ≡ tree_part (length old.nodes.items) tree)
    × (found.fault ≡ files_fault (tree_files prefix tree))
acting_opens files left above folder path prefix contents kept lines old mid inner new parts jobs finals splices first start found own fault a some says are right jobs_are finals_are splices_are first_is start_is begun (forest, opened, adds, parts_are, faults) same edges part_was own_is fault_is =
    let opener = open_file files (left - 1) in
    let scope : NodeScope = record { first = first; jobs = jobs; splices = splices; parts = parts } in
    let names : Names = record { path = path; jobs = jobs; finals = finals; splices = splices; counts = map (λ (p : Part). p.count) parts } in
    tree_opens files left above folder path prefix contents contents old mid inner new parts jobs finals splices first start found own fault some says refl
    (sym (ap (check_file old.used above path) are ∙ file_check old.used above path kept contents a) ∙ right)
    (jobs_are ∙ ap job_names are ∙ ap names_in a.jobs) (finals_are ∙ ap final_names are ∙ ap names_in a.finals) (splices_are ∙ ap splice_names are ∙ a.splices) first_is start_is
    (begun_same prefix folder path kept contents old mid a begun)
    (forest, sym (ap (open_lines opener mid.used above folder) are ∙ a.opens opener mid.used above folder) ∙ opened, adds, parts_are, faults)
    same
    (edges ∙ ap (λ (ls : List Command). inner.edges.items ++ flat_map (line_edges scope) ls) are ∙ ap (λ (es : List EdgeGroup). inner.edges.items ++ es) (a.edges scope))
    part_was
    (own_is ∙ ap (first_some (line_fault names)) are ∙ a.fault names)
    fault_is

-- a file as it was read
pub read_acts : (contents read kept : List Command) → read ≡ acting contents → kept ≡ read → Acts kept contents
read_acts contents read kept is same = subst (λ xs. Acts xs contents) (sym (same ∙ is)) (acts contents)
