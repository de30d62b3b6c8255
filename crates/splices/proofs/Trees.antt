-- One file that is opened, with those of its splices.
use Rattle.std.proofs.Common.{◌≡◌, ℕ, ◌+◌, ◌-◌, ◌<◌, ◌≤◌, List, [], ◌∷◌, ◌++◌, length, map, drop, get_or, Option, None, Result, Ok, refl, sym, ap, subst, ◌∙◌, append_assoc, add_assoc, arith}
use Rattle.std.proofs.lemmas.List.{append-nil, length-append}
use Rattle.std.proofs.Math.Seq.{drop-append_seam}
use Rattle.std.specs.List.{flat_map}
use Rattle.std.specs.Option.{option_or}
use Rattle.std.specs.Prelude.{position}
use Rattle.std.specs.Str.{bytes_eq}
use Rattle.dag_reader.specs.declared.command.Command.{Command}
use Rattle.dag_reader.specs.declared.command.Command.TheVariants.{Splice}
use Rattle.dag_reader.specs.Word.{PlacedText}
use Rattle.splices_flat.specs.declared.flat.FlatNode.{FlatNode}
use Rattle.splices_flat.specs.declared.flat.EdgeGroup.{EdgeGroup}
use Rattle.splices_flat.specs.declared.part.Part.{Part}
use Rattle.splices.specs.declared.open.DagBuilder.{DagBuilder}
use Rattle.splices.specs.declared.open.Found.{Found}
use Rattle.splices_flat.specs.declared.used.Used.{Used}
use Rattle.splices_flat.specs.declared.fault.DagFault.{DagFault}
use Rattle.splices_flat.specs.declared.fault.SpliceFault.{SpliceFault}
use Rattle.splices_flat.specs.Paths.{join, dir_text}
use Rattle.splices_flat.specs.Nodes.{job_names, final_names, splice_names, own_count}
use Rattle.splices_flat.specs.Warnings.{Warned}
use Rattle.splices_flat.specs.Forest.{Forest, none, more, Tree, OpenFile, inside, opened_as, forest_files, tree_files, forest_count, forest_counts, job_nodes, final_nodes, warn_files}
use Rattle.splices_flat.specs.Edges.{NodeScope, node_scope, line_edges, part_of, forest_edges, forest_parts, tree_edges, tree_part}
use Rattle.splices_flat.specs.Faults.{Names, names_declared, first_some, line_fault, file_fault, files_fault}
use Rattle.splices_flat.specs.Opening.{◌>>=◌, Files, Opener, forests_joined, parsed_file, with_forest, with_file, with_splice, check_file, enter_at, open_line, open_lines, open_said, open_file, says_at}
use Rattle.splices.specs.Adds.{Fails, AddsFiles, AddsForest, AddsTree, SameButEdges}
use Rattle.splices_flat.proofs.Opened.{used_is, nodes-length, own-length}
use Rattle.splices.proofs.DagBuilders.{fails_bind, rest_at, files_more, adds_more, parts_more, fault_more, behind_more, behind_fails, open_deeper}
use Rattle.splices_flat.proofs.Own.{names-length}

-- what opening left, of the lines before place i
abbrev pub Front : Opener → Used → List (List ℕ) → List ℕ → List ℕ → List Command → ℕ → Result Forest DagFault → DagBuilder → DagBuilder → List Part → List Part → Option DagFault → Type 0
Front opener used above folder prefix cs i all old new p q fault =
    (front : Forest) × (rest_at opener used above folder cs i front ≡ all) × AddsForest prefix old new front × (q ≡ p ++ forest_parts (length old.nodes.items) front)
    × (fault ≡ files_fault (forest_files prefix front))

abbrev pub OneMore : Opener → Used → List (List ℕ) → List ℕ → List ℕ → Command → DagBuilder → DagBuilder → List Part → List Part → Option DagFault → Type 0
OneMore opener used above folder prefix c old new p q fault =
    (forest : Forest) × (open_line opener used above folder c ≡ Ok forest) × AddsForest prefix old new forest × (q ≡ p ++ forest_parts (length old.nodes.items) forest)
    × (fault ≡ files_fault (forest_files prefix forest))

pub forest_step : (opener : Opener) (above now : List (List ℕ)) (folder prefix : List ℕ) (cs : List Command) (i : ℕ) (c : Command) (all : Result Forest DagFault) (old mid new : DagBuilder) (p q r : List Part) (fault found next : Option DagFault)
    → c ≡ get_or cs i c → i < length cs → now ≡ above → Front opener old.used above folder prefix cs i all old mid p q fault → OneMore opener mid.used now folder prefix c mid new q r found → next ≡ option_or fault found
    → Front opener old.used above folder prefix cs (i + 1) all old new p r next
forest_step opener above now folder prefix cs i c all old mid new p q r fault found next is small same (front, reads, adds, parts, faults) (forest, opened, adding, put, finds) next_is =
    let opens : open_line opener (with_forest old.used front) above folder (get_or cs i c) ≡ Ok forest =
    ap (open_line opener (with_forest old.used front) above folder) (sym is) ∙ ap (λ (a : List (List ℕ)). open_line opener (with_forest old.used front) a folder c) (sym same)
    ∙ ap (λ (u : Used). open_line opener u now folder c) (sym adds.used) ∙ opened in (
      forests_joined front forest,
      sym (behind_more opener old.used above folder cs i c front forest small opens) ∙ reads,
      adds_more prefix old mid new front forest adds adding,
      parts_more prefix old mid p q r front forest adds parts put,
      fault_more prefix front forest fault found next faults finds next_is,
    )

pub forest_fails : (opener : Opener) (above now : List (List ℕ)) (folder prefix : List ℕ) (cs : List Command) (i : ℕ) (c : Command) (all : Result Forest DagFault) (old mid : DagBuilder) (p q : List Part) (fault : Option DagFault) (e : SpliceFault)
    → c ≡ get_or cs i c → i < length cs → now ≡ above → Front opener old.used above folder prefix cs i all old mid p q fault → Fails e (open_line opener mid.used now folder c) → Fails e all
forest_fails opener above now folder prefix cs i c all old mid p q fault e is small same (front, reads, adds, parts, faults) fails =
    let here : open_line opener mid.used now folder c ≡ open_line opener (with_forest old.used front) above folder (get_or cs i c) =
    ap (λ (u : Used). open_line opener u now folder c) adds.used ∙ ap (λ (a : List (List ℕ)). open_line opener (with_forest old.used front) a folder c) same
    ∙ ap (open_line opener (with_forest old.used front) above folder) is in
    behind_fails opener old.used above folder cs i c front e all small (subst (Fails e) here fails) reads

abbrev pub OneTree : Opener → List (List ℕ) → List ℕ → List ℕ → List ℕ → DagBuilder → DagBuilder → Found → Type 0
OneTree opener above folder path prefix old new found =
    (tree : Tree) × (opener old.used above folder path ≡ Ok tree) × AddsTree prefix old new tree × (found.part ≡ tree_part (length old.nodes.items) tree)
    × (found.fault ≡ files_fault (tree_files prefix tree))

-- a splice is its file and the files of that file's splices
alone_files : (prefix : List ℕ) (name : List ℕ) (tree : Tree) → forest_files prefix (more name tree.file tree.inner none) ≡ tree_files (inside prefix name) tree
alone_files prefix name tree = append-nil (tree_files (inside prefix name) tree)

alone_used : (used : Used) (name : List ℕ) (tree : Tree) → with_forest (with_file (with_splice used) tree.file.commands) tree.inner ≡ with_forest used (more name tree.file tree.inner none)
alone_used used name tree = used_is _ _ (omega arith) (omega arith)

pub splice_opens : (opener : Opener) (above now : List (List ℕ)) (folder below path prefix names : List ℕ) (name file : PlacedText) (dir : Option PlacedText) (command : Command) (old start new : DagBuilder) (found : Found) (p q : List Part)
    → command ≡ Splice name file dir → below ≡ join folder (dir_text dir) → path ≡ join below file.text → position (bytes_eq path) above ≡ None → now ≡ above ++ path ∷ [] → names ≡ inside prefix name.text
    → start ≡ record old { used = with_splice old.used }
    → OneTree opener now below path names start new found → q ≡ p ++ found.part ∷ [] → OneMore opener old.used above folder prefix command old new p q found.fault
splice_opens opener above now folder below path prefix names name file dir command old start new found p q is in_folder at new_file now_is names_are start_is one put =
    let here : open_line opener old.used above folder (Splice name file dir) ≡ (enter_at opener old.used above below path (position (bytes_eq path) above) >>= λ t. Ok (more name.text t.file t.inner none)) =
    ap (λ (d : List ℕ). enter_at opener old.used above d (join d file.text) (position (bytes_eq (join d file.text)) above) >>= λ t. Ok (more name.text t.file t.inner none)) (sym in_folder)
    ∙ ap (λ (x : List ℕ). enter_at opener old.used above below x (position (bytes_eq x) above) >>= λ t. Ok (more name.text t.file t.inner none)) (sym at) in
    let begun : DagBuilder = record old { used = with_splice old.used } in
    let own : OneTree opener now below path names begun new found = subst (λ (d : DagBuilder). OneTree opener now below path names d new found) start_is one in
    let tree = own.0 in
    let adds = own.2 in
    let opens : enter_at opener old.used above below path (position (bytes_eq path) above) ≡ Ok tree =
    ap (enter_at opener old.used above below path) new_file ∙ ap (λ (a : List (List ℕ)). opener (with_splice old.used) a below path) (sym now_is) ∙ own.1 in
    let files_are : tree_files names tree ≡ forest_files prefix (more name.text tree.file tree.inner none) =
    ap (λ (x : List ℕ). tree_files x tree) names_are ∙ sym (alone_files prefix name.text tree) in (
      more name.text tree.file tree.inner none,
      ap (open_line opener old.used above folder) is ∙ here ∙ ap (λ (r : Result Tree DagFault). r >>= λ t. Ok (more name.text t.file t.inner none)) opens,
      record {
        files = subst (λ (fs : List OpenFile). AddsFiles old new fs) files_are (record { nodes = adds.files.nodes; finals = adds.files.finals; warned = adds.files.warned });
        edges = adds.edges ∙ ap (λ (es : List EdgeGroup). old.edges.items ++ es) (sym (append-nil (tree_edges (length old.nodes.items) tree)));
        used = adds.used ∙ alone_used old.used name.text tree;
      },
      put ∙ ap (λ (x : Part). p ++ x ∷ []) own.3,
      own.4 ∙ ap files_fault files_are,
    )

-- the file of `open_deeper`, once it is right
deeper : (files : Files) (left : ℕ) (used : Used) (above : List (List ℕ)) (folder path : List ℕ) (contents : List Command)
    → 0 < left → says_at path (files path) ≡ Ok contents → check_file used above path contents ≡ Ok tt
    → open_file files left used above folder path ≡ (open_lines (open_file files (left - 1)) (with_file used contents) above folder contents >>= λ inner. Ok (record { file = parsed_file path folder contents; inner = inner }))
deeper files left used above folder path contents some says right =
    open_deeper files left used above folder path some
    ∙ ap (λ (r : Result (List Command) DagFault). r >>= open_said (open_file files (left - 1)) used above folder path) says
    ∙ ap (λ (r : Result (Unit {0}) DagFault). r >>= λ _. open_lines (open_file files (left - 1)) (with_file used contents) above folder contents >>= λ inner. Ok (record { file = parsed_file path folder contents; inner = inner })) right

pub tree_fails : (files : Files) (left : ℕ) (used mid : Used) (above : List (List ℕ)) (folder path : List ℕ) (contents : List Command) (lines : List Command) (e : SpliceFault)
    → 0 < left → says_at path (files path) ≡ Ok contents → lines ≡ contents → check_file used above path lines ≡ Ok tt → mid ≡ with_file used contents
    → Fails e (open_lines (open_file files (left - 1)) mid above folder lines) → Fails e (open_file files left used above folder path)
tree_fails files left used mid above folder path contents lines e some says are right mid_is fails =
    let here : check_file used above path contents ≡ Ok tt = ap (check_file used above path) (sym are) ∙ right in
    let failing : Fails e (open_lines (open_file files (left - 1)) (with_file used contents) above folder contents) =
    subst (λ (u : Used). Fails e (open_lines (open_file files (left - 1)) u above folder contents)) mid_is
    (subst (λ (cs : List Command). Fails e (open_lines (open_file files (left - 1)) mid above folder cs)) are fails) in
    subst (Fails e) (sym (deeper files left used above folder path contents some says here)) (fails_bind e _ _ failing)

abbrev pub Inner : Files → ℕ → List (List ℕ) → List ℕ → List ℕ → List Command → DagBuilder → DagBuilder → List Part → Option DagFault → Type 0
Inner files left above folder prefix lines mid inner parts fault =
    (forest : Forest) × (open_lines (open_file files (left - 1)) mid.used above folder lines ≡ Ok forest) × AddsForest prefix mid inner forest
    × (parts ≡ [] ++ forest_parts (length mid.nodes.items) forest) × (fault ≡ files_fault (forest_files prefix forest))

-- a file's own nodes were added
pub record Begun (prefix folder path : List ℕ) (contents : List Command) (old mid : DagBuilder) : Type 0 where
  pub files : (counts : List ℕ) → AddsFiles old mid (record { prefix = prefix; said = parsed_file path folder contents; counts = counts } ∷ [])
  pub edges : mid.edges.items ≡ old.edges.items
  pub used : mid.used ≡ with_file old.used contents

begun-length : (prefix folder path : List ℕ) (contents : List Command) (old mid : DagBuilder) → Begun prefix folder path contents old mid → length mid.nodes.items ≡ length old.nodes.items + own_count contents
begun-length prefix folder path contents old mid b =
    let file : OpenFile = record { prefix = prefix; said = parsed_file path folder contents; counts = [] } in
    ap (λ (ns : List FlatNode). length ns) ((b.files []).nodes ∙ ap (λ (ns : List FlatNode). old.nodes.items ++ ns) (append-nil (job_nodes file)))
    ∙ length-append old.nodes.items (job_nodes file) ∙ ap (λ (n : ℕ). length old.nodes.items + n) (own-length file)

-- how many nodes there are once a file's own ones and its splices' were added
pub counted : (prefix folder path : List ℕ) (contents : List Command) (old mid new : DagBuilder) (forest : Forest) → Begun prefix folder path contents old mid → AddsForest prefix mid new forest → length new.nodes.items ≡ length old.nodes.items + (own_count contents + forest_count forest)
counted prefix folder path contents old mid new forest begun adds =
    ap (λ (ns : List FlatNode). length ns) adds.files.nodes ∙ length-append mid.nodes.items (flat_map job_nodes (forest_files prefix forest))
    ∙ ap (λ (n : ℕ). length mid.nodes.items + n) (nodes-length prefix forest)
    ∙ ap (λ (n : ℕ). n + forest_count forest) (begun-length prefix folder path contents old mid begun)
    ∙ add_assoc (length old.nodes.items) (own_count contents) (forest_count forest)

-- a file's own names fit among the nodes that its opening left
pub scope_fits : (prefix folder path : List ℕ) (contents : List Command) (old mid new : DagBuilder) (forest : Forest) (jobs : List (List ℕ)) (before : List FlatNode)
    → Begun prefix folder path contents old mid → AddsForest prefix mid new forest → jobs ≡ job_names contents → before ≡ old.nodes.items
    → length before + length jobs ≤ length new.nodes.items
scope_fits prefix folder path contents old mid new forest jobs before begun adds are is_before =
    let total : length new.nodes.items ≡ length old.nodes.items + (own_count contents + forest_count forest) = counted prefix folder path contents old mid new forest begun adds in
    let a : length jobs ≡ own_count contents = ap (λ (ns : List (List ℕ)). length ns) are ∙ names-length _ in
    let b : length before ≡ length old.nodes.items = ap (λ (ns : List FlatNode). length ns) is_before in
    omega arith

-- the counts of the parts
pub counts_are : (first : ℕ) (f : Forest) → map (λ (p : Part). p.count) (forest_parts first f) ≡ forest_counts f
counts_are first none = refl
counts_are first (more name file inner others) = ap (λ (ns : List ℕ). (own_count file.commands + forest_count inner) ∷ ns) (counts_are (first + (own_count file.commands + forest_count inner)) others)

pub tree_opens : (files : Files) (left : ℕ) (above : List (List ℕ)) (folder path prefix : List ℕ) (contents : List Command) (lines : List Command) (old mid inner new : DagBuilder) (parts : List Part) (jobs finals splices : List (List ℕ)) (first start : ℕ) (found : Found) (own fault : Option DagFault)
    → 0 < left → says_at path (files path) ≡ Ok contents → lines ≡ contents → check_file old.used above path lines ≡ Ok tt
    → jobs ≡ job_names lines → finals ≡ final_names lines → splices ≡ splice_names lines → first ≡ length old.nodes.items → start ≡ length old.edges.items
    → Begun prefix folder path contents old mid
    → Inner files left above folder prefix lines mid inner parts fault
    → SameButEdges inner new
    → new.edges.items ≡ inner.edges.items ++ flat_map (line_edges (record { first = first; jobs = jobs; splices = splices; parts = parts })) lines
    → found.part ≡ part_of first (length new.nodes.items - first) (drop start new.edges.items)
    → own ≡ first_some (line_fault (record { path = path; jobs = jobs; finals = finals; splices = splices; counts = map (λ (p : Part). p.count) parts })) lines
    → found.fault ≡ option_or own fault
    → (tree : Tree) × (open_file files left old.used above folder path ≡ Ok tree) × AddsTree prefix old new tree × (found.part ≡ tree_part (length old.nodes.items) tree)
    × (found.fault ≡ files_fault (tree_files prefix tree))
tree_opens files left above folder path prefix contents lines old mid inner new parts jobs finals splices first start found own fault some says are right jobs_are finals_are splices_are first_is start_is begun (forest, opened, adds, parts_are, faults) same edges part_was own_is fault_is =
    let at = length old.nodes.items in
    let cs = contents in
    let tree : Tree = record { file = parsed_file path folder contents; inner = forest } in
    let this : OpenFile = opened_as prefix (parsed_file path folder contents) forest in
    let middle : length mid.nodes.items ≡ at + own_count cs = begun-length prefix folder path contents old mid begun in
    let here : check_file old.used above path cs ≡ Ok tt = ap (check_file old.used above path) (sym are) ∙ right in
    let inside_opened : open_lines (open_file files (left - 1)) (with_file old.used cs) above folder cs ≡ Ok forest =
    ap (λ (u : Used). open_lines (open_file files (left - 1)) u above folder cs) (sym begun.used) ∙ ap (open_lines (open_file files (left - 1)) mid.used above folder) (sym are) ∙ opened in
    let parts_here : parts ≡ forest_parts (at + own_count cs) forest = parts_are ∙ ap (λ (n : ℕ). forest_parts n forest) middle in
    let scope_is : (record { first = first; jobs = jobs; splices = splices; parts = parts }) ≡ node_scope at cs (forest_parts (at + own_count cs) forest) =
    ap (λ (n : ℕ). record { first = n; jobs = jobs; splices = splices; parts = parts }) first_is
    ∙ ap (λ (x : List (List ℕ)). record { first = at; jobs = x; splices = splices; parts = parts }) (jobs_are ∙ ap job_names are)
    ∙ ap (λ (x : List (List ℕ)). record { first = at; jobs = job_names cs; splices = x; parts = parts }) (splices_are ∙ ap splice_names are)
    ∙ ap (λ (x : List Part). node_scope at cs x) parts_here in
    let lines_are : new.edges.items ≡ old.edges.items ++ tree_edges at tree =
    edges ∙ ap (λ (x : NodeScope). inner.edges.items ++ flat_map (line_edges x) lines) scope_is
    ∙ ap (λ (ls : List Command). inner.edges.items ++ flat_map (line_edges (node_scope at cs (forest_parts (at + own_count cs) forest))) ls) are
    ∙ ap (λ (es : List EdgeGroup). es ++ flat_map (line_edges (node_scope at cs (forest_parts (at + own_count cs) forest))) cs) (adds.edges ∙ ap (λ (es : List EdgeGroup). es ++ forest_edges (length mid.nodes.items) forest) begun.edges ∙ ap (λ (n : ℕ). old.edges.items ++ forest_edges n forest) middle)
    ∙ append_assoc old.edges.items (forest_edges (at + own_count cs) forest) (flat_map (line_edges (node_scope at cs (forest_parts (at + own_count cs) forest))) cs) in
    let added : AddsFiles old inner (tree_files prefix tree) = files_more old mid inner (this ∷ []) (forest_files prefix forest) (begun.files (forest_counts forest)) adds.files in
    let total : length new.nodes.items ≡ at + (own_count cs + forest_count forest) = ap (λ (ns : List FlatNode). length ns) same.nodes ∙ counted prefix folder path contents old mid inner forest begun adds in
    let count : length new.nodes.items - first ≡ own_count cs + forest_count forest = omega arith in
    let rest : drop start new.edges.items ≡ tree_edges at tree = ap (λ (n : ℕ). drop n new.edges.items) start_is ∙ ap (drop (length old.edges.items)) lines_are ∙ drop-append_seam old.edges.items (tree_edges at tree) in
    let part_is : found.part ≡ tree_part at tree =
    part_was ∙ ap (λ (n : ℕ). part_of n (length new.nodes.items - first) (drop start new.edges.items)) first_is ∙ ap (λ (n : ℕ). part_of at n (drop start new.edges.items)) count ∙ ap (part_of at (own_count cs + forest_count forest)) rest in
    let names_are : (record { path = path; jobs = jobs; finals = finals; splices = splices; counts = map (λ (p : Part). p.count) parts }) ≡ names_declared path cs (forest_counts forest) =
    ap (λ (x : List (List ℕ)). record { path = path; jobs = x; finals = finals; splices = splices; counts = map (λ (p : Part). p.count) parts }) (jobs_are ∙ ap job_names are)
    ∙ ap (λ (x : List (List ℕ)). record { path = path; jobs = job_names cs; finals = x; splices = splices; counts = map (λ (p : Part). p.count) parts }) (finals_are ∙ ap final_names are)
    ∙ ap (λ (x : List (List ℕ)). record { path = path; jobs = job_names cs; finals = final_names cs; splices = x; counts = map (λ (p : Part). p.count) parts }) (splices_are ∙ ap splice_names are)
    ∙ ap (names_declared path cs) (ap (map (λ (p : Part). p.count)) parts_here ∙ counts_are (at + own_count cs) forest) in
    let own_fault : own ≡ file_fault this = own_is ∙ ap (λ (n : Names). first_some (line_fault n) lines) names_are ∙ ap (first_some (line_fault (names_declared path cs (forest_counts forest)))) are in (
      tree,
      deeper files left old.used above folder path contents some says here ∙ ap (λ (x : Result Forest DagFault). x >>= λ i. Ok (record { file = parsed_file path folder contents; inner = i })) inside_opened,
      record {
        files = record { nodes = same.nodes ∙ added.nodes; finals = same.finals ∙ added.finals; warned = same.warned ∙ added.warned };
        edges = lines_are;
        used = same.used ∙ adds.used ∙ ap (λ (u : Used). with_forest u forest) begun.used;
      },
      part_is,
      fault_is ∙ ap (λ (x : Option DagFault). option_or x fault) own_fault ∙ ap (option_or (file_fault this)) faults,
    )

-- The top file.
pub top_fails : (files : Files) (left : ℕ) (above front : List (List ℕ)) (path top : List ℕ) (used : Used) (e : SpliceFault) → above ≡ front ++ path ∷ [] → front ≡ [] → path ≡ top → Fails e (open_file files left used above [] top) → Fails e (open_file files left used (top ∷ []) [] top)
top_fails files left above front path top used e is empty same fails =
    let here : above ≡ top ∷ [] = is ∙ ap (λ (a : List (List ℕ)). a ++ path ∷ []) empty ∙ ap (λ (x : List ℕ). x ∷ []) same in
    subst (λ (a : List (List ℕ)). Fails e (open_file files left used a [] top)) here fails

pub top_opens : (files : Files) (left : ℕ) (above front : List (List ℕ)) (path top : List ℕ) (old new : DagBuilder) (found : Found) (used : Used) → above ≡ front ++ path ∷ [] → front ≡ [] → path ≡ top
    → old.nodes.items ≡ [] → old.finals.items ≡ [] → old.edges.items ≡ [] → old.warned ≡ record { limits = []; notices = [] } → old.used ≡ used
    → OneTree (open_file files left) above [] top [] old new found
    → (tree : Tree) × (open_file files left used (top ∷ []) [] top ≡ Ok tree)
    × (new.nodes.items ≡ flat_map job_nodes (tree_files [] tree)) × (new.finals.items ≡ flat_map final_nodes (tree_files [] tree)) × (new.edges.items ≡ tree_edges 0 tree)
    × (new.warned ≡ warn_files (record { limits = []; notices = [] }) (tree_files [] tree)) × (found.fault ≡ files_fault (tree_files [] tree))
    × (new.used ≡ with_forest (with_file used tree.file.commands) tree.inner)
top_opens files left above front path top old new found used is empty same no_nodes no_finals no_edges no_told used_are (tree, opened, adds, part, fault) =
    let here : above ≡ top ∷ [] = is ∙ ap (λ (a : List (List ℕ)). a ++ path ∷ []) empty ∙ ap (λ (x : List ℕ). x ∷ []) same in (
      tree,
      ap (λ (u : Used). open_file files left u (top ∷ []) [] top) (sym used_are) ∙ ap (λ (a : List (List ℕ)). open_file files left old.used a [] top) (sym here) ∙ opened,
      adds.files.nodes ∙ ap (λ (ns : List FlatNode). ns ++ flat_map job_nodes (tree_files [] tree)) no_nodes,
      adds.files.finals ∙ ap (λ (ns : List FlatNode). ns ++ flat_map final_nodes (tree_files [] tree)) no_finals,
      adds.edges ∙ ap (λ (es : List EdgeGroup). es ++ tree_edges (length old.nodes.items) tree) no_edges ∙ ap (λ (ns : List FlatNode). tree_edges (length ns) tree) no_nodes,
      adds.files.warned ∙ ap (λ (t : Warned). warn_files t (tree_files [] tree)) no_told,
      fault,
      adds.used ∙ ap (λ (u : Used). with_forest (with_file u tree.file.commands) tree.inner) used_are,
    )
