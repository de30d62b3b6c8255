-- Files that are opened one after the other, and a draft to which they are added.
use Rattle.std.proofs.Common.{◌≡◌, ℕ, zero, suc, ◌+◌, ◌-◌, ◌<◌, ◌≤◌, List, [], ◌∷◌, ◌++◌, length, take, drop, get_or, Option, Some, None, Result, Ok, Err, refl, sym, ap, subst, ◌∙◌, append_assoc, arith}
use Rattle.std.proofs.lemmas.Grind.{common_steps, flat_map-append}
use Rattle.std.proofs.lemmas.List.{take_more, length-append}
use Rattle.std.specs.List.{flat_map}
use Rattle.std.specs.Option.{option_or}
use Rattle.dag_reader.specs.declared.command.Command.{Command}
use Rattle.splices_flat.specs.declared.flat.FlatNode.{FlatNode}
use Rattle.splices_flat.specs.declared.flat.EdgeGroup.{EdgeGroup}
use Rattle.splices_flat.specs.declared.part.Part.{Part}
use Rattle.splices.specs.declared.open.DagBuilder.{DagBuilder}
use Rattle.splices_flat.specs.declared.used.Used.{Used}
use Rattle.splices_flat.specs.declared.fault.DagFault.{DagFault}
use Rattle.splices_flat.specs.declared.fault.SpliceFault.{SpliceFault}
use Rattle.splices_flat.specs.declared.fault.SpliceFault.TheVariants as faults
use Rattle.splices_flat.specs.Warnings.{Warned}
use Rattle.splices_flat.specs.Forest.{Forest, OpenFile, forest_files, forest_count, job_nodes, final_nodes, warn_files}
use Rattle.splices_flat.specs.Edges.{forest_edges, forest_parts}
use Rattle.splices_flat.specs.Faults.{first_some, file_fault, files_fault}
use Rattle.splices_flat.specs.Opening.{◌>>=◌, Files, Opener, forests_joined, with_forest, check_line, check_lines, open_line, open_lines, open_said, open_file, says_at}
use Rattle.splices.specs.Adds.{Fails, AddsFiles, AddsForest}
use Rattle.splices_flat.proofs.Opened.{edges-joined, files-joined, joined-none, joined_assoc, nodes-length, parts-joined, used-joined}

pub fails_bind : {A B : Type 0} (e : SpliceFault) (r : Result A DagFault) (f : A → Result B DagFault) → Fails e r → Fails e (r >>= f)
fails_bind faults.Memory r f h = tt
fails_bind (faults.Dag d) r f h = ap (λ x. x >>= f) h

-- Files that were opened, and then others.
pub warned-append : (fs gs : List OpenFile) (warned : Warned) → warn_files warned (fs ++ gs) ≡ warn_files (warn_files warned fs) gs
warned-append [] gs warned = refl
warned-append (f ∷ fs) gs warned = warned-append fs gs _

pub or_assoc : {X : Type 0} (a b c : Option X) → option_or (option_or a b) c ≡ option_or a (option_or b c)
or_assoc None b c = refl
or_assoc (Some x) b c = refl

pub first_append : {X : Type 0} (f : X → Option DagFault) (xs ys : List X) → first_some f (xs ++ ys) ≡ option_or (first_some f xs) (first_some f ys)
first_append f [] ys = refl
first_append f (x ∷ xs) ys = ap (option_or (f x)) (first_append f xs ys) ∙ sym (or_assoc (f x) (first_some f xs) (first_some f ys))

pub files_more : (old mid new : DagBuilder) (fs gs : List OpenFile) → AddsFiles old mid fs → AddsFiles mid new gs → AddsFiles old new (fs ++ gs)
files_more old mid new fs gs a b = record {
  nodes = b.nodes ∙ ap (λ (ns : List FlatNode). ns ++ flat_map job_nodes gs) a.nodes ∙ append_assoc old.nodes.items (flat_map job_nodes fs) (flat_map job_nodes gs)
      ∙ ap (λ (ns : List FlatNode). old.nodes.items ++ ns) (sym (flat_map-append job_nodes fs gs));
  finals = b.finals ∙ ap (λ (ns : List FlatNode). ns ++ flat_map final_nodes gs) a.finals ∙ append_assoc old.finals.items (flat_map final_nodes fs) (flat_map final_nodes gs)
      ∙ ap (λ (ns : List FlatNode). old.finals.items ++ ns) (sym (flat_map-append final_nodes fs gs));
  warned = b.warned ∙ ap (λ (t : Warned). warn_files t gs) a.warned ∙ sym (warned-append fs gs old.warned);
}

-- what files stand in front of what is still opened
abbrev pub behind : Forest → Result Forest DagFault → Result Forest DagFault
behind front read = read >>= λ others. Ok (forests_joined front others)

-- Names that are declared once.
pub line_step : (path : List ℕ) (cs : List Command) (i : ℕ) (d : Command) → i < length cs → check_lines path (take i cs) (drop i cs) ≡ (check_line path (take i cs) (get_or cs i d) >>= λ _. check_lines path (take (i + 1) cs) (drop (i + 1) cs))
line_step path cs i d small =
    let here : drop i cs ≡ get_or cs i d ∷ drop (i + 1) cs = grind (arith, common_steps) in
    rw (here, take_more cs i d small) refl

-- one more forest is added to a draft
longer : (prefix : List ℕ) (old mid : DagBuilder) (f : Forest) → AddsForest prefix old mid f → length mid.nodes.items ≡ length old.nodes.items + forest_count f
longer prefix old mid f a =
    ap (λ (ns : List FlatNode). length ns) a.files.nodes ∙ length-append old.nodes.items (flat_map job_nodes (forest_files prefix f))
    ∙ ap (λ (n : ℕ). length old.nodes.items + n) (nodes-length prefix f)

pub adds_more : (prefix : List ℕ) (old mid new : DagBuilder) (f g : Forest) → AddsForest prefix old mid f → AddsForest prefix mid new g → AddsForest prefix old new (forests_joined f g)
adds_more prefix old mid new f g a b =
    record {
      files = subst (AddsFiles old new) (sym (files-joined prefix f g)) (files_more old mid new (forest_files prefix f) (forest_files prefix g) a.files b.files);
      edges = b.edges ∙ ap (λ (es : List EdgeGroup). es ++ forest_edges (length mid.nodes.items) g) a.edges
          ∙ append_assoc old.edges.items (forest_edges (length old.nodes.items) f) (forest_edges (length mid.nodes.items) g)
          ∙ ap (λ (n : ℕ). old.edges.items ++ (forest_edges (length old.nodes.items) f ++ forest_edges n g)) (longer prefix old mid f a)
          ∙ ap (λ (es : List EdgeGroup). old.edges.items ++ es) (sym (edges-joined (length old.nodes.items) f g));
      used = b.used ∙ ap (λ (u : Used). with_forest u g) a.used ∙ used-joined old.used f g;
    }

pub parts_more : (prefix : List ℕ) (old mid : DagBuilder) (p q r : List Part) (f g : Forest) → AddsForest prefix old mid f → q ≡ p ++ forest_parts (length old.nodes.items) f → r ≡ q ++ forest_parts (length mid.nodes.items) g → r ≡ p ++ forest_parts (length old.nodes.items) (forests_joined f g)
parts_more prefix old mid p q r f g a e h =
    h ∙ ap (λ (ps : List Part). ps ++ forest_parts (length mid.nodes.items) g) e ∙ append_assoc p (forest_parts (length old.nodes.items) f) (forest_parts (length mid.nodes.items) g)
    ∙ ap (λ (n : ℕ). p ++ (forest_parts (length old.nodes.items) f ++ forest_parts n g)) (longer prefix old mid f a)
    ∙ ap (λ (ps : List Part). p ++ ps) (sym (parts-joined (length old.nodes.items) f g))

pub fault_more : (prefix : List ℕ) (f g : Forest) (now found new : Option DagFault) → now ≡ files_fault (forest_files prefix f) → found ≡ files_fault (forest_files prefix g) → new ≡ option_or now found → new ≡ files_fault (forest_files prefix (forests_joined f g))
fault_more prefix f g now found new is more_is new_is =
    new_is ∙ ap (λ (x : Option DagFault). option_or x found) is ∙ ap (option_or (files_fault (forest_files prefix f))) more_is
    ∙ sym (first_append file_fault (forest_files prefix f) (forest_files prefix g)) ∙ ap (first_some file_fault) (sym (files-joined prefix f g))

-- the next line
pub lines_step : (opener : Opener) (used : Used) (above : List (List ℕ)) (folder : List ℕ) (cs : List Command) (i : ℕ) (d : Command) → i < length cs → open_lines opener used above folder (drop i cs) ≡ (open_line opener used above folder (get_or cs i d) >>= λ first. open_lines opener (with_forest used first) above folder (drop (i + 1) cs) >>= λ others. Ok (forests_joined first others))
lines_step opener used above folder cs i d small =
    let here : drop i cs ≡ get_or cs i d ∷ drop (i + 1) cs = grind (arith, common_steps) in
    ap (open_lines opener used above folder) here

behind_joined : (front first : Forest) (r : Result Forest DagFault) → behind front (r >>= λ others. Ok (forests_joined first others)) ≡ behind (forests_joined front first) r
behind_joined front first (Ok others) = ap (λ (f : Forest). Ok f) (sym (joined_assoc front first others))
behind_joined front first (Err e) = refl

-- what is still opened after some files
abbrev pub rest_at : Opener → Used → List (List ℕ) → List ℕ → List Command → ℕ → Forest → Result Forest DagFault
rest_at opener used above folder cs i front = behind front (open_lines opener (with_forest used front) above folder (drop i cs))

pub behind_more : (opener : Opener) (used : Used) (above : List (List ℕ)) (folder : List ℕ) (cs : List Command) (i : ℕ) (d : Command) (front first : Forest) → i < length cs → open_line opener (with_forest used front) above folder (get_or cs i d) ≡ Ok first → rest_at opener used above folder cs i front ≡ rest_at opener used above folder cs (i + 1) (forests_joined front first)
behind_more opener used above folder cs i d front first small e =
    ap (behind front) (lines_step opener (with_forest used front) above folder cs i d small ∙ ap (λ (r : Result Forest DagFault). r >>= λ f. open_lines opener (with_forest (with_forest used front) f) above folder (drop (i + 1) cs) >>= λ others. Ok (forests_joined f others)) e)
    ∙ behind_joined front first (open_lines opener (with_forest (with_forest used front) first) above folder (drop (i + 1) cs))
    ∙ ap (λ (u : Used). behind (forests_joined front first) (open_lines opener u above folder (drop (i + 1) cs))) (used-joined used front first)

pub behind_fails : (opener : Opener) (used : Used) (above : List (List ℕ)) (folder : List ℕ) (cs : List Command) (i : ℕ) (d : Command) (front : Forest) (e : SpliceFault) (all : Result Forest DagFault) → i < length cs → Fails e (open_line opener (with_forest used front) above folder (get_or cs i d)) → rest_at opener used above folder cs i front ≡ all → Fails e all
behind_fails opener used above folder cs i d front e all small h is =
    subst (Fails e) (ap (behind front) (sym (lines_step opener (with_forest used front) above folder cs i d small)) ∙ is)
    (fails_bind e _ _ (fails_bind e (open_line opener (with_forest used front) above folder (get_or cs i d)) _ h))

pub behind_done : (opener : Opener) (used : Used) (above : List (List ℕ)) (folder : List ℕ) (cs : List Command) (i : ℕ) (front : Forest) (all : Result Forest DagFault) → length cs ≤ i → rest_at opener used above folder cs i front ≡ all → all ≡ Ok front
behind_done opener used above folder cs i front all far is =
    let here : drop i cs ≡ [] = grind (arith, common_steps) in
    sym is ∙ ap (λ (xs : List Command). behind front (open_lines opener (with_forest used front) above folder xs)) here ∙ ap (λ (f : Forest). Ok f) (joined-none front)

-- A tree.
pub open_deeper : (files : Files) (left : ℕ) (used : Used) (above : List (List ℕ)) (folder path : List ℕ) → 0 < left → open_file files left used above folder path ≡ (says_at path (files path) >>= open_said (open_file files (left - 1)) used above folder path)
open_deeper files zero used above folder path some = absurd (omega arith)
open_deeper files (suc n) used above folder path some =
    let less : suc n - 1 ≡ n = omega arith in
    ap (λ (k : ℕ). says_at path (files path) >>= open_said (open_file files k) used above folder path) (sym less)
