-- What opening gives are the files that the rules say.
use Rattle.std.proofs.Common.{◌≡◌, ℕ, zero, suc, List, [], ◌∷◌, ◌++◌, Option, Some, None, Result, Ok, Err, refl, sym, ap, subst, ◌∙◌}
use Rattle.std.specs.Prelude.{position}
use Rattle.std.specs.Str.{bytes_eq}
use Rattle.dag_reader.specs.declared.command.Command.{Command}
use Rattle.dag_reader.specs.declared.command.Command.TheVariants.{Splice}
use Rattle.dag_reader.specs.declared.fault.LineFault.{LineFault}
use Rattle.dag_reader.specs.Reading.{text_at}
use Rattle.splices_flat.specs.declared.fault.DagFault.{DagFault}
use Rattle.splices_flat.specs.declared.used.Used.{Used}
use Rattle.splices_flat.specs.Forest.{ParsedFile, Forest, none, more, Tree}
use Rattle.splices_flat.specs.Opening.{◌>>=◌, Files, Opener, in_file, says_at, check_file, with_file, with_forest, with_splice, parsed_file, forests_joined, enter_at, open_line, open_lines, open_said, open_file, tree_at}
use Rattle.splices_flat.specs.OpenedFiles.{Spliced, splice_in, splices_in, splice_folder, splice_path, IsSaid, AreOpened, IsOpenedTree}

-- what comes before a last step that succeeds
pub bound : {A B : Type 0} (r : Result A DagFault) (f : A → Result B DagFault) (b : B) → (r >>= f) ≡ Ok b → (a : A) × (r ≡ Ok a) × (f a ≡ Ok b)
bound (Ok a) f b is = (a, refl, is)
bound (Err e) f b is = absurd cc

abbrev pub good : {A : Type 0} → A → Result A DagFault
good x = Ok x

pub given : {A : Type 0} (x y : A) → good x ≡ good y → x ≡ y
given x y is = cc

spelled : (path bytes : List ℕ) (r : Result (List Command) LineFault) (contents : List Command) → in_file path r ≡ Ok contents → r ≡ Ok contents
spelled path bytes (Ok x) contents is = cc
spelled path bytes (Err e) contents is = absurd cc

said : (files : Files) (folder path : List ℕ) (contents : List Command) (found : Option (List ℕ)) → files path ≡ found → says_at path found ≡ Ok contents → IsSaid files folder path (parsed_file path folder contents)
said files folder path contents None at is = absurd cc
said files folder path contents (Some bytes) at is = record {
  path_is = refl;
  folder_is = refl;
  bytes = bytes;
  there = at;
  says = spelled path bytes (text_at bytes) contents is;
}

abbrev Opens : Files → List (List ℕ) → List ℕ → List ℕ → Tree → Type 0
Opens files above folder path tree = IsSaid files folder path tree.file × AreOpened files above folder (splices_in tree.file.commands) tree.inner

pub entered : (opener : Opener) (used : Used) (above : List (List ℕ)) (folder path : List ℕ) (place : Option ℕ) (tree : Tree) → enter_at opener used above folder path place ≡ Ok tree → (place ≡ None) × (opener (with_splice used) (above ++ path ∷ []) folder path ≡ Ok tree)
entered opener used above folder path None tree is = (refl, is)
entered opener used above folder path (Some k) tree is = absurd cc

module _ (files : Files) (opener : Opener) (each : (used : Used) (above : List (List ℕ)) (folder path : List ℕ) (tree : Tree) → opener used above folder path ≡ Ok tree → Opens files above folder path tree) where
  silent : (above : List (List ℕ)) (folder : List ℕ) (ss : List Spliced) (first others : Forest) → good none ≡ good first → AreOpened files above folder ss others → AreOpened files above folder ss (forests_joined first others)
  silent above folder ss first others is rest = subst (λ (f : Forest). AreOpened files above folder ss (forests_joined f others)) (given none first is) rest

  line-opens : (used : Used) (above : List (List ℕ)) (folder : List ℕ) (c : Command) (ss : List Spliced) (first others : Forest) → open_line opener used above folder c ≡ Ok first → AreOpened files above folder ss others
      → AreOpened files above folder (splice_in c ++ ss) (forests_joined first others)
  line-opens used above folder (Splice name file dir) ss first others is rest =
      let s : Spliced = record { name = name; file = file; dir = dir } in
      let b = bound (enter_at opener used above (splice_folder folder s) (splice_path folder s) (position (bytes_eq (splice_path folder s)) above)) _ first is in
      let tree = b.0 in
      let e = entered opener used above (splice_folder folder s) (splice_path folder s) (position (bytes_eq (splice_path folder s)) above) tree b.1 in
      let o = each (with_splice used) (above ++ splice_path folder s ∷ []) (splice_folder folder s) (splice_path folder s) tree e.1 in
      subst (λ (f : Forest). AreOpened files above folder (s ∷ ss) (forests_joined f others)) (given (more name.text tree.file tree.inner none) first b.2) (refl, e.0, o.0, o.1, rest)
  line-opens used above folder c ss first others is rest = silent above folder ss first others is rest

  lines-open : (cs : List Command) (used : Used) (above : List (List ℕ)) (folder : List ℕ) (forest : Forest) → open_lines opener used above folder cs ≡ Ok forest → AreOpened files above folder (splices_in cs) forest
  lines-open [] used above folder forest is = subst (AreOpened files above folder []) (given none forest is) tt
  lines-open (c ∷ cs) used above folder forest is =
      let a = bound (open_line opener used above folder c) _ forest is in
      let b = bound (open_lines opener (with_forest used a.0) above folder cs) _ forest a.2 in
      subst (AreOpened files above folder (splice_in c ++ splices_in cs)) (given (forests_joined a.0 b.0) forest b.2)
      (line-opens used above folder c (splices_in cs) a.0 b.0 a.1 (lines-open cs (with_forest used a.0) above folder b.0 b.1))

file-opens : (files : Files) (left : ℕ) (used : Used) (above : List (List ℕ)) (folder path : List ℕ) (tree : Tree) → open_file files left used above folder path ≡ Ok tree → Opens files above folder path tree
file-opens files zero used above folder path tree is = absurd cc
file-opens files (suc left) used above folder path tree is =
    let a = bound (says_at path (files path)) (open_said (open_file files left) used above folder path) tree is in
    let contents = a.0 in
    let b = bound (check_file used above path contents) _ tree a.2 in
    let d = bound (open_lines (open_file files left) (with_file used contents) above folder contents) _ tree b.2 in
    subst (Opens files above folder path) (given (record { file = parsed_file path folder contents; inner = d.0 }) tree d.2)
    (said files folder path contents (files path) refl a.1, lines-open files (open_file files left) (file-opens files left) contents (with_file used contents) above folder d.0 d.1)

pub is-opened : (files : Files) (top : List ℕ) (tree : Tree) → tree_at files top ≡ Ok tree → IsOpenedTree files top tree
unfolding tree_at
is-opened files top tree is = file-opens files 33 (record { nodes = 0; splices = 0 }) (top ∷ []) [] top tree is

-- There is one way to open files.
some-same : (x y : List ℕ) (o : Option (List ℕ)) → o ≡ Some x → o ≡ Some y → x ≡ y
some-same x y o a b = cc

read-same : (x y : List Command) (r : Result (List Command) LineFault) → r ≡ Ok x → r ≡ Ok y → x ≡ y
read-same x y r a b = let same : Ok x ≡ Ok y = sym a ∙ b in cc

said-same : (files : Files) (folder path : List ℕ) (a b : ParsedFile) → IsSaid files folder path a → IsSaid files folder path b → a ≡ b
said-same files folder path a b x y =
    let bytes : x.bytes ≡ y.bytes = some-same x.bytes y.bytes (files path) x.there y.there in
    let same : a.commands ≡ b.commands = read-same a.commands b.commands (text_at y.bytes) (ap text_at (sym bytes) ∙ x.says) y.says in
    λ j. record { path = (x.path_is ∙ sym y.path_is) j; folder = (x.folder_is ∙ sym y.folder_is) j; commands = same j }

forest-same : (a b : Forest) (files : Files) (above : List (List ℕ)) (folder : List ℕ) (ss : List Spliced) → AreOpened files above folder ss a → AreOpened files above folder ss b → a ≡ b
forest-same none none files above folder ss x y = refl
forest-same none (more name file inner others) files above folder [] x y = absurd y
forest-same none (more name file inner others) files above folder (s ∷ ss) x y = absurd x
forest-same (more name file inner others) none files above folder [] x y = absurd x
forest-same (more name file inner others) none files above folder (s ∷ ss) x y = absurd y
forest-same (more name file inner others) (more name' file' inner' others') files above folder [] x y = absurd x
forest-same (more name file inner others) (more name' file' inner' others') files above folder (s ∷ ss) x y =
    let named : name ≡ name' = x.0 ∙ sym y.0 in
    let filed : file ≡ file' = said-same files (splice_folder folder s) (splice_path folder s) file file' x.2 y.2 in
    let within : inner ≡ inner' = forest-same inner inner' files (above ++ splice_path folder s ∷ []) (splice_folder folder s) (splices_in file'.commands)
    (subst (λ (f : ParsedFile). AreOpened files (above ++ splice_path folder s ∷ []) (splice_folder folder s) (splices_in f.commands) inner) filed x.3) y.3 in
    let behind : others ≡ others' = forest-same others others' files above folder ss x.4 y.4 in
    λ j. more (named j) (filed j) (within j) (behind j)

pub one-opening : (files : Files) (top : List ℕ) (a b : Tree) → IsOpenedTree files top a → IsOpenedTree files top b → a ≡ b
one-opening files top a b x y =
    let filed : a.file ≡ b.file = said-same files [] top a.file b.file x.0 y.0 in
    let within : a.inner ≡ b.inner = forest-same a.inner b.inner files (top ∷ []) [] (splices_in b.file.commands)
    (subst (λ (f : ParsedFile). AreOpened files (top ∷ []) [] (splices_in f.commands) a.inner) filed x.1) y.1 in
    λ j. record { file = filed j; inner = within j }
