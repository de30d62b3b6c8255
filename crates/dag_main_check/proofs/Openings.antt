-- A DAG whose files are read where they are held is that of the files that are held.
use Rattle.std.proofs.Common.{◌≡◌, ℕ, zero, suc, List, [], ◌∷◌, ◌++◌, Option, Some, None, Result, Ok, Err, refl, ap, ◌∙◌}
use Rattle.std.specs.Prelude.{position}
use Rattle.std.specs.Str.{bytes_eq}
use Rattle.dag_reader.specs.declared.command.Command.{Command}
use Rattle.dag_reader.specs.declared.command.Command.TheVariants.{Splice}
use Rattle.splices_flat.specs.declared.fault.DagFault.{DagFault}
use Rattle.splices_flat.specs.declared.fault.DagFault.TheVariants.{MissingFile}
use Rattle.splices_flat.specs.declared.used.Used.{Used}
use Rattle.splices_flat.specs.Forest.{none, more}
use Rattle.splices_flat.specs.Paths.{join, dir_text}
use Rattle.splices_flat.specs.Opening.{◌>>=◌, Files, Opener, says_at, check_file, with_file, with_forest, with_splice, enter_at, open_line, open_lines, open_said, open_file, tree_at}
use Rattle.splices_flat.specs.Opened.{dag_at}

module _ (set holds : Files) (held : (path bytes : List ℕ) → set path ≡ Some bytes → holds path ≡ Some bytes) where
  -- a file that a result tells of as missing is not held
  abbrev pub MissesNone : {A : Type 0} → Result A DagFault → Type 0
  MissesNone r = (path : List ℕ) → r ≡ Err (MissingFile path) → holds path ≡ None

  -- another result is the same, unless the one misses a file that is held
  abbrev pub Same : {A : Type 0} → Result A DagFault → Result A DagFault → Type 0
  Same r other = MissesNone r → other ≡ r

  bind-same : {A B : Type 0} (r other : Result A DagFault) (f g : A → Result B DagFault) → Same r other → ((a : A) → Same (f a) (g a)) → Same (r >>= f) (other >>= g)
  bind-same (Ok a) other f g same each misses =
      ap (λ o. o >>= g) (same (λ path is. absurd cc)) ∙ each a misses
  bind-same (Err e) other f g same each misses =
      ap (λ o. o >>= g) (same (λ path is. misses path cc))

  said-same : (path : List ℕ) (found : Option (List ℕ)) → set path ≡ found → Same (says_at path found) (says_at path (holds path))
  said-same path None at misses = ap (says_at path) (misses path refl)
  said-same path (Some bytes) at misses = ap (says_at path) (held path bytes at)

  module _ (opener other : Opener) (each : (used : Used) (above : List (List ℕ)) (folder path : List ℕ) → Same (opener used above folder path) (other used above folder path)) where
    enter-same : (used : Used) (above : List (List ℕ)) (folder path : List ℕ) (place : Option ℕ) → Same (enter_at opener used above folder path place) (enter_at other used above folder path place)
    enter-same used above folder path None = each (with_splice used) (above ++ path ∷ []) folder path
    enter-same used above folder path (Some k) = λ misses. refl

    line-same : (used : Used) (above : List (List ℕ)) (folder : List ℕ) (c : Command) → Same (open_line opener used above folder c) (open_line other used above folder c)
    line-same used above folder (Splice name file dir) =
        bind-same _ _ _ (λ tree. Ok (more name.text tree.file tree.inner none))
        (enter-same used above (join folder (dir_text dir)) (join (join folder (dir_text dir)) file.text) (position (bytes_eq (join (join folder (dir_text dir)) file.text)) above))
        (λ tree misses. refl)
    line-same used above folder c = λ misses. refl

    lines-same : (cs : List Command) (used : Used) (above : List (List ℕ)) (folder : List ℕ) → Same (open_lines opener used above folder cs) (open_lines other used above folder cs)
    lines-same [] used above folder = λ misses. refl
    lines-same (c ∷ cs) used above folder =
        bind-same (open_line opener used above folder c) (open_line other used above folder c) _ _ (line-same used above folder c)
        (λ first. bind-same (open_lines opener (with_forest used first) above folder cs) (open_lines other (with_forest used first) above folder cs) _ _
        (lines-same cs (with_forest used first) above folder)
        (λ others misses. refl))

    spoken-same : (used : Used) (above : List (List ℕ)) (folder path : List ℕ) (contents : List Command) → Same (open_said opener used above folder path contents) (open_said other used above folder path contents)
    spoken-same used above folder path contents =
        bind-same (check_file used above path contents) (check_file used above path contents) _ _ (λ misses. refl)
        (λ checked. bind-same (open_lines opener (with_file used contents) above folder contents) (open_lines other (with_file used contents) above folder contents) _ _
        (lines-same contents (with_file used contents) above folder)
        (λ inner misses. refl))

  file-same : (left : ℕ) (used : Used) (above : List (List ℕ)) (folder path : List ℕ) → Same (open_file set left used above folder path) (open_file holds left used above folder path)
  file-same zero used above folder path = λ misses. refl
  file-same (suc left) used above folder path =
      bind-same (says_at path (set path)) (says_at path (holds path)) _ _ (said-same path (set path) refl)
      (spoken-same (open_file set left) (open_file holds left) (file-same left) used above folder path)

  pub opened-same : (top : List ℕ) → Same (tree_at set top) (tree_at holds top)
  unfolding tree_at
  opened-same top = file-same 33 (record { nodes = 0; splices = 0 }) (top ∷ []) [] top

  pub dag-same : (top : List ℕ) → Same (dag_at set top) (dag_at holds top)
  unfolding dag_at
  dag-same top = bind-same (tree_at set top) (tree_at holds top) _ _ (opened-same top) (λ tree misses. refl)
