-- The bytes of files that were added one after another.
use Rattle.std.proofs.Common.{◌≡◌, ℕ, List, [], ◌∷◌, ◌++◌, map, Bor, String, Vec, Global, sym, ap, ◌∙◌, append_assoc}
use Rattle.std.specs.Prelude.{string_bytes}
use Rattle.std.specs.List.{flat_map}
use Rattle.std.specs.Map.Iter.{deref_pair}
use Rattle.std.proofs.lemmas.List.{flat_map_more}
use Rattle.std.proofs.lemmas.List.Folds.{flat_map-map}
use Rattle.splices_flat.specs.FileSet.{entries_of}
use Rattle.splices_flat.specs.declared.file_set.FileSet.{FileSet}
use Rattle.run_plan.specs.Digest.{sized, sized_file}

-- a name and a file, as a set's iterator lends them
abbrev pub Lent : Type 0
Lent = Bor (String Global) × Bor (Vec ℕ Global)

abbrev pub sized_lent : Lent → List ℕ
sized_lent file = sized_file (string_bytes file.0.now, file.1.now.items)

-- one file more
pub file_more : (file : Lent) (before name bytes : List ℕ) (files : List Lent) → name ≡ string_bytes file.0.now → bytes ≡ file.1.now.items
    → ((before ++ flat_map sized_lent files) ++ sized name) ++ sized bytes ≡ before ++ flat_map sized_lent (files ++ file ∷ [])
file_more file before name bytes files name_is bytes_is =
    append_assoc (before ++ flat_map sized_lent files) (sized name) (sized bytes)
    ∙ ap (λ (n : List ℕ). (before ++ flat_map sized_lent files) ++ (sized n ++ sized bytes)) name_is
    ∙ ap (λ (b : List ℕ). (before ++ flat_map sized_lent files) ++ (sized (string_bytes file.0.now) ++ sized b)) bytes_is
    ∙ flat_map_more sized_lent before files file

-- all files of a set
pub files_all : (set : FileSet) (files : List Lent) → map deref_pair files ≡ set.files.entries → flat_map sized_lent files ≡ flat_map sized_file (entries_of set)
files_all set files all =
    sym (flat_map-map (λ (file : String Global × Vec ℕ Global). sized_file (string_bytes file.0, file.1.items)) deref_pair files)
    ∙ ap (flat_map (λ (file : String Global × Vec ℕ Global). sized_file (string_bytes file.0, file.1.items))) all
    ∙ sym (flat_map-map sized_file (λ (file : String Global × Vec ℕ Global). (string_bytes file.0, file.1.items)) set.files.entries)
