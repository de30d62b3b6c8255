-- The files of a set, as its iterator lends them.
use Rattle.std.proofs.Common.{◌≡◌, ℕ, List, [], ◌∷◌, ◌++◌, map, Bor, String, Vec, Global, refl, sym, ap, subst, ◌∙◌}
use Rattle.std.specs.Prelude.{string_bytes, All}
use Rattle.std.specs.List.{flat_map}
use Rattle.std.specs.Map.Iter.{deref_pair}
use Rattle.std.proofs.lemmas.List.Elements.{All-map}
use Rattle.splices_flat.specs.FileSet.{entries_of}
use Rattle.splices_flat.specs.declared.file_set.FileSet.{FileSet}
use Rattle.round_inputs.specs.Inputs.{listed_of}
use Rattle.round_inputs.specs.Begun.{begun_file}

-- a name and a file, as a set's iterator lends them
abbrev pub lent_file : Bor (String Global) × Bor (Vec ℕ Global) → List ℕ × List ℕ
lent_file file = (string_bytes file.0.now, file.1.now.items)

-- one map after another
pub maps : {A B C : Type 0} (g : B → C) (f : A → B) (xs : List A) → map g (map f xs) ≡ map (λ x. g (f x)) xs
maps g f [] = refl
maps g f (x ∷ xs) = ap (λ t. g (f x) ∷ t) (maps g f xs)

-- what is made of each of a list, after a map
flat_maps : {A B C : Type 0} (f : B → List C) (g : A → B) (xs : List A) → flat_map (λ x. f (g x)) xs ≡ flat_map f (map g xs)
flat_maps f g [] = refl
flat_maps f g (x ∷ xs) = ap (λ t. f (g x) ++ t) (flat_maps f g xs)

-- what was lent are the entries of a set
lent : (set : FileSet) (files : List (Bor (String Global) × Bor (Vec ℕ Global))) → map deref_pair files ≡ set.files.entries
    → map lent_file files ≡ entries_of set
lent set files all =
    sym (maps (λ (file : String Global × Vec ℕ Global). (string_bytes file.0, file.1.items)) deref_pair files)
    ∙ ap (map (λ (file : String Global × Vec ℕ Global). (string_bytes file.0, file.1.items))) all

-- all files of a set
pub files_all : (set : FileSet) (files : List (Bor (String Global) × Bor (Vec ℕ Global))) → map deref_pair files ≡ set.files.entries
    → map (λ file. listed_of (lent_file file)) files ≡ map listed_of (entries_of set)
files_all set files all = sym (maps listed_of lent_file files) ∙ ap (map listed_of) (lent set files all)

-- what holds of each that was lent holds of each entry
pub entries_all : (P : List ℕ × List ℕ → Type 0) (set : FileSet) (files : List (Bor (String Global) × Bor (Vec ℕ Global)))
    → map deref_pair files ≡ set.files.entries → All (λ file. P (lent_file file)) files → All P (entries_of set)
entries_all P set files all each = subst (All P) (lent set files all) (All-map P lent_file files each)

-- the text of all files of a set
pub begun_all : (set : FileSet) (files : List (Bor (String Global) × Bor (Vec ℕ Global))) → map deref_pair files ≡ set.files.entries
    → flat_map (λ file. begun_file (lent_file file)) files ≡ flat_map begun_file (entries_of set)
begun_all set files all = flat_maps begun_file lent_file files ∙ ap (flat_map begun_file) (lent set files all)
