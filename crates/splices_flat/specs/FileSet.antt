-- What a file set holds.
use Rattle.std.specs.Prelude.{ℕ, List, map, Option, string_bytes}
use Rattle.std.specs.Option.{option_map}
use Rattle.std.specs.BTreeMap.{get_by_text}
use Rattle.splices_flat.specs.declared.file_set.FileSet.{FileSet}

abbrev pub bytes_of : FileSet → List ℕ → Option (List ℕ)
bytes_of set name = option_map (λ v. v.items) (get_by_text set.files name)

-- the names and the files, in the order of the bytes of the names
abbrev pub entries_of : FileSet → List (List ℕ × List ℕ)
entries_of set = map (λ file. (string_bytes file.0, file.1.items)) set.files.entries
