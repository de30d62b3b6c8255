-- The digest of what a plan is made from.
use Rattle.std.specs.Prelude.{ℕ, List, [], ◌∷◌, ◌++◌, length, Option, Some, None}
use Rattle.std.specs.Int.{w64, to_be_bytes}
use Rattle.std.specs.List.{flat_map}
use Rattle.sha2.specs.Sha256.{sha256}

-- a text after its length, of eight bytes
abbrev pub sized : List ℕ → List ℕ
sized text = to_be_bytes w64 (length text) ++ text

-- a file's name and content
abbrev pub sized_file : List ℕ × List ℕ → List ℕ
sized_file file = sized file.0 ++ sized file.1

-- a byte that says whether there is a rescue file, and its content
abbrev pub sized_rescue : Option (List ℕ) → List ℕ
sized_rescue None = 0 ∷ []
sized_rescue (Some bytes) = 1 ∷ sized bytes

-- The path of the DAG file, the files in the order of the bytes of their names, and the rescue file. Each text is
-- after its length, so no two inputs spell the same bytes.
unfoldable pub digest_text : List ℕ → List (List ℕ × List ℕ) → Option (List ℕ) → List ℕ
digest_text top files rescue = sized top ++ flat_map sized_file files ++ sized_rescue rescue

-- SHA-256 of these bytes
unfoldable pub digest_of : List ℕ → List (List ℕ × List ℕ) → Option (List ℕ) → List ℕ
digest_of top files rescue = sha256 (digest_text top files rescue)
