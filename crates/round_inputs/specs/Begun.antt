-- The text of `x.dag.begun`: the files that a round was begun with, byte for byte.
use Rattle.std.specs.Prelude.{ℕ, List, [], ◌++◌, length, Option, Some, None, Vec, codes, decimal}
use Rattle.std.specs.Global.{Global}
use Rattle.std.specs.List.{flat_map}
use Rattle.hex.specs.Hex.{encode_lower}

-- `# dagrun begun, digest DIGEST`
abbrev pub begun_head : List ℕ → List ℕ
begun_head digest = codes "# dagrun begun, digest " ++ (encode_lower digest ++ codes "\n")

-- `WORD PATH FILE`: how many bytes a path has, and how many the file of this path
abbrev pub begun_sizes : List ℕ → ℕ → ℕ → List ℕ
begun_sizes word path bytes = word ++ (decimal path ++ (codes " " ++ (decimal bytes ++ codes "\n")))

-- a file: that line, its path and its bytes, with a line feed after each of these
abbrev pub begun_piece : List ℕ → List ℕ × List ℕ → List ℕ
begun_piece word file = begun_sizes word (length file.0) (length file.1) ++ (file.0 ++ (codes "\n" ++ (file.1 ++ codes "\n")))

-- a file of the set
abbrev pub begun_file : List ℕ × List ℕ → List ℕ
begun_file file = begun_piece (codes "file ") file

-- the rescue file that the round read, if it read one
abbrev pub begun_rescue : Option (List ℕ × List ℕ) → List ℕ
begun_rescue None = []
begun_rescue (Some file) = begun_piece (codes "rescue ") file

-- the path and the bytes of a rescue file that is kept
abbrev pub rescue_kept : Option (List ℕ × Vec ℕ Global) → Option (List ℕ × List ℕ)
rescue_kept None = None
rescue_kept (Some file) = Some (file.0, file.1.items)

-- the digest of a round's plan, each file that it is of, and the line `end`
abbrev pub begun_text_of : List ℕ → List (List ℕ × List ℕ) → Option (List ℕ × List ℕ) → List ℕ
begun_text_of digest files rescue = begun_head digest ++ (flat_map begun_file files ++ (begun_rescue rescue ++ codes "end\n"))

-- `top.begun`
abbrev pub begun_name_of : List ℕ → List ℕ
begun_name_of top = top ++ codes ".begun"
