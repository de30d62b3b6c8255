-- The text of `x.dag.inputs`, which `sha256sum` reads.
use Rattle.std.specs.Prelude.{ℕ, Bool, ◌==◌, ◌||◌, List, [], ◌∷◌, ◌++◌, Option, Some, None, codes, if◌then◌else◌}
use Rattle.std.specs.List.{list_any, flat_map}
use Rattle.sha2.specs.Sha256.{sha256}
use Rattle.hex.specs.Hex.{encode_lower}
use Rattle.round_inputs.specs.declared.inputs.Listed.{Listed}

-- a file of this path and these bytes, with its sum
abbrev pub listed_of : List ℕ × List ℕ → Listed
listed_of file = record { sum = sha256 file.1; path = file.0 }

-- the rescue file that a round read, if it read one
abbrev pub rescue_entry : Option (List ℕ × List ℕ) → List (List ℕ × List ℕ)
rescue_entry None = []
rescue_entry (Some file) = file ∷ []

-- a backslash, a line feed or a carriage return
abbrev pub needs_escape : ℕ → Bool
needs_escape byte = (byte == 92) || (byte == 10) || (byte == 13)

-- a byte of a name as `sha256sum` writes it: `\\`, `\n`, `\r`, or itself
abbrev pub escaped_byte : ℕ → List ℕ
escaped_byte byte =
    if byte == 92 then 92 ∷ 92 ∷ []
    else if byte == 10 then 92 ∷ 110 ∷ []
    else if byte == 13 then 92 ∷ 114 ∷ []
    else byte ∷ []

abbrev pub escaped_path : List ℕ → List ℕ
escaped_path name = flat_map escaped_byte name

-- the line of a name with such bytes begins with a backslash
abbrev pub escape_mark : List ℕ → List ℕ
escape_mark name = if list_any needs_escape name then 92 ∷ [] else []

-- `SUM  path`
abbrev pub listed_line : Listed → List ℕ
listed_line file = escape_mark file.path ++ (encode_lower file.sum ++ (codes "  " ++ (escaped_path file.path ++ codes "\n")))

-- `# dagrun inputs, digest DIGEST`
abbrev pub inputs_head : List ℕ → List ℕ
inputs_head digest = codes "# dagrun inputs, digest " ++ (encode_lower digest ++ codes "\n")

-- the digest of a round's plan, and a line for each file
abbrev pub inputs_text_of : List ℕ → List Listed → List ℕ
inputs_text_of digest files = inputs_head digest ++ flat_map listed_line files

-- `top.inputs`
abbrev pub inputs_name_of : List ℕ → List ℕ
inputs_name_of top = top ++ codes ".inputs"
