-- Links to files, as the IETF's page "The file URI Scheme" (RFC 8089) has them.
use Rattle.std.specs.Prelude.{ℕ, Bool, false, ◌||◌, ◌==◌, List, [], ◌∷◌, ◌++◌, flat_map, codes, if◌then◌else◌}
use Rattle.std.specs.Char.{is_ascii_alphanumeric}
use Rattle.percent_encoding.specs.Percent.{percent_encode_byte}

-- a letter, a digit, a slash, or one of `-`, `.`, `_` and `~`
abbrev pub is_kept : ℕ → Bool
is_kept b = is_ascii_alphanumeric b || b == 47 || b == 45 || b == 46 || b == 95 || b == 126

-- such a byte of a path is in a link as it is, and in place of any other are `%` and its two digits
abbrev pub linked_byte : ℕ → List ℕ
linked_byte b = if is_kept b then b ∷ [] else percent_encode_byte b

-- where a link to the file of an absolute path leads
unfoldable pub link_to : List ℕ → List ℕ
link_to path = codes "file://" ++ flat_map linked_byte path

-- a path that begins at the root
abbrev pub is_absolute : List ℕ → Bool
is_absolute [] = false
is_absolute (first ∷ rest) = first == 47
