-- Names in a picture.
use Rattle.std.specs.Prelude.{ℕ, ◌-◌, ◌==◌, List, [], ◌++◌, length, take, flat_map, slice_index_or, codes, chars, if◌then◌else◌}
use Rattle.std.specs.Char.{encode_utf8}
use Rattle.std.specs.List.{slice_split}

-- What stands for a character between quotes: a quote would end the text, a backslash would begin an escape, and an ampersand an entity.
abbrev pub escaped_label : ℕ → List ℕ
escaped_label character =
    if character == 34 then codes "\\\""
    else if character == 92 then codes "\\\\"
    else if character == 38 then codes "&amp;"
    else encode_utf8 character

-- a text between quotes
abbrev pub quoted_label : List ℕ → List ℕ
quoted_label text = codes "\"" ++ (flat_map escaped_label (chars text) ++ codes "\"")

-- the parts of a full name, between its `+`: the splices in which the node is, the outermost first, and its own name
abbrev pub parts_of : List ℕ → List (List ℕ)
parts_of name = slice_split (λ b. b == 43) name

-- the splices among the parts
abbrev pub splices_among : List (List ℕ) → List (List ℕ)
splices_among parts = take (length parts - 1) parts

-- the node's own name among the parts
abbrev pub own_in : List (List ℕ) → List ℕ
own_in parts = slice_index_or parts (length parts - 1) []

-- the splices in which a node of this full name is, and its own name
abbrev pub splices_of_name : List ℕ → List (List ℕ)
splices_of_name name = splices_among (parts_of name)

abbrev pub own_of : List ℕ → List ℕ
own_of name = own_in (parts_of name)
