-- Texts of a page that come from outside.
use Rattle.std.specs.Prelude.{ℕ, Bool, ◌&&◌, not, ◌==◌, nat_lt, List, flat_map, chars, codes, if◌then◌else◌}
use Rattle.std.specs.Char.{encode_utf8}

-- a control character that is neither a tab nor the end of a line: HTML allows none in a text
abbrev pub is_hidden : ℕ → Bool
is_hidden c =
    if nat_lt c 32 then not (c == 9) && not (c == 10)
    else not (nat_lt c 127) && nat_lt c 160

-- What is written for a character: `&`, `<`, `>` and both quotes, which could end or begin something in HTML, by a reference; a control
-- character as a question mark; any other as itself.
abbrev pub escaped_character : ℕ → List ℕ
escaped_character c =
    if c == 38 then codes "&amp;"
    else if c == 60 then codes "&lt;"
    else if c == 62 then codes "&gt;"
    else if c == 34 then codes "&quot;"
    else if c == 39 then codes "&#39;"
    else if is_hidden c then codes "?"
    else encode_utf8 c

-- a text as HTML shows it: of a name, a path, a command or an output
unfoldable pub escaped_text : List ℕ → List ℕ
escaped_text text = flat_map escaped_character (chars text)
