-- Names in a picture, and how wide they are.
use Rattle.std.specs.Prelude.{ℕ, ◌+◌, ◌||◌, ◌==◌, nat_lt, List, ◌++◌, sum_by, flat_map, chars, codes, encode_utf8, if◌then◌else◌}
use Rattle.std.specs.Char.{is_control}
use Rattle.node_machine.specs.declared.Phase.{Phase}
use Rattle.node_machine.specs.declared.Phase.TheVariants.{Pre, Job, Post}
use Rattle.run_times.specs.declared.names.TheConstants.{NARROW, WIDE}
use Rattle.run_times.specs.declared.runs.PhaseRun.{PhaseRun}
use Rattle.run_times.specs.Canvas.{within}

-- a character in a text of XML: what would end the text, or begin something else, by its name; a question mark, where XML has no such character
abbrev pub character_text : ℕ → List ℕ
character_text c =
    if c == 38 then codes "&amp;"
    else if c == 60 then codes "&lt;"
    else if c == 62 then codes "&gt;"
    else if is_control c || (c == 65534) || (c == 65535) then codes "?"
    else encode_utf8 c

abbrev pub name_text : List ℕ → List ℕ
name_text name = flat_map character_text (chars name)

-- what follows the name of a node in the label of a phase
abbrev pub label_end : Phase → List ℕ
label_end Pre = codes " PRE"
label_end Job = codes ""
label_end Post = codes " POST"

-- the label of a phase
abbrev pub bar_label : PhaseRun → List ℕ
bar_label run = name_text run.node.now ++ label_end run.phase

-- the width of a character: that of a Latin letter, or twice as much
abbrev pub character_width : ℕ → ℕ
character_width c = if nat_lt c 768 then NARROW else WIDE

abbrev pub text_width : List ℕ → ℕ
text_width text = within (sum_by character_width (chars text))

abbrev pub label_width : PhaseRun → ℕ
label_width run = within (text_width run.node.now + text_width (label_end run.phase))
