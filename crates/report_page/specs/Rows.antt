-- The rows of the table of nodes.
use Rattle.std.specs.Prelude.{ℕ, zero, suc, ℤ, List, [], ◌++◌, Option, Some, None, length, slice_get, codes, if◌then◌else◌}
use Rattle.std.specs.Borrow.{Bor}
use Rattle.std.specs.Fmt.{decimal, signed_decimal}
use Rattle.log_lines.specs.Words.{unquoted_of}
use Rattle.report_page.specs.declared.values.Row.{Row}
use Rattle.report_page.specs.States.{state_word, look_of, look_class}
use Rattle.report_page.specs.Escaped.{escaped_text}
use Rattle.report_page.specs.Links.{link_to, is_absolute}
use Rattle.report_page.specs.Times.{some_seconds_shown}

-- the value of the last attempt, or a dash where none ended
abbrev pub value_shown : Option ℤ → List ℕ
value_shown None = codes "-"
value_shown (Some value) = signed_decimal value

-- a command or a path
unfoldable pub code_text : List ℕ → List ℕ
code_text text = codes "<code>" ++ (escaped_text text ++ codes "</code>")

-- a path as a log quotes it, with a link to its file
unfoldable pub linked_text : List ℕ → List ℕ
linked_text text = codes "<a href=\"" ++ (link_to (unquoted_of text) ++ (codes "\">" ++ (code_text text ++ codes "</a>")))

-- the same, with a link if the path is absolute
unfoldable pub path_text : List ℕ → List ℕ
path_text text = if is_absolute (unquoted_of text) then linked_text text else code_text text

-- the command of the job of a node
unfoldable pub command_text : List ℕ → List ℕ
command_text command = codes "<p>" ++ (code_text command ++ codes "</p>")

-- the same where it is known
unfoldable pub some_command_text : Option (Bor (List ℕ)) → List ℕ
some_command_text None = []
some_command_text (Some command) = command_text command.now

-- a path that belongs to the job of a node, after its label
unfoldable pub labelled_text : (label path : List ℕ) → List ℕ
labelled_text label path = codes "<p>" ++ (label ++ (path_text path ++ codes "</p>"))

-- the same where it is known
unfoldable pub job_place_text : (label : List ℕ) → Option (Bor (List ℕ)) → List ℕ
job_place_text label None = []
job_place_text label (Some path) = labelled_text label path.now

-- what is known of the job of a node: its command, its folder, and the files of its output and of its errors
unfoldable pub job_text : Row → List ℕ
job_text row =
    some_command_text row.command ++ (job_place_text (codes "folder ") row.folder ++ (job_place_text (codes "output ") row.output ++ job_place_text (codes "errors ") row.error))

-- the fields of a row that say how its node is: name, state, attempts and value
unfoldable pub status_cells : Row → List ℕ
status_cells row =
    codes "<td>" ++ (escaped_text row.name.now ++ (codes "</td><td>" ++ (state_word row.state ++ (codes "</td><td>" ++ (decimal row.attempts ++ (codes "</td><td>" ++ (value_shown row.value ++ codes "</td>")))))))

-- those that say when its last attempt began, and how long it took
unfoldable pub time_cells : Row → List ℕ
time_cells row = codes "<td>" ++ (some_seconds_shown row.began ++ (codes "</td><td>" ++ (some_seconds_shown row.took ++ codes "</td>")))

-- the row of a node, of which the style shows the state too
unfoldable pub node_row : Row → List ℕ
node_row row =
    codes "<tr class=\"" ++ (look_class (look_of row.state) ++ (codes "\">" ++ (status_cells row ++ (time_cells row ++ (codes "<td>" ++ (job_text row ++ codes "</td></tr>\n"))))))

-- the row at a place, if there is one
abbrev pub row_at : Option Row → List ℕ
row_at None = []
row_at (Some row) = node_row row

-- the rows of the first nodes, as many
unfoldable pub node_rows : List Row → ℕ → List ℕ
node_rows rows zero = []
node_rows rows (suc n) = node_rows rows n ++ row_at (slice_get rows n)

-- the head of the table
unfoldable pub table_head : List ℕ
table_head =
    codes "<div id=\"find\" hidden><input id=\"part\" type=\"search\" placeholder=\"part of a name\" aria-label=\"part of a name\"><select id=\"which\" aria-label=\"state\"><option value=\"\">all states</option></select><span id=\"shown\"></span></div>\n<table id=\"nodes\"><thead><tr><th>Node</th><th>State</th><th>Attempts</th><th>Value</th><th>Began (s)</th><th>Took (s)</th><th>Job</th></tr></thead><tbody>\n"

-- the table of all nodes, in plan order
unfoldable pub table_text : List Row → List ℕ
table_text rows = table_head ++ (node_rows rows (length rows) ++ codes "</tbody></table>\n")
