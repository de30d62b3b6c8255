-- The line that says how far a run is.
use Rattle.std.specs.Prelude.{ℕ, zero, suc, ◌+◌, ◌-◌, ◌*◌, ◌/◌, ◌%◌, ◌^◌, min, Bool, ◌&&◌, nat_eq, nat_lt, nat_le, List, [], ◌∷◌, ◌++◌, length, take, drop, flat_map, Option, Some, None, codes, chars, if◌then◌else◌}
use Rattle.std.specs.List.{starts_with}
use Rattle.std.specs.Fmt.{decimal}
use Rattle.std.specs.Char.{encode_utf8}
use Rattle.run_progress.specs.declared.line.Counts.{Counts}
use Rattle.run_progress.specs.Columns.{columns}

-- a number below a hundred, with two digits
abbrev pub two_digits : ℕ → List ℕ
two_digits number = decimal (number / 10) ++ decimal (number % 10)

-- a time in seconds: `m:ss`, and `h:mm:ss` from an hour on
abbrev pub clock_of : ℕ → List ℕ
clock_of seconds =
    if nat_lt seconds 3600 then decimal (seconds / 60) ++ (codes ":" ++ two_digits (seconds % 60))
    else decimal (seconds / 3600) ++ (codes ":" ++ (two_digits ((seconds / 60) % 60) ++ (codes ":" ++ two_digits (seconds % 60))))

-- how long a node runs: `n s`, and as `clock_of` from a minute on
abbrev pub duration_of : ℕ → List ℕ
duration_of seconds = if nat_lt seconds 60 then decimal seconds ++ codes " s" else clock_of seconds

-- how many nodes failed, in words
abbrev pub failed_number : ℕ → List ℕ
failed_number failed = decimal failed ++ codes " failed"

-- the line begins with that where some did
abbrev pub failed_front : ℕ → List ℕ
failed_front failed = if nat_lt 0 failed then failed_number failed ++ codes ", " else []

-- the percent of all nodes that is done, rounded down; none where there is no node
abbrev pub percent_of : (done total : ℕ) → List ℕ
percent_of done total =
    if nat_eq total 0 then []
    else codes " (" ++ (decimal (done * 100 / total) ++ codes "%)")

-- how many nodes are done since this manager began
abbrev pub fresh_count : Counts → ℕ
fresh_count counts = counts.done - counts.kept

-- how many are left: they are not done
abbrev pub left_count : Counts → ℕ
left_count counts = counts.total - counts.done

-- how many were left as this manager began
abbrev pub first_count : Counts → ℕ
first_count counts = counts.total - counts.kept

-- The time that is left is estimated once a tenth of what this manager had to do is done, as long as something is left.
abbrev pub is_estimated : Counts → Bool
is_estimated counts =
    nat_lt 0 (fresh_count counts) && nat_lt 0 (left_count counts) && nat_le (first_count counts) (10 * fresh_count counts)

-- How many seconds are left, where that is estimated: each node that is left takes as long as one that this manager has done, rounded
-- down at the end. A product above the greatest number of 64 bits is that number.
abbrev pub seconds_left : Counts → (seconds : ℕ) → Option ℕ
seconds_left counts seconds =
    if is_estimated counts then Some (min (seconds * left_count counts) (2 ^ 64 - 1) / fresh_count counts)
    else None

-- how much time is left, where that is estimated
abbrev pub left_words : Option ℕ → List ℕ
left_words None = []
left_words (Some seconds) = codes ", " ++ (clock_of seconds ++ codes " left")

-- what is before the names: how many nodes failed and how many are done, of how many, where that is known, and how many run
abbrev pub front_of : Option Counts → ℕ → List ℕ
front_of None running = decimal running ++ codes " running"
front_of (Some counts) running =
    failed_front counts.failed
    ++ (decimal counts.done ++ (codes "/" ++ (decimal counts.total ++ (codes " done"
    ++ (percent_of counts.done counts.total ++ (codes ", " ++ (decimal running ++ codes " running")))))))

-- what is after them: how many nodes are ready, where that is known, the time, and how much of it is left
abbrev pub back_of : Option Counts → ℕ → List ℕ
back_of None seconds = codes "  " ++ clock_of seconds
back_of (Some counts) seconds =
    codes ", " ++ (decimal counts.ready ++ (codes " ready  " ++ (clock_of seconds ++ left_words (seconds_left counts seconds))))

-- a node that runs: its name and since when
abbrev pub shown_node : List ℕ × ℕ → List ℕ
shown_node (name, seconds) = name ++ (codes " " ++ duration_of seconds)

-- further nodes, each after a comma
abbrev pub further_nodes : List (List ℕ × ℕ) → List ℕ
further_nodes nodes = flat_map (λ node. codes ", " ++ shown_node node) nodes

-- the end of a list of so many nodes where so many run
abbrev pub list_end : (shown running : ℕ) → List ℕ
list_end shown running = if nat_lt shown running then codes ", ..)" else codes ")"

-- the first `count` of some nodes between parentheses, with `..` where more run
abbrev pub list_of : List (List ℕ × ℕ) → (count running : ℕ) → List ℕ
list_of [] count running = []
list_of (first ∷ others) count running =
    codes " (" ++ (shown_node first ++ (further_nodes (take (count - 1) others) ++ list_end count running))

-- the longest list of at most `count` nodes that takes no more columns than there is room; none where not even one node fits
abbrev pub longest_list : List (List ℕ × ℕ) → (room running count : ℕ) → List ℕ
longest_list nodes room running zero = []
longest_list nodes room running (suc count) =
    if nat_le (columns (chars (list_of nodes (suc count) running))) room then list_of nodes (suc count) running
    else longest_list nodes room running count

-- a text cut after so many characters less two, with `..` for the rest
abbrev pub cut_text : List ℕ → ℕ → List ℕ
cut_text text width = flat_map encode_utf8 (take (width - 2) (chars text)) ++ codes ".."

-- the first of these texts that takes no more columns than the width; none where none does
abbrev pub first_fitting : ℕ → List (List ℕ) → List ℕ
first_fitting width [] = []
first_fitting width (text ∷ texts) =
    if nat_le (columns (chars text)) width then text else first_fitting width texts

-- The line: its front, the longest list of names that there is room for, and its back. Where even that without names is too wide, it
-- is cut.
abbrev pub progress_line : Option Counts → List (List ℕ × ℕ) → (running seconds width : ℕ) → List ℕ
progress_line counts nodes running seconds width =
    let front = front_of counts running in
    let back = back_of counts seconds in
    let names = longest_list nodes (width - (length front + length back)) running (length nodes) in
    first_fitting width ((front ++ (names ++ back)) ∷ (front ++ back) ∷ cut_text (front ++ back) width ∷ [])

-- what makes a terminal write in red, and what ends that
abbrev pub red_begins : List ℕ
red_begins = 27 ∷ codes "[31m"

abbrev pub red_ends : List ℕ
red_ends = 27 ∷ codes "[0m"

-- A line in colours: how many nodes failed is red, where some did and the line has it whole. Any other line stays as it is.
abbrev pub painted : List ℕ → (failed : ℕ) → List ℕ
painted line failed =
    let count = length (failed_number failed) in
    if nat_lt 0 failed && starts_with nat_eq line (failed_number failed)
    then red_begins ++ (take count line ++ (red_ends ++ drop count line))
    else line
