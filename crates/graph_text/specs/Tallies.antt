-- How many nodes of a box stand where.
use Rattle.std.specs.Prelude.{ℕ, ◌==◌, ◌&&◌, nat_lt, Bool, true, false, List, [], ◌++◌, length, Option, Some, is_some, count_by, codes, if◌then◌else◌}
use Rattle.std.specs.Fmt.{decimal}
use Rattle.status_report.specs.declared.status.Status.{Status}
use Rattle.status_report.specs.declared.status.Status.TheVariants.{Done, Error, PreRun, Submitted, PostRun, Ready}
use Rattle.graph_text.specs.declared.tally.Tally.{Tally}

abbrev pub is_seen_done : Option Status → Bool
is_seen_done (Some Done) = true
is_seen_done _ = false

abbrev pub is_seen_failed : Option Status → Bool
is_seen_failed (Some Error) = true
is_seen_failed _ = false

-- a script or the job runs
abbrev pub is_seen_running : Option Status → Bool
is_seen_running (Some PreRun) = true
is_seen_running (Some Submitted) = true
is_seen_running (Some PostRun) = true
is_seen_running _ = false

abbrev pub is_seen_ready : Option Status → Bool
is_seen_ready (Some Ready) = true
is_seen_ready _ = false

-- how many there are, how many of which something is known, and how many of these are done, in error, run and are ready
abbrev pub box_tally_of : List (Option Status) → Tally
box_tally_of states = record {
  nodes = length states;
  seen = count_by is_some states;
  done = count_by is_seen_done states;
  failed = count_by is_seen_failed states;
  running = count_by is_seen_running states;
  ready = count_by is_seen_ready states;
}

-- The colour of a box, by the worst that one of its nodes came to: in error, running, all done, ready. Where nothing is known it has no colour of its own.
abbrev pub colour_text : Tally → List ℕ
colour_text tally =
    if tally.seen == 0 then []
    else if nat_lt 0 tally.failed then codes ", fillcolor=lightcoral"
    else if nat_lt 0 tally.running then codes ", fillcolor=lightskyblue"
    else if tally.done == tally.nodes then codes ", fillcolor=palegreen"
    else if nat_lt 0 tally.ready then codes ", fillcolor=khaki"
    else codes ", fillcolor=white"

-- how many stand there, unless none does; a colon is before the first of such parts, and a comma before each other one
abbrev pub box_part_text : (leads : Bool) → ℕ → List ℕ → List ℕ
box_part_text leads count word =
    if count == 0 then [] else (if leads then codes ": " else codes ", ") ++ (decimal count ++ word)

-- how many are done, in error and run
abbrev pub box_counts_text : Tally → List ℕ
box_counts_text tally =
    box_part_text true tally.done (codes " done")
    ++ (box_part_text (tally.done == 0) tally.failed (codes " failed")
    ++ box_part_text ((tally.done == 0) && (tally.failed == 0)) tally.running (codes " run"))

-- The label of a box: the name of its node; if it has several, the name of the first, how many there are, and how many of them stand where.
abbrev pub box_label : List ℕ → Tally → List ℕ
box_label name tally =
    if tally.nodes == 1 then name else name ++ (codes " x " ++ (decimal tally.nodes ++ box_counts_text tally))
