-- The table of the phases that were run.
use Rattle.std.specs.Prelude.{ℕ, zero, suc, ◌/◌, ◌%◌, Bool, List, [], ◌++◌, Option, Some, None, length, slice_get, codes, if◌then◌else◌}
use Rattle.std.specs.Fmt.{decimal}
use Rattle.log_lines.specs.Phases.{phase_word}
use Rattle.run_times.specs.declared.runs.Ending.{Ending}
use Rattle.run_times.specs.declared.runs.Ending.TheVariants.{Exit, Signal, Untold, NotStarted, Killed, Lost, Runs}
use Rattle.run_times.specs.declared.runs.PhaseRun.{PhaseRun}

-- milliseconds as seconds, with three digits after the point
abbrev pub seconds_text : ℕ → List ℕ
seconds_text milliseconds =
    decimal (milliseconds / 1000) ++ (codes "." ++ (decimal (milliseconds / 100 % 10) ++ (decimal (milliseconds / 10 % 10) ++ decimal (milliseconds % 10))))

abbrev pub ending_text : Ending → List ℕ
ending_text (Exit code) = codes "exit " ++ decimal code
ending_text (Signal number) = codes "signal " ++ decimal number
ending_text Untold = codes "untold"
ending_text NotStarted = codes "not started"
ending_text Killed = codes "killed"
ending_text Lost = codes "lost"
ending_text Runs = codes "runs"

-- whether a phase is on the critical path
abbrev pub mark_text : Bool → List ℕ
mark_text mark = if mark then codes "\t*\n" else codes "\t-\n"

-- when a phase began, and how long it took
abbrev pub when_text : PhaseRun → List ℕ
when_text run = seconds_text run.begun ++ (codes "\t" ++ (seconds_text run.took ++ codes "\t"))

-- the row of a phase: seven fields between tabs
abbrev pub row_text : PhaseRun → Bool → List ℕ
row_text run mark =
    run.node.now ++ (codes "\t" ++ (phase_word run.phase ++ (codes "\t" ++ (decimal run.attempt ++ (codes "\t" ++ (when_text run ++ (ending_text run.ending ++ mark_text mark)))))))

-- the row of a phase and a mark, where there are both
abbrev pub row_of : Option PhaseRun → Option Bool → List ℕ
row_of (Some run) (Some mark) = row_text run mark
row_of (Some run) None = []
row_of None mark = []

-- the rows of the first phases, as many
abbrev pub rows_text : List PhaseRun → List Bool → ℕ → List ℕ
rows_text runs marks zero = []
rows_text runs marks (suc n) = rows_text runs marks n ++ row_of (slice_get runs n) (slice_get marks n)

-- the names of the fields
abbrev pub fields_text : List ℕ
fields_text = codes "node\tphase\tattempt\tbegin\tseconds\tended\tpath\n"

-- the names of the fields, and the rows of all phases
abbrev pub table_text_of : List PhaseRun → List Bool → List ℕ
table_text_of runs marks = fields_text ++ rows_text runs marks (length runs)
