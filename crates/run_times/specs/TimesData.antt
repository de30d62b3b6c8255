-- The phases that were run, as JSON.
use Rattle.std.specs.Prelude.{ℕ, Bool, List, [], ◌∷◌, ◌++◌, codes}
use Rattle.serde_json.specs.Data.{Data, null, boolean, number, string, array, object, unsigned, Items, no_items, item, no_members, member}
use Rattle.serde_json.specs.Written.{compact_text}
use Rattle.log_lines.specs.Phases.{phase_word}
use Rattle.run_times.specs.declared.runs.Ending.{Ending}
use Rattle.run_times.specs.declared.runs.Ending.TheVariants.{Exit, Signal, Untold, NotStarted, Killed, Lost, Runs}
use Rattle.run_times.specs.declared.runs.PhaseRun.{PhaseRun}

-- how a phase ended: what the table says, without a number
abbrev pub ended_word : Ending → List ℕ
ended_word (Exit code) = codes "exit"
ended_word (Signal signal) = codes "signal"
ended_word Untold = codes "untold"
ended_word NotStarted = codes "not started"
ended_word Killed = codes "killed"
ended_word Lost = codes "lost"
ended_word Runs = codes "runs"

-- the exit code of a phase that exited, else null
abbrev pub exit_code_data : Ending → Data
exit_code_data (Exit code) = number (unsigned code)
exit_code_data (Signal signal) = null
exit_code_data Untold = null
exit_code_data NotStarted = null
exit_code_data Killed = null
exit_code_data Lost = null
exit_code_data Runs = null

-- the number of the signal that ended a phase, else null
abbrev pub signal_data : Ending → Data
signal_data (Exit code) = null
signal_data (Signal signal) = number (unsigned signal)
signal_data Untold = null
signal_data NotStarted = null
signal_data Killed = null
signal_data Lost = null
signal_data Runs = null

-- A phase and whether it is on the critical path: an object, its members in the order of their keys. Times are in milliseconds: `begin_ms` is when it began,
-- counted from the first line of the log, and `ms` how long it took.
abbrev pub phase_data : PhaseRun → Bool → Data
phase_data run mark =
    object
    (member (codes "attempt") (number (unsigned run.attempt))
    (member (codes "begin_ms") (number (unsigned run.begun))
    (member (codes "critical") (boolean mark)
    (member (codes "ended") (string (ended_word run.ending))
    (member (codes "exit_code") (exit_code_data run.ending)
    (member (codes "ms") (number (unsigned run.took))
    (member (codes "node") (string run.node.now)
    (member (codes "phase") (string (phase_word run.phase))
    (member (codes "signal") (signal_data run.ending)
    no_members)))))))))

-- the phases in order, each with its mark
abbrev pub phases_data : List PhaseRun → List Bool → Items
phases_data [] marks = no_items
phases_data (run ∷ runs) [] = no_items
phases_data (run ∷ runs) (mark ∷ marks) = item (phase_data run mark) (phases_data runs marks)

-- all phases, as the one member of an object
abbrev pub times_data : List PhaseRun → List Bool → Data
times_data runs marks = object (member (codes "phases") (array (phases_data runs marks)) no_members)

-- the same as compact JSON, on a line of its own
abbrev pub times_json_of : List PhaseRun → List Bool → List ℕ
times_json_of runs marks = compact_text (times_data runs marks) ++ codes "\n"
