-- What `why` prints as JSON.
use Rattle.std.specs.Prelude.{ℕ, nat_le, List, ◌++◌, map, Option, Some, None, String, Vec, codes, string_bytes, if◌then◌else◌}
use Rattle.std.specs.declared.alloc.Global.{Global}
use Rattle.log_lines.specs.Phases.{phase_word}
use Rattle.node_machine.specs.declared.Ended.{Ended}
use Rattle.node_machine.specs.declared.Outcome.{Outcome}
use Rattle.node_machine.specs.declared.Outcome.TheVariants.{Exit, Signal, NoStart, Untold}
use Rattle.node_machine.specs.declared.Record.{Record}
use Rattle.run_plan.specs.Plan.{Plan, node_at, count_of}
use Rattle.sched_core.specs.Run.{attempts_in, value_in}
use Rattle.status_report.specs.Status.{status_at}
use Rattle.status_report.specs.Text.{status_word}
use Rattle.serde_json.specs.Data.{Data, null, number, unsigned, string, array, object, Members, no_members, member, put}
use Rattle.serde_json.specs.View.{items_of}
use Rattle.serde_json.specs.Written.{compact_text}
use Rattle.dag_main_inspect.specs.StatusData.{value_data, node_data}
use Rattle.failure_report.specs.declared.failed.Failure.{Failure}
use Rattle.failure_report.specs.declared.found.FailedPhase.{FailedPhase}
use Rattle.failure_report.specs.declared.found.FoundNode.{FoundNode}
use Rattle.failure_report.specs.declared.found.FoundNode.TheVariants.{Failed, Standing}

-- a text, or null where there is none
abbrev pub text_data : Option (String Global) → Data
text_data None = null
text_data (Some text) = string (string_bytes text)

-- these texts
abbrev pub texts_data : List (String Global) → List Data
texts_data texts = map (λ text. string (string_bytes text)) texts

-- the words of a command, or null where there is none
abbrev pub command_data : Option (Vec (String Global) Global) → Data
command_data None = null
command_data (Some words) = array (items_of (texts_data words.items))

-- how many milliseconds a phase took, or null where that is not known
abbrev pub took_data : Option ℕ → Data
took_data None = null
took_data (Some took) = number (unsigned took)

-- how a phase ended, without a number
abbrev pub outcome_word : Outcome → List ℕ
outcome_word (Exit code) = codes "exit"
outcome_word (Signal signal) = codes "signal"
outcome_word NoStart = codes "not started"
outcome_word Untold = codes "untold"

-- the exit code of a phase that exited, else null
abbrev pub outcome_exit_data : Outcome → Data
outcome_exit_data (Exit code) = number (unsigned code)
outcome_exit_data (Signal signal) = null
outcome_exit_data NoStart = null
outcome_exit_data Untold = null

-- the number of the signal that ended a phase, else null
abbrev pub outcome_signal_data : Outcome → Data
outcome_signal_data (Exit code) = null
outcome_signal_data (Signal signal) = number (unsigned signal)
outcome_signal_data NoStart = null
outcome_signal_data Untold = null

-- with how a phase ended: the attempt of its node, the phase and how it ended
abbrev pub with_phase_end : Ended → Members → Members
with_phase_end end members =
    put (codes "signal") (outcome_signal_data end.outcome)
    (put (codes "phase") (string (phase_word end.phase))
    (put (codes "exit_code") (outcome_exit_data end.outcome)
    (put (codes "ended") (string (outcome_word end.outcome)) (put (codes "attempt") (number (unsigned end.attempt)) members))))

-- with what the status as JSON has of a node, by the records: `told_data` of dag_main_inspect has the same members
abbrev pub with_told : Plan → List Record → ℕ → Members → Members
with_told plan past node members =
    put (codes "value") (value_data (value_in plan past node))
    (put (codes "state") (string (status_word (status_at plan past node)))
    (put (codes "name") (string (node_at plan node).name) (put (codes "attempts") (number (unsigned (attempts_in plan past node))) members)))

-- with what was found of a phase
abbrev pub with_found : FailedPhase → Members → Members
with_found phase members =
    put (codes "reason") (text_data phase.reason)
    (put (codes "output") (text_data phase.output)
    (put (codes "ms") (took_data phase.took)
    (put (codes "last_lines") (array (items_of (texts_data phase.last_lines.items)))
    (put (codes "folder") (text_data phase.folder) (put (codes "error") (text_data phase.error) (put (codes "command") (command_data phase.command) members))))))

-- A node in error whose last phase ended so: an object with how that ended, by its history; with what the status as JSON has of the node, by the
-- records; with what was found of the phase; and with how many nodes wait for the node.
abbrev pub failed_data : Plan → List Record → Failure → Ended → FailedPhase → Data
failed_data plan past failure end phase =
    object (put (codes "waiting") (number (unsigned failure.waiting)) (with_found phase (with_told plan past failure.node (with_phase_end end no_members))))

-- a node in error, if a phase of it ended; else what the status as JSON has of it
abbrev pub ended_data : Plan → List Record → Failure → FailedPhase → Option Ended → Data
ended_data plan past failure phase None = node_data plan past failure.node
ended_data plan past failure phase (Some end) = failed_data plan past failure end phase

-- of a node of the plan this, and null of another number
abbrev pub data_of_node : Plan → ℕ → Data → Data
data_of_node plan node data_is = if nat_le node (count_of plan) then data_is else null

-- a node, by the records and by what was found of it: of one that is not in error, what the status as JSON has of it
abbrev pub found_data : Plan → List Record → FoundNode → Data
found_data plan past (Failed failure phase) = data_of_node plan failure.node (ended_data plan past failure phase failure.end)
found_data plan past (Standing node) = data_of_node plan node (node_data plan past node)

-- the path of the DAG file as it was given, and these nodes in their order
abbrev pub why_data : List ℕ → Plan → List Record → List FoundNode → Data
why_data path plan past nodes =
    object (member (codes "dag") (string path) (member (codes "nodes") (array (items_of (map (found_data plan past) nodes))) no_members))

-- the text of these, with no space between its parts, and the end of its line
abbrev pub why_json_of : List ℕ → Plan → List Record → List FoundNode → List ℕ
why_json_of path plan past nodes = compact_text (why_data path plan past nodes) ++ codes "\n"
