-- What would be otherwise of the lines of a DAG file under condor_submit_dag.
use Rattle.std.specs.Prelude.{ℕ, ℤ, pos, negsuc, ◌&&◌, List, [], ◌∷◌, ◌++◌, Option, Some, None, nat_lt, if◌then◌else◌, codes}
use Rattle.std.specs.Str.{bytes_eq}
use Rattle.dag_reader.specs.declared.command.Command.{Command}
use Rattle.dag_reader.specs.declared.command.Command.TheVariants.{Job, Final, Script, Retry, PreSkip, AbortDagOn}
use Rattle.dag_reader.specs.declared.command.Target.{Target}
use Rattle.dag_reader.specs.declared.command.Target.TheVariants.{Node, AllNodes}
use Rattle.splices_flat.specs.Settings.{line_of_target}
use Rattle.file_hints.specs.Submitted.{findings_at}
use Rattle.file_hints.specs.declared.hint.Hint.{Hint}
use Rattle.file_hints.specs.declared.hint.Hint.TheVariants.{SkipValue, SignalValue, NoopScript}
use Rattle.file_hints.specs.declared.hint.Finding.{Finding}

-- a value that is no exit code
abbrev pub skip_note : ℤ → Option Hint
skip_note (pos n) = if nat_lt n 256 then None else Some SkipValue
skip_note (negsuc n) = Some SkipValue

-- a value below zero
abbrev pub signal_note : List ℕ → ℤ → Option Hint
signal_note command (pos n) = None
signal_note command (negsuc n) = Some (SignalValue command)

abbrev pub unless_note : Option ℤ → Option Hint
unless_note None = None
unless_note (Some value) = signal_note (codes "RETRY") value

-- the name of the NOOP that a line declares, if it is one that a line with this target is for
abbrev pub noop_in : Target → Command → Option (List ℕ)
noop_in (AllNodes span) (Job name file dir noop done) = if noop then Some name.text else None
noop_in (Node node) (Job name file dir noop done) = if noop && bytes_eq name.text node.text then Some name.text else None
noop_in (Node node) (Final name file dir noop) = if noop && bytes_eq name.text node.text then Some name.text else None
noop_in target command = None

abbrev pub or_else : Option (List ℕ) → Option (List ℕ) → Option (List ℕ)
or_else None other = other
or_else (Some name) other = Some name

-- the first such NOOP of some lines
abbrev pub first_noop : Target → List Command → Option (List ℕ)
first_noop target [] = None
first_noop target (c ∷ cs) = or_else (noop_in target c) (first_noop target cs)

abbrev pub noop_note : Option (List ℕ) → Option Hint
noop_note None = None
noop_note (Some name) = Some (NoopScript name)

-- what is found in a line of a file with these lines
abbrev pub note_of : List Command → Command → List Finding
note_of commands (PreSkip node value) = findings_at (line_of_target node) (skip_note value)
note_of commands (AbortDagOn node value status) = findings_at (line_of_target node) (signal_note (codes "ABORT-DAG-ON") value)
note_of commands (Retry node retries unless_exit) = findings_at (line_of_target node) (unless_note unless_exit)
note_of commands (Script kind node program arguments) = findings_at (line_of_target node) (noop_note (first_noop node commands))
note_of commands command = []

abbrev pub dag_notes : List Command → List Command → List Finding
dag_notes commands [] = []
dag_notes commands (c ∷ cs) = note_of commands c ++ dag_notes commands cs
