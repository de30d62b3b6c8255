-- The line that says of a node in error how it failed.
use Rattle.std.specs.Prelude.{ℕ, zero, suc, List, ◌++◌, Option, Some, None, codes, decimal}
use Rattle.log_lines.specs.Signals.{signal_name}
use Rattle.node_machine.specs.declared.Phase.{Phase}
use Rattle.node_machine.specs.declared.Phase.TheVariants.{Pre, Job, Post}
use Rattle.node_machine.specs.declared.Outcome.{Outcome}
use Rattle.node_machine.specs.declared.Outcome.TheVariants.{Exit, Signal, NoStart, Untold}
use Rattle.node_machine.specs.declared.Ended.{Ended}

abbrev pub phase_words : Phase → List ℕ
phase_words Pre = codes "its PRE script"
phase_words Job = codes "its job"
phase_words Post = codes "its POST script"

-- the name of a signal after its number, where it has one
abbrev pub name_words : Option (List ℕ) → List ℕ
name_words None = codes ""
name_words (Some name) = codes " (" ++ (name ++ codes ")")

-- why a phase was not started, where that is known
abbrev pub reason_words : Option (List ℕ) → List ℕ
reason_words None = codes ""
reason_words (Some reason) = codes ": " ++ reason

-- how a phase ended; the reason counts where it was not started
abbrev pub ending_words : Outcome → Option (List ℕ) → List ℕ
ending_words (Exit code) reason = codes "ended with exit " ++ decimal code
ending_words (Signal number) reason = codes "ended with signal " ++ (decimal number ++ name_words (signal_name number))
ending_words NoStart reason = codes "was not started" ++ reason_words reason
ending_words Untold reason = codes "ended, and the system did not tell how"

-- how many nodes wait for it
abbrev pub waiting_words : ℕ → List ℕ
waiting_words zero = codes "no node waits for it"
waiting_words (suc zero) = codes "1 node waits for it"
waiting_words (suc (suc n)) = decimal (suc (suc n)) ++ codes " nodes wait for it"

-- which attempt of how many
abbrev pub attempt_words : (attempt retries : ℕ) → List ℕ
attempt_words attempt retries = codes "in attempt " ++ (decimal (suc attempt) ++ (codes " of " ++ decimal (suc retries)))

-- the node, and how which phase of it ended
abbrev pub failed_words : (name : List ℕ) → Ended → (reason : Option (List ℕ)) → List ℕ
failed_words name end reason = name ++ (codes " ERROR: " ++ (phase_words end.phase ++ (codes " " ++ ending_words end.outcome reason)))

-- in which attempt, and for how many
abbrev pub rest_words : (attempt retries waiting : ℕ) → List ℕ
rest_words attempt retries waiting = codes ", " ++ (attempt_words attempt retries ++ (codes "; " ++ (waiting_words waiting ++ codes "\n")))

-- `name ERROR: its job ended with exit 2, in attempt 3 of 3; 41 nodes wait for it`
abbrev pub head_line : (name : List ℕ) → Ended → (reason : Option (List ℕ)) → (retries waiting : ℕ) → List ℕ
head_line name end reason retries waiting = failed_words name end reason ++ rest_words end.attempt retries waiting
