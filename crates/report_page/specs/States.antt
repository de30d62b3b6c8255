-- States and endings, in words and in looks.
use Rattle.std.specs.Prelude.{ℕ, zero, suc, List, codes, ◌++◌}
use Rattle.std.specs.Fmt.{decimal}
use Rattle.report_page.specs.declared.values.NodeState.{NodeState}
use Rattle.report_page.specs.declared.values.NodeState.TheVariants as state
use Rattle.report_page.specs.declared.values.PhaseEnd.{PhaseEnd}
use Rattle.report_page.specs.declared.values.PhaseEnd.TheVariants as end
use Rattle.report_page.specs.declared.values.Look.{Look}
use Rattle.report_page.specs.declared.values.Look.TheVariants as look

-- the word of a state, as a status text has it
abbrev pub state_word : NodeState → List ℕ
state_word state.Done = codes "DONE"
state_word state.Error = codes "ERROR"
state_word state.PreRun = codes "PRERUN"
state_word state.Submitted = codes "SUBMITTED"
state_word state.PostRun = codes "POSTRUN"
state_word state.Ready = codes "READY"
state_word state.NotReady = codes "NOT_READY"

-- the place of a state in the order in which a page counts them
abbrev pub state_number : NodeState → ℕ
state_number state.Done = 0
state_number state.Error = 1
state_number state.PreRun = 2
state_number state.Submitted = 3
state_number state.PostRun = 4
state_number state.Ready = 5
state_number state.NotReady = 6

-- how a node of a state looks
abbrev pub look_of : NodeState → Look
look_of state.Done = look.Done
look_of state.Error = look.Error
look_of state.PreRun = look.Runs
look_of state.Submitted = look.Runs
look_of state.PostRun = look.Runs
look_of state.Ready = look.Ready
look_of state.NotReady = look.Waits

-- how a phase looks that ended so: well with exit code 0 alone
abbrev pub look_of_end : PhaseEnd → Look
look_of_end (end.Exit zero) = look.Done
look_of_end (end.Exit (suc code)) = look.Error
look_of_end (end.Signal number) = look.Error
look_of_end end.Unknown = look.Waits
look_of_end end.NotStarted = look.Error
look_of_end end.Killed = look.Waits
look_of_end end.Lost = look.Waits
look_of_end end.Runs = look.Runs

-- the class of a look
abbrev pub look_class : Look → List ℕ
look_class look.Done = codes "done"
look_class look.Error = codes "error"
look_class look.Runs = codes "run"
look_class look.Ready = codes "ready"
look_class look.Waits = codes "wait"
look_class look.Plain = codes "plain"

-- how a phase ended, in words
abbrev pub end_text : PhaseEnd → List ℕ
end_text (end.Exit code) = codes "exit " ++ decimal code
end_text (end.Signal number) = codes "signal " ++ decimal number
end_text end.Unknown = codes "not reported"
end_text end.NotStarted = codes "not started"
end_text end.Killed = codes "killed"
end_text end.Lost = codes "lost"
end_text end.Runs = codes "runs"
