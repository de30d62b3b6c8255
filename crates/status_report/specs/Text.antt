-- The status text.
use Rattle.std.specs.Prelude.{ℕ, zero, suc, ℤ, List, [], ◌++◌, Option, Some, None, is_some, codes, if◌then◌else◌}
use Rattle.std.specs.Fmt.{decimal, signed_decimal}
use Rattle.run_plan.specs.Plan.{Plan, node_at, count_of}
use Rattle.node_machine.specs.declared.Record.{Record}
use Rattle.sched_core.specs.Run.{attempts_in, value_in}
use Rattle.sched_core.specs.Fate.{Fate}
use Rattle.status_report.specs.declared.status.Status.{Status}
use Rattle.status_report.specs.declared.status.Status.TheVariants.{Done, Error, PreRun, Submitted, PostRun, Ready, NotReady}
use Rattle.status_report.specs.Status.{status_at, status_of_state}

abbrev pub status_word : Status → List ℕ
status_word Done = codes "DONE"
status_word Error = codes "ERROR"
status_word PreRun = codes "PRERUN"
status_word Submitted = codes "SUBMITTED"
status_word PostRun = codes "POSTRUN"
status_word Ready = codes "READY"
status_word NotReady = codes "NOT_READY"

-- the value of the last attempt, or a dash where none ended
abbrev pub value_text : Option ℤ → List ℕ
value_text None = codes "-"
value_text (Some value) = signed_decimal value

-- `name STATUS attempts=n value=v`
abbrev pub status_line : List ℕ → Status → ℕ → Option ℤ → List ℕ
status_line name status attempts value =
    name ++ (codes " " ++ (status_word status ++ (codes " attempts=" ++ (decimal attempts ++ (codes " value=" ++ (value_text value ++ codes "\n"))))))

-- the line of a node, by the records
abbrev pub node_line : Plan → List Record → ℕ → List ℕ
node_line plan past node =
    status_line (node_at plan node).name (status_at plan past node) (attempts_in plan past node) (value_in plan past node)

-- the lines of the nodes below n
abbrev pub lines_of : Plan → List Record → ℕ → List ℕ
lines_of plan past zero = []
lines_of plan past (suc n) = lines_of plan past n ++ node_line plan past n

-- the nodes that have a line: the ordinary ones, and the FINAL node after them
abbrev pub reported : Plan → ℕ
reported plan = if is_some plan.final_node then suc (count_of plan) else count_of plan

-- the lines of all nodes in plan order, that of the FINAL node last
abbrev pub status_text_of : Plan → List Record → List ℕ
status_text_of plan past = lines_of plan past (reported plan)

-- `result N`
abbrev pub result_line : ℕ → List ℕ
result_line status = codes "result " ++ (decimal status ++ codes "\n")

-- what a run prints: the status text, and its exit status
abbrev pub run_text : Plan → List Record → ℕ → List ℕ
run_text plan past status = status_text_of plan past ++ result_line status

-- the line of a node that comes to this fate
abbrev pub fate_line : List ℕ → Fate → List ℕ
fate_line name fate = status_line name (status_of_state fate.state) fate.attempts fate.value

-- the lines of the fates of the nodes below n
abbrev pub fate_lines : Plan → (ℕ → Fate) → ℕ → List ℕ
fate_lines plan fates zero = []
fate_lines plan fates (suc n) = fate_lines plan fates n ++ fate_line (node_at plan n).name (fates n)
