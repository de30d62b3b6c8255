-- What `why` prints as JSON: no value of it is a float.
use Rattle.std.proofs.Common.{◌≡◌, refl, ℕ, Bool, true, false, List, [], ◌∷◌, map, Option, Some, None, String, Vec, Global, if◌then◌else◌}
use Rattle.std.specs.Prelude.{nat_le}
use Rattle.node_machine.specs.declared.Ended.{Ended}
use Rattle.node_machine.specs.declared.Outcome.{Outcome}
use Rattle.node_machine.specs.declared.Outcome.TheVariants.{Exit, Signal, NoStart, Untold}
use Rattle.node_machine.specs.declared.Record.{Record}
use Rattle.run_plan.specs.Plan.{Plan, count_of}
use Rattle.sched_core.specs.Run.{value_in}
use Rattle.serde_json.specs.Data.{Data, null}
use Rattle.serde_json.specs.View.{items_of}
use Rattle.serde_json.specs.Written.{has_float, items_have_float}
use Rattle.dag_main_inspect.specs.StatusData.{value_data, node_data}
use Rattle.dag_main_inspect.proofs.StatusTexts.{both-false, value-whole, node-whole}
use Rattle.failure_report.specs.declared.failed.Failure.{Failure}
use Rattle.failure_report.specs.declared.found.FailedPhase.{FailedPhase}
use Rattle.failure_report.specs.declared.found.FoundNode.{FoundNode}
use Rattle.failure_report.specs.declared.found.FoundNode.TheVariants.{Failed, Standing}
use Rattle.failure_answers.specs.WhyData.{text_data, texts_data, command_data, took_data, outcome_exit_data, outcome_signal_data, failed_data, ended_data, found_data, why_data}

texts-whole : (texts : List (String Global)) → items_have_float (items_of (texts_data texts)) ≡ false
texts-whole [] = refl
texts-whole (text ∷ texts) = texts-whole texts

text-whole : (text : Option (String Global)) → has_float (text_data text) ≡ false
text-whole None = refl
text-whole (Some text) = refl

command-whole : (command : Option (Vec (String Global) Global)) → has_float (command_data command) ≡ false
command-whole None = refl
command-whole (Some words) = texts-whole words.items

took-whole : (took : Option ℕ) → has_float (took_data took) ≡ false
took-whole None = refl
took-whole (Some took) = refl

exit-whole : (outcome : Outcome) → has_float (outcome_exit_data outcome) ≡ false
exit-whole (Exit code) = refl
exit-whole (Signal signal) = refl
exit-whole NoStart = refl
exit-whole Untold = refl

signal-whole : (outcome : Outcome) → has_float (outcome_signal_data outcome) ≡ false
signal-whole (Exit code) = refl
signal-whole (Signal signal) = refl
signal-whole NoStart = refl
signal-whole Untold = refl

failed-whole : (plan : Plan) (past : List Record) (failure : Failure) (end : Ended) (phase : FailedPhase) → has_float (failed_data plan past failure end phase) ≡ false
failed-whole plan past failure end phase =
    both-false (has_float (command_data phase.command)) _ (command-whole phase.command)
    (both-false (has_float (text_data phase.error)) _ (text-whole phase.error)
    (both-false (has_float (outcome_exit_data end.outcome)) _ (exit-whole end.outcome)
    (both-false (has_float (text_data phase.folder)) _ (text-whole phase.folder)
    (both-false (items_have_float (items_of (texts_data phase.last_lines.items))) _ (texts-whole phase.last_lines.items)
    (both-false (has_float (took_data phase.took)) _ (took-whole phase.took)
    (both-false (has_float (text_data phase.output)) _ (text-whole phase.output)
    (both-false (has_float (text_data phase.reason)) _ (text-whole phase.reason)
    (both-false (has_float (outcome_signal_data end.outcome)) _ (signal-whole end.outcome)
    (both-false (has_float (value_data (value_in plan past failure.node))) false (value-whole (value_in plan past failure.node)) refl)))))))))

ended-whole : (plan : Plan) (past : List Record) (failure : Failure) (phase : FailedPhase) (end : Option Ended) → has_float (ended_data plan past failure phase end) ≡ false
ended-whole plan past failure phase None = node-whole plan past failure.node
ended-whole plan past failure phase (Some end) = failed-whole plan past failure end phase

chosen-whole : (is_node : Bool) (one : Data) → has_float one ≡ false → has_float (if is_node then one else null) ≡ false
chosen-whole true one whole = whole
chosen-whole false one whole = refl

found-whole : (plan : Plan) (past : List Record) (node : FoundNode) → has_float (found_data plan past node) ≡ false
found-whole plan past (Failed failure phase) =
    chosen-whole (nat_le failure.node (count_of plan)) (ended_data plan past failure phase failure.end) (ended-whole plan past failure phase failure.end)
found-whole plan past (Standing node) = chosen-whole (nat_le node (count_of plan)) (node_data plan past node) (node-whole plan past node)

founds-whole : (plan : Plan) (past : List Record) (nodes : List FoundNode) → items_have_float (items_of (map (found_data plan past) nodes)) ≡ false
founds-whole plan past [] = refl
founds-whole plan past (node ∷ nodes) =
    both-false (has_float (found_data plan past node)) (items_have_float (items_of (map (found_data plan past) nodes))) (found-whole plan past node) (founds-whole plan past nodes)

pub why-whole : (path : List ℕ) (plan : Plan) (past : List Record) (nodes : List FoundNode) → has_float (why_data path plan past nodes) ≡ false
why-whole path plan past nodes = both-false (items_have_float (items_of (map (found_data plan past) nodes))) false (founds-whole plan past nodes) refl
