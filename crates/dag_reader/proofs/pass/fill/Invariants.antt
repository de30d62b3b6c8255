use Rattle.std.proofs.Common.{◌≡◌, length}
use Rattle.dag_reader.specs.LineReader.{left_of}
use Rattle.dag_reader.specs.Layouts.{reading, state}
use Rattle.dag_reader.specs.LayoutViews.{state_of, ending_of, values_of}
use Rattle.dag_reader.proofs.pass.fill.Given as goal

abbrev pub invariant-loop-word : goal.invariant-loop-word
invariant-loop-word l =
    reading (state_of l.pass (values_of l.values)) (left_of l.line).words (left_of l.line).end
    ≡ reading (state l.layout.fields.now (ending_of l.layout.ending) (values_of l.fn.values)) (left_of l.fn.line).words (left_of l.fn.line).end

abbrev pub decreases-loop-word : goal.decreases-loop-word
decreases-loop-word l = length (left_of l.line).words
