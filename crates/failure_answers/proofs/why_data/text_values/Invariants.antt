use Rattle.std.proofs.Common.{◌≡◌, map, take}
use Rattle.serde_json.specs.View.{view}
use Rattle.failure_answers.specs.WhyData.{texts_data}
use Rattle.failure_answers.proofs.why_data.text_values.Given as goal

abbrev pub invariant-loop-text : goal.invariant-loop-text
invariant-loop-text l = map view l.values.items ≡ texts_data (take l.text-index l.texts)
