use Rattle.std.proofs.Common.{◌≡◌, map, take}
use Rattle.serde_json.specs.View.{view}
use Rattle.run_times.proofs.TimesPhases.{phases_list}
use Rattle.run_times.proofs.times_data.phase_values.Given as goal

abbrev pub invariant-loop-place : goal.invariant-loop-place
invariant-loop-place l = map view l.values.items ≡ phases_list (take l.place l.runs) (take l.place l.marks)
