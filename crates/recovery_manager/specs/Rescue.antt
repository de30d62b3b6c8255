-- The rescue file of a run.
use Rattle.std.specs.Prelude.{ℕ, Bool, List, map}
use Rattle.std.specs.List.{range_with_len}
use Rattle.run_plan.specs.Plan.{Plan, count_of}
use Rattle.node_machine.specs.declared.Record.{Record}
use Rattle.sched_core.specs.Run.{is_done}
use Rattle.rescue_file.specs.Written.{ordinary_names, rescue_text_of}

-- one mark for each ordinary node, in plan order: whether it is done
abbrev pub marks_of : Plan → List Record → List Bool
marks_of plan past = map (is_done plan past) (range_with_len 0 (count_of plan))

-- the text of the rescue file of a run that has these records: it marks the ordinary nodes that are done
abbrev pub rescue_text_for : Plan → List Record → List ℕ
rescue_text_for plan past = rescue_text_of (ordinary_names plan.graph.dag) (marks_of plan past)
