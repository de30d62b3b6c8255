-- The report of a rehearsal.
use Rattle.std.specs.Prelude.{ℕ, Bool, not, ◌||◌, ◌&&◌, List, [], ◌++◌, map, is_some, if◌then◌else◌}
use Rattle.std.specs.List.{range_with_len}
use Rattle.run_plan.specs.Plan.{Plan, count_of, all_below}
use Rattle.node_machine.specs.declared.Record.{Record}
use Rattle.sched_core.specs.Run.{needs_rescue}
use Rattle.sched_core.specs.Fate.{Fate, is_done_state}
use Rattle.rescue_file.specs.Written.{ordinary_names, rescue_text_of}
use Rattle.recovery_manager.specs.Rescue.{rescue_text_for}
use Rattle.status_report.specs.Text.{reported, status_text_of, result_line, fate_lines}

-- the text of the rescue file, where one is needed
abbrev pub rescue_part : Plan → List Record → List ℕ
rescue_part plan past = if needs_rescue plan past then rescue_text_for plan past else []

-- the lines of all nodes in plan order, the exit status, and the text of the rescue file where one is needed
abbrev pub report_of : Plan → List Record → ℕ → List ℕ
report_of plan past status = status_text_of plan past ++ (result_line status ++ rescue_part plan past)

-- The same, by fates.
-- a rescue file is needed where a node is not done, FINAL among them
abbrev pub fates_need_rescue : Plan → (ℕ → Fate) → Bool
fates_need_rescue plan fates =
    not (all_below (λ node. is_done_state (fates node).state) (count_of plan))
    || (is_some plan.final_node && not (is_done_state (fates (count_of plan)).state))

-- the text of the rescue file that marks the ordinary nodes which are done by these fates
abbrev pub fated_rescue_text : Plan → (ℕ → Fate) → List ℕ
fated_rescue_text plan fates =
    rescue_text_of (ordinary_names plan.graph.dag) (map (λ node. is_done_state (fates node).state) (range_with_len 0 (count_of plan)))

abbrev pub fated_report : Plan → (ℕ → Fate) → ℕ → List ℕ
fated_report plan fates status =
    fate_lines plan fates (reported plan)
    ++ (result_line status ++ (if fates_need_rescue plan fates then fated_rescue_text plan fates else []))
