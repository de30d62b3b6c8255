-- Without abort the report of a run is that of the fates.
use Rattle.std.proofs.Common.{◌≡◌, ℕ, Bool, true, false, not, ◌&&◌, ◌||◌, List, [], ◌++◌, map, is_some, refl, sym, ◌∙◌, if◌then◌else◌}
use Rattle.std.specs.List.{range_with_len}
use Rattle.run_plan.specs.Plan.{Plan, count_of, all_below}
use Rattle.node_machine.specs.declared.Record.{Record}
use Rattle.sched_core.specs.Run.{is_done, is_in_error, is_aborted, is_finished, status_of_abort, exit_status, needs_rescue}
use Rattle.sched_core.specs.Fate.{shown, is_done_state}
use Rattle.sched_core.proofs.Finished.{state-done, final-error}
use Rattle.sched_core.proofs.Sweeps.{all_below-same}
use Rattle.recovery_manager.specs.Rescue.{rescue_text_for}
use Rattle.rescue_file.specs.Written.{ordinary_names, rescue_text_of}
use Rattle.status_report.proofs.Finished.{all-lines}
use Rattle.status_report.specs.Text.{result_line}
use Rattle.dag_main_rehearse.specs.Report.{fated_rescue_text, report_of, fates_need_rescue, fated_report}
use Rattle.dag_main_rehearse.specs.Rehearsed.{fated_status}

module _ (plan : Plan) (past : List Record) (finished : is_finished plan past ≡ true) (abort_free : is_aborted plan past ≡ false) where
  ordinary-done : all_below (is_done plan past) (count_of plan) ≡ all_below (λ node. is_done_state (shown plan past node).state) (count_of plan)
  ordinary-done = all_below-same (is_done plan past) (λ node. is_done_state (shown plan past node).state) (count_of plan) (λ node lt. sym (state-done plan past node))

  pub status-is : exit_status plan past ≡ fated_status plan (shown plan past)
  status-is =
      (λ j. if is_some plan.final_node then (if is_done plan past (count_of plan) then 0 else 1)
      else if abort_free j then status_of_abort plan past (count_of plan)
      else if all_below (is_done plan past) (count_of plan) then 0 else 1)
      ∙ (λ j. if is_some plan.final_node then (if sym (state-done plan past (count_of plan)) j then 0 else 1)
      else if ordinary-done j then 0 else 1)

  need-is : needs_rescue plan past ≡ fates_need_rescue plan (shown plan past)
  need-is =
      (λ j. (abort_free j || not (ordinary-done j)) || final-need (is_some plan.final_node) refl j)
    where
      final-need : (b : Bool) → is_some plan.final_node ≡ b
          → (is_some plan.final_node && is_in_error plan past (count_of plan)) ≡ (is_some plan.final_node && not (is_done_state (shown plan past (count_of plan)).state))
      final-need true some = λ j. is_some plan.final_node && (final-error plan past finished some ∙ (λ i. not (sym (state-done plan past (count_of plan)) i))) j
      final-need false none =
          (λ j. none j && is_in_error plan past (count_of plan))
          ∙ sym (λ j. none j && not (is_done_state (shown plan past (count_of plan)).state))

  same-rescue : rescue_text_for plan past ≡ fated_rescue_text plan (shown plan past)
  same-rescue =
      λ j. rescue_text_of (ordinary_names plan.graph.dag) (map (λ node. sym (state-done plan past node) j) (range_with_len 0 (count_of plan)))

  pub report-is : (status : ℕ) → report_of plan past status ≡ fated_report plan (shown plan past) status
  report-is status =
      λ j. all-lines plan past finished abort_free j ++ (result_line status ++ (if need-is j then same-rescue j else []))
