use Rattle.std.proofs.Common.{◌≡◌, ℕ, ◌-◌, List, Option, ◌++◌, codes, string_bytes, ap, ◌∙◌}
use Rattle.std.specs.Prelude.{slice_get}
use Rattle.run_times.specs.declared.limits.Limit.{Limit}
use Rattle.run_times.specs.Table.{seconds_text}
use Rattle.run_times.specs.Critical.{run_end_at}
use Rattle.run_times.specs.Parts.{begun_at}
use Rattle.run_times.specs.Summary.{column_text, wait_text, turn_text, waited_for, path_phase_text}
use Rattle.run_times.proofs.Chains.{added}
use Rattle.run_times.proofs.summary.push_part.Goals as goal

pub returns : goal.returns
returns c =
    let graph = c.args.shown.now.graph.now in
    let limits = c.args.shown.now.limits.now in
    let runs = c.args.shown.now.runs.now in
    let begun = begun_at runs c.args.place in
    let limit = waited_for graph limits runs c.args.place c.args.from in
    let waited : string_bytes c.push_column.new.text ≡ string_bytes c.args.text.now ++ column_text (wait_text c.args.from begun)
    = c.in_ok-push_column.ensures
    ∙ ap (λ (number : List ℕ). string_bytes c.args.text.now ++ column_text number) (c.as_str.ensures.value ∙ c.in_ok-waited.ensures ∙ ap (wait_text c.args.from) c.begun_at.ensures) in
    let lasted : string_bytes c.push_time.new.text ≡ string_bytes c.push_column.new.text ++ column_text (seconds_text (run_end_at runs c.args.place - begun))
    = c.in_ok-push_time.ensures ∙ ap (λ (time : ℕ). string_bytes c.push_column.new.text ++ column_text (seconds_text time)) c.lasted_at.ensures.is in
    let turn : string_bytes c.push_turn.new.text ≡ string_bytes c.push_run.new.text ++ turn_text limit
    = c.in_ok-push_turn.ensures ∙ ap (λ (limit : Option Limit). string_bytes c.push_run.new.text ++ turn_text limit) c.waited_for.ensures in
    let run = path_phase_text (slice_get runs c.args.place) in
    let end = turn_text limit in
    added (string_bytes c.args.text.now) (column_text (wait_text c.args.from begun)) (column_text (seconds_text (run_end_at runs c.args.place - begun)) ++ (codes "  " ++ (run ++ end))) waited
    (added (string_bytes c.push_column.new.text) (column_text (seconds_text (run_end_at runs c.args.place - begun))) (codes "  " ++ (run ++ end)) lasted
    (added (string_bytes c.push_time.new.text) (codes "  ") (run ++ end) c.in_ok-push_str.ensures.bytes
    (added (string_bytes c.push_str.new.self) run end c.in_ok-push_run.ensures turn)))
