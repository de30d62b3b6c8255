use Rattle.std.proofs.Common.{ℕ, List, ◌++◌, codes, string_bytes, ap, ◌∙◌, arith}
use Rattle.run_times.proofs.TimesPhases.{text-of_times}
use Rattle.run_times.proofs.times_data.times_json.Goals as goal

pub returns : goal.returns
returns c =
    c.in_ok-push.ensures.bytes
    ∙ ap (λ (end : List ℕ). string_bytes c.in_ok-text.text ++ end) (c.in_ok-push.ensures.ascii (omega arith))
    ∙ ap (λ (text : List ℕ). text ++ codes "\n")
    (text-of_times c.args.runs.now c.args.marks.now c.in_ok-value.value (string_bytes c.in_ok-text.text) c.in_ok-value.ensures c.in_ok-text.ensures.text)
