use Rattle.std.proofs.Common.{◌≡◌, ◌++◌, take, codes, string_bytes}
use Rattle.std.specs.List.{flat_map}
use Rattle.log_lines.specs.Words.{word_text}
use Rattle.failure_report.specs.Grouped.{failed_names}
use Rattle.failure_report.proofs.same.push_listed.Given as goal

abbrev pub invariant-loop-other : goal.invariant-loop-other
invariant-loop-other l =
    string_bytes l.text ≡ string_bytes l.initial.text ++ flat_map (λ next. codes ", " ++ word_text next) (failed_names l.plan (take l.other-index l.others))
