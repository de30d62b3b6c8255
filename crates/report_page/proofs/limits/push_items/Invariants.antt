use Rattle.std.proofs.Common.{◌≡◌, ◌++◌, take, string_bytes}
use Rattle.report_page.specs.Limits.{limit_items}
use Rattle.report_page.proofs.limits.push_items.Given as goal

abbrev pub invariant-loop-limit : goal.invariant-loop-limit
invariant-loop-limit l = string_bytes l.text ≡ string_bytes l.initial.text ++ limit_items (take l.limit-index l.limits)
