use Rattle.std.proofs.Common.{take, string_bytes}
use Rattle.failure_report.specs.Reported.{HasBlocks}
use Rattle.failure_report.proofs.why.text_of.Given as goal

abbrev pub invariant-loop-one : goal.invariant-loop-one
invariant-loop-one g l = HasBlocks l.run.core.now.plan (take l.one-index l.reported) (string_bytes l.text)
