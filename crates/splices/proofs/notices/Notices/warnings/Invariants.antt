use Rattle.std.proofs.Common.{◌≡◌, map, take}
use Rattle.splices_flat.specs.Notices.{warning_of}
use Rattle.splices.specs.NoticeSets.{notice_of}
use Rattle.splices.proofs.notices.Notices.warnings.Given as goal

abbrev pub invariant-loop-notice : goal.invariant-loop-notice
invariant-loop-notice l = l.warnings.items ≡ map (λ n. warning_of (notice_of n)) (take l.notice-index l.notice-items)
