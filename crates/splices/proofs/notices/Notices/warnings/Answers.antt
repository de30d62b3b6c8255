use Rattle.std.proofs.Common.{arith}
use Rattle.splices.proofs.Kept.{warnings_are}
use Rattle.splices.proofs.notices.Notices.warnings.Goals as goal

pub returns : goal.returns
returns c =
    warnings_are c.as_slice-notice-items.result.now c.self.inside.notices.keys c.args.self.now c.loop-notice.notice-index c.loop-notice.warnings.items
    c.as_slice-notice-items.ensures.keys c.self.view_is (omega arith) c.loop-notice.invariant
