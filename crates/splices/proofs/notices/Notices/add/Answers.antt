use Rattle.splices.specs.contracts.notices.NoticePartialEq.TheImpl as kept
use Rattle.splices_flat.specs.Notices.{same_notice}
use Rattle.splices.specs.NoticeSets.{notice_of}
use Rattle.splices.proofs.Kept.{kept_once, notice_same}
use Rattle.splices.proofs.notices.Notices.add.Goals as goal

pub returns : goal.returns
returns c =
    kept_once notice_of (kept.ghosts).eq same_notice c.args.notice c.insert.new.self.keys c.self.inside.notices.keys c.args.self.now notice_same c.self.view_is c.in_ok-insert.ensures.keys
