use Rattle.std.proofs.Common.{codes}
use Rattle.child_watcher.proofs.Settings.{same_setting}
use Rattle.child_watcher.proofs.inherited.is_of_round.Goals as goal

-- src/inherited.rt:63:1
pub returns-in-Some : goal.returns-in-Some
returns-in-Some c = same_setting (codes "DAGRUN_ROUND=") c.in-Some.value.now c.as_bytes.result.now c.args.round.now c.args.setting.now c.eq.result c.as_bytes.ensures.value c.in-Some.ensures c.eq.ensures

pub returns-in-None : goal.returns-in-None
returns-in-None c = c.in-None.ensures c.args.round.now
