use Rattle.child_watcher.proofs.Settings.{value_behind}
use Rattle.child_watcher.proofs.inherited.value_of.Goals as goal

-- src/inherited.rt:73:1
pub returns : goal.returns
returns c = value_behind c.args.name.now c.as_bytes.result.now c.args.setting.now c.strip_prefix.result c.as_bytes.ensures.value c.strip_prefix.ensures.cases
