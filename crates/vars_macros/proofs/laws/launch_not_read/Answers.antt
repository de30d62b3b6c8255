use Rattle.vars_macros.proofs.LaunchUnread.{launch_unread}
use Rattle.vars_macros.proofs.laws.launch_not_read.Goals as goal

pub returns : goal.returns
returns c = launch_unread
