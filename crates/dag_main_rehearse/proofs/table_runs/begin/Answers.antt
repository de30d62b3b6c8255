use Rattle.std.proofs.Common.{ap}
use Rattle.event_journal_log.specs.Image.{replay_of}
use Rattle.dag_main_rehearse.proofs.table_runs.begin.Goals as goal

pub begin-requires : goal.begin-requires
unfolding replay_of
begin-requires c = record { fresh = λ honest. ap replay_of c.new-journal.ensures.bytes }
