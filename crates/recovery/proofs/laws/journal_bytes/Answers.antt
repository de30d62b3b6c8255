use Rattle.event_journal_log.proofs.Begins.{replay_of-empty}
use Rattle.event_journal_log.proofs.Slots.{record_in-slot_of}
use Rattle.recovery.proofs.Written.{safe}
use Rattle.recovery.proofs.laws.journal_bytes.Goals as goal

pub returns-clause-begins : goal.returns-clause-begins
returns-clause-begins c header used next digest = replay_of-empty header (record { used = used; next = next; digest = digest })

pub returns-clause-safe : goal.returns-clause-safe
returns-clause-safe c image found is = safe image found is

pub returns-clause-slot : goal.returns-clause-slot
returns-clause-slot c entry fits spelled = record_in-slot_of entry fits spelled
