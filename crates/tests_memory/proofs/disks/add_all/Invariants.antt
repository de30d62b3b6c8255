use Rattle.std.proofs.Common.{IsFalse}
use Rattle.event_journal_log.specs.Journal.{journal_disk, is_broken, IsSettled}
use Rattle.tests_memory.proofs.disks.add_all.Given as goal

abbrev pub invariant-loop-record : goal.invariant-loop-record
invariant-loop-record g l = g.D.Disk.honest (journal_disk l.journal) → IsFalse (is_broken l.journal) → IsSettled g.D.Disk l.journal
