-- Why a starter refuses a call, as its counts of refusals go on.
use Rattle.std.proofs.Common.{◌≡◌, ℕ, List, [], subst}
use Rattle.event_journal_log.specs.Disk.{IsOneMore}
use Rattle.job_starter_drive.specs.declared.Call.{Call}
use Rattle.job_starter_drive.specs.declared.StartFault.{StartFault}
use Rattle.job_starter_drive.specs.Calls.{running}
use Rattle.job_starter_drive.specs.Causes.{IsStartFault, start_had_no_memory, IsAskFault, asking_refused, IsWaitFault, waiting_refused, no_child_runs}

pub start-counts : (before now : ℕ) (fault : StartFault) → IsStartFault before now fault → IsOneMore before now
start-counts before now _ (start_had_no_memory more) = more

pub wait-counts : (before now : ℕ) (call_log : List Call) (fault : StartFault) → (running call_log ≡ [] → ⊥) → IsWaitFault before now call_log fault → IsOneMore before now
wait-counts before now call_log _ some (waiting_refused more) = more
wait-counts before now call_log _ some (no_child_runs none same) = absurd (some none)

-- a question is refused once where those before it were answered
pub ask-before : (earlier before now : ℕ) (fault : StartFault) → before ≡ earlier → IsAskFault before now fault → IsAskFault earlier now fault
ask-before earlier before now _ same (asking_refused more) = asking_refused (subst (λ (n : ℕ). IsOneMore n now) same more)

-- a refused question is a refused wait
pub ask-waits : (before now : ℕ) (call_log : List Call) (fault : StartFault) → IsAskFault before now fault → IsWaitFault before now call_log fault
ask-waits before now call_log _ (asking_refused more) = waiting_refused more
