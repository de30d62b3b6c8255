-- The calls of a starter that were answered, the newest first, and the children that run.
use Rattle.std.specs.Prelude.{◌≡◌, ◌≢◌, Bool, true, false, List, [], ◌∷◌, Option, Some, None, IsTrue, IsFalse}
use Rattle.std.specs.declared.snapshot.Snapshot.{Snapshot}
use Rattle.node_machine.specs.declared.Key.{Key}
use Rattle.node_machine.specs.declared.Outcome.{Outcome}
use Rattle.node_machine.specs.declared.Outcome.TheVariants.{NoStart}
use Rattle.node_machine.specs.Story.{is_possible}
use Rattle.sched_core.specs.Run.{is_among, without}
use Rattle.job_starter_drive.specs.declared.Call.{Call}
use Rattle.job_starter_drive.specs.declared.Call.TheVariants as calls
use Rattle.job_starter_drive.specs.declared.Started.{Started}
use Rattle.job_starter_drive.specs.declared.Started.TheVariants.{Running, NotStarted}

-- a value as clauses see it, of which nothing is kept at run time
abbrev pub snapshot_of : {A : Type 0} → A → Snapshot A
snapshot_of x = record { marker = record {}; value = x }

-- the keys with that of a child that was started
abbrev pub with_started : Key → Started → List Key → List Key
with_started key Running keys = key ∷ keys
with_started key NotStarted keys = keys

-- The children that run, the newest first: from the start to the ending that is reported, or to the kill.
abbrev pub running : List Call → List Key
running [] = []
running (calls.Started key command answer ∷ call_log) = with_started key answer (running call_log)
running (calls.Ended key outcome ∷ call_log) = without key (running call_log)
running (calls.Killed key ∷ call_log) = without key (running call_log)
running (calls.HaltSeen ∷ call_log) = running call_log

-- it was answered that nothing more is to be launched
abbrev pub is_halt_seen : List Call → Bool
is_halt_seen [] = false
is_halt_seen (calls.HaltSeen ∷ call_log) = true
is_halt_seen (_ ∷ call_log) = is_halt_seen call_log

-- What a starter may report: which endings of the child of a key, after these calls; whether it hands out endings that are at hand,
-- one after another, before any is recorded; and whether it may answer that nothing more is to be launched.
pub record Telling : Type 1 where
  pub may_be : List Call → Key → Outcome → Type 0
  pub gathers : Type 0
  pub may_halt : Type 0

-- children may come to any ending, those at hand may be gathered, and the run may be halted
abbrev pub any_ending : Telling
any_ending = record { may_be = λ call_log key outcome. Unit {0}; gathers = Unit {0}; may_halt = Unit {0} }

-- What may be told now might have been told before.
abbrev pub AllowsNoMore : Telling → Telling → Type 0
AllowsNoMore old new =
    ((call_log : List Call) (key : Key) (outcome : Outcome) → new.may_be call_log key outcome → old.may_be call_log key outcome)
    × (new.gathers → old.gathers)
    × (new.may_halt → old.may_halt)

-- where a halt was seen, it might have been
abbrev pub MightHalt : Telling → List Call → Type 0
MightHalt may call_log = IsTrue (is_halt_seen call_log) → may.may_halt

-- It is asked whether nothing more is to be launched, and the answer is what these calls say then: as before, or that it is seen now.
pub data AsksForHalt (may : Telling) (call_log : List Call) : List Call → Type 0 where
  as_before : AsksForHalt may call_log call_log
  seen_now : may.may_halt → IsFalse (is_halt_seen call_log) → AsksForHalt may call_log (calls.HaltSeen ∷ call_log)

-- An answer that the child of a key came to this end, be it waited for or at hand: the child ran, it may have come to this end, and of
-- all calls this one is the newest. A halt that was seen before it might have been.
pub record IsReportedEnding (may : Telling) (call_log later_log : List Call) (ended : Key × Outcome) : Type 0 where
  pub entry : later_log ≡ calls.Ended ended.0 ended.1 ∷ call_log
  pub ran : IsTrue (is_among ended.0 (running call_log))
  pub may_be : may.may_be call_log ended.0 ended.1
  pub possible : IsTrue (is_possible ended.1)
  pub halt : MightHalt may call_log

-- A child that runs may come to another ending than that it did not start.
abbrev pub MayRun : Telling → List Call → Key → Type 0
MayRun may call_log key = (outcome : Outcome) × (outcome ≢ NoStart) × may.may_be call_log key outcome

-- the key that is last: of the children that run, the one that was started first
abbrev pub oldest : List Key → Option Key
oldest [] = None
oldest (key ∷ []) = Some key
oldest (key ∷ other ∷ keys) = oldest (other ∷ keys)
