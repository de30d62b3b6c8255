-- A round at a site.
use Rattle.std.proofs.Common.{◌≡◌, ℕ, true, false, List, [], Option, Some, None, Bool, Ok, Err, Result, refl, sym, subst}
use Rattle.event_journal_log.specs.declared.disk.Disk.{Ghosts}
use Rattle.event_journal_log.specs.declared.fault.JournalFault.{JournalFault}
use Rattle.event_journal_log.specs.Image.{Found, replay_of}
use Rattle.event_journal_log.specs.Peeks.{ends_with_finish}
use Rattle.splices_flat.specs.Opening.{Files}
use Rattle.throttles.specs.declared.Limits.{Limits}
use Rattle.job_starter_local.specs.declared.launching.Launcher.{Launcher}
use Rattle.run_plan.specs.Plan.{Plan}
use Rattle.job_starter_drive.specs.declared.Call.{Call}
use Rattle.job_starter_drive.specs.declared.driving.DriveFault.{DriveFault}
use Rattle.run_round.specs.declared.rounds.Start.{Start}
use Rattle.recovery_manager.specs.declared.fault.ManagerFault.TheVariants as faults
use Rattle.recovery.specs.Recovery.{begin_had_no_memory, recovery_had_no_memory}
use Rattle.job_starter_drive.specs.declared.driving.DriveFault.TheVariants as drives
use Rattle.run_round.specs.declared.rounds.Start.TheVariants.{Begin, GoOn}
use Rattle.run_round.specs.Rounds.{FitsIn, IsOpeningFault, IsRoundRun}
use Rattle.run_round.specs.Causes.{IsRoundRefusal, not_opened}
use Rattle.dag_main_files.specs.declared.rounds.Journaled.{Journaled}
use Rattle.dag_main_files.specs.declared.rounds.Round.{Round}
use Rattle.dag_main_files.specs.Beside.{journal_name_of, HasJournal, IsRoundFound}
use Rattle.dag_main_files.specs.Folder.{read_at, journal_in}
use Rattle.dag_main_check.specs.declared.fault.RunFault.{RunFault}
use Rattle.job_starter_drive.specs.Calls.{Telling, any_ending, running}
use Rattle.dag_main_run.specs.Sites.{start_with, start_by, bytes_found, journal_found, Own, IsAtSite, IsRoundLedAt, IsRoundStoppedAt, IsReturned}

-- no bytes are of no journal
nothing-read : replay_of [] ≡ Ok None
unfolding replay_of
nothing-read = refl

-- A round fits in the bytes that it found, by what reading these gives.
fits-some : (bytes : List ℕ) (found : Found) (ended : Bool) (round : Round) → replay_of bytes ≡ Ok (Some found) → IsRoundFound ended found round
    → FitsIn (start_by round) (bytes_found round.journal (Some bytes))
fits-some bytes found true round reads is =
    subst (λ (j : Journaled). FitsIn (start_with j round.used round.next) (bytes_found j (Some bytes))) (sym is) nothing-read
fits-some bytes found false round reads is =
    subst (λ (j : Journaled). FitsIn (start_with j round.used round.next) (bytes_found j (Some bytes))) (sym is.goes_on_is) (λ none. absurd cc)

fits-read : (bytes : List ℕ) (read : Result (Option Found) JournalFault) (round : Round) → replay_of bytes ≡ read → HasJournal read round
    → FitsIn (start_by round) (bytes_found round.journal (Some bytes))
fits-read bytes (Ok None) round reads is =
    subst (λ (j : Journaled). FitsIn (start_with j round.used round.next) (bytes_found j (Some bytes))) (sym is) reads
fits-read bytes (Ok (Some found)) round reads is = fits-some bytes found (ends_with_finish found.records) round reads is
fits-read bytes (Err fault) round reads is = absurd is

fits-held : (held : Option (List ℕ)) (round : Round) → HasJournal (read_at held) round → FitsIn (start_by round) (bytes_found round.journal held)
fits-held None round is =
    subst (λ (j : Journaled). FitsIn (start_with j round.used round.next) (bytes_found j None)) (sym is) nothing-read
fits-held (Some bytes) round is = fits-read bytes (replay_of bytes) round refl is

pub fits-found : (holds : Files) (top : List ℕ) (round : Round) → HasJournal (journal_in holds top) round → FitsIn (start_by round) (journal_found holds top round)
fits-found holds top round is = fits-held (holds (journal_name_of top)) round is

module _ {D R : Type 0} (disks : Ghosts D) (rescues : Ghosts R) (own : Own D R) (Honest : Type 0) (holds : Files) (top : List ℕ)
    (limits : Limits) (launcher : Launcher) (plan : Plan) (round : Round) (journal : D) (rescue : R) where
  -- the disks are those of the site
  pub record AreOwn : Type 0 where
    pub is_journal : own.is_journal top journal
    pub is_rescue : own.is_rescue top round.next rescue
    pub honest : Honest → disks.honest journal × rescues.honest rescue
    pub found : Honest → disks.seen journal ≡ journal_found holds top round
    pub back : disks.honest journal → Honest

  at-site : AreOwn → (calls : List Call) (before now : ℕ) → own.answered launcher calls before now → running calls ≡ [] → IsAtSite disks rescues own Honest holds top launcher round journal rescue calls before now
  at-site are calls before now answered none = record {
    is_journal = are.is_journal;
    is_rescue = are.is_rescue;
    answered = answered;
    none_left = none;
    honest = are.honest;
    found = are.found;
    back = are.back;
  }

  pub fits-disk : AreOwn → (Honest → HasJournal (journal_in holds top) round) → (start : Start) → start ≡ start_by round → disks.honest journal → FitsIn start (disks.seen journal)
  fits-disk are by_journal start same honest =
      subst (λ (s : Start). FitsIn s (disks.seen journal)) (sym same)
      (subst (FitsIn (start_by round)) (sym (are.found (are.back honest))) (fits-found holds top round (by_journal (are.back honest))))

  pub led-at : AreOwn → (start : Start) → start ≡ start_by round → (left : D) (rest : Option R) (text : List ℕ) (status : ℕ)
      → (calls : List Call) × (before : ℕ) × (now : ℕ) × own.answered launcher calls before now × (running calls ≡ []) × IsRoundRun disks rescues plan start limits any_ending [] calls journal left rescue text status rest
      → IsRoundLedAt disks rescues own Honest holds top limits launcher plan round text status
  led-at are start same left rest text status (calls, before, now, answered, none, led) = record {
    journal = journal;
    rescue = rescue;
    left = left;
    rest = rest;
    calls = calls;
    before = before;
    now = now;
    at_site = at-site are calls before now answered none;
    led = subst (λ (s : Start). IsRoundRun disks rescues plan s limits any_ending [] calls journal left rescue text status rest) same led;
  }

  pub stopped-at : AreOwn → (start : Start) → start ≡ start_by round → (left : D) (rest : Option R) (cause : DriveFault) (fault : RunFault) → IsReturned top cause fault
      → (calls : List Call) × (before : ℕ) × (now : ℕ) × own.answered launcher calls before now × (running calls ≡ [])
      × IsRoundRefusal disks rescues before now plan 16777216 start limits any_ending [] calls journal left rescue rest cause
      → IsRoundStoppedAt disks rescues own Honest holds top limits launcher plan round fault
  stopped-at are start same left rest cause fault returned (calls, before, now, answered, none, refused) = record {
    journal = journal;
    rescue = rescue;
    left = left;
    rest = rest;
    calls = calls;
    before = before;
    now = now;
    cause = cause;
    at_site = at-site are calls before now answered none;
    refused = subst (λ (s : Start). IsRoundRefusal disks rescues before now plan 16777216 s limits any_ending [] calls journal left rescue rest cause) same refused;
    returned = returned;
  }

-- A round by a starter that no call was made of.
module _ {D R : Type 0} (disks : Ghosts D) (rescues : Ghosts R) (plan : Plan) (start : Start) (limits : Limits) (may : Telling)
    (old later : List Call) (idle : old ≡ []) (gone : running later ≡ []) (disk left : D) (handed : R) where
  pub led-by-starter : (text : List ℕ) (status : ℕ) (rest : Option R) → IsRoundRun disks rescues plan start limits may old later disk left handed text status rest
      → (calls : List Call) × (before : ℕ) × (now : ℕ) × (before ≡ 0) × (running calls ≡ []) × IsRoundRun disks rescues plan start limits may [] calls disk left handed text status rest
  led-by-starter text status rest is =
      (later, 0, 0, refl, gone, subst (λ (log : List Call). IsRoundRun disks rescues plan start limits may log later disk left handed text status rest) idle is)

  pub refused-by-starter : (before now : ℕ) (rest : Option R) (fault : DriveFault) → before ≡ 0
      → IsRoundRefusal disks rescues before now plan 16777216 start limits may old later disk left handed rest fault
      → (calls : List Call) × (b : ℕ) × (n : ℕ) × (b ≡ 0) × (running calls ≡ []) × IsRoundRefusal disks rescues b n plan 16777216 start limits may [] calls disk left handed rest fault
  refused-by-starter before now rest fault none is =
      (later, before, now, none, gone, subst (λ (log : List Call). IsRoundRefusal disks rescues before now plan 16777216 start limits may log later disk left handed rest fault) idle is)

-- there is no memory for a starter
no-memory-to-open : {D : Type 0} (disks : Ghosts D) (plan : Plan) (slots : ℕ) (start : Start) (disk : D) → IsOpeningFault disks plan slots start disk disk faults.Memory
no-memory-to-open disks plan slots (Begin used next) disk = begin_had_no_memory
no-memory-to-open disks plan slots GoOn disk = recovery_had_no_memory

pub no-memory-to-start : {D R : Type 0} (disks : Ghosts D) (rescues : Ghosts R) (plan : Plan) (start : Start) (limits : Limits)
    (may : Telling) (disk : D) (rescue : R) → ¬ (disks.honest disk)
    → (calls : List Call) × (b : ℕ) × (n : ℕ) × (b ≡ 0) × (running calls ≡ [])
    × IsRoundRefusal disks rescues b n plan 16777216 start limits may [] calls disk disk rescue (Some rescue) (drives.Manager faults.Memory)
no-memory-to-start disks rescues plan start limits may disk rescue dishonest =
    ([], 0, 0, refl, refl, not_opened refl refl (no-memory-to-open disks plan 16777216 start disk) (λ honest. absurd (dishonest honest)) (λ honest. absurd (dishonest honest)))
