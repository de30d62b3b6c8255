-- A run that is led to its end.
use Rattle.event_journal_log.specs.declared.disk.Disk.{Ghosts}
use Rattle.recovery_manager.specs.Chain.{commands_in}
use Rattle.std.proofs.Common.{arith, inl, inr, Option, None, ◌≡◌, ◌&&◌, ℕ, true, false, List, [], ◌∷◌, ◌++◌, refl, sym, ap, ◌∙◌, subst}
use Rattle.std.proofs.lemmas.Bool.{and_from}
use Rattle.std.proofs.lemmas.List.{append-nil}
use Rattle.throttles.specs.declared.Limits.{Limits}
use Rattle.node_machine.specs.declared.Key.{Key}
use Rattle.node_machine.specs.declared.Outcome.{Outcome}
use Rattle.run_plan.specs.Plan.{Plan}
use Rattle.node_machine.specs.declared.Record.{Record}
use Rattle.node_machine.specs.declared.Record.TheVariants.{Finish}
use Rattle.sched_core.specs.declared.Choice.TheVariants as choices
use Rattle.sched_core.specs.Run.{is_over, is_lawful, is_aborted, may_follow, exit_status, table_of}
use Rattle.sched_core.specs.Fate.{AreFates, shown}
use Rattle.sched_core.specs.Choices.{IsChoice}
use Rattle.status_report.specs.Text.{run_text}
use Rattle.job_starter_drive.specs.declared.Call.{Call}
use Rattle.job_starter_drive.specs.Calls.{Telling}
use Rattle.job_starter_drive.specs.Drives.{Drives, At, at_rest, IsHalted, IsStopped}
use Rattle.job_starter_drive.specs.Spawned.{SpawnsAll, SpawnsAllButSome}
use Rattle.job_starter_drive.specs.declared.driving.DriveFault.{DriveFault}
use Rattle.job_starter_drive.specs.Moments.{IsOlderPart, IsMore, MayHold, MayStand, IsMomentOfRun, IsLastMoment}
use Rattle.job_starter_drive.proofs.CallImages.{ReadsBy}
use Rattle.job_starter_drive.proofs.Cuts.{older-self, older-is, goes-records}
use Rattle.job_starter_drive.proofs.Images.{may-older, moment_grows, last_at}
use Rattle.event_journal_log.specs.Crashes.{CrashesLeave}
use Rattle.event_journal_log.specs.Image.{Header}
use Rattle.event_journal_log.proofs.Moments as moments
use Rattle.recovery_manager.specs.Managed.{ReadsJournal}
use Rattle.recovery_manager.specs.Seal.{IsRescued}
use Rattle.job_starter_drive.proofs.Handing.{driven}
use Rattle.run_round.specs.RunToEnd.{IsSuffix, IsRunToEnd, DrivesToEnd}
use Rattle.run_round.specs.Moments.{IsMomentOfLead, IsLastOfLead}

aborted-after : (plan : Plan) (past : List Record) (status : ℕ) → is_aborted plan (Finish status ∷ past) ≡ is_aborted plan past
unfolding is_aborted
aborted-after plan past status = refl

status-after : (plan : Plan) (past : List Record) (status : ℕ) → exit_status plan (Finish status ∷ past) ≡ exit_status plan past
unfolding is_aborted
status-after plan past status = refl

-- the end of a run that went on from these records
is-led : (plan : Plan) (begun between records own : List Record) (text : List ℕ) (status : ℕ)
    → between ≡ own ++ begun → records ≡ Finish (exit_status plan between) ∷ between → is_lawful plan between ≡ true
    → may_follow plan between (Finish (exit_status plan between)) ≡ true
    → (is_aborted plan between ≡ false → AreFates plan (table_of records) (shown plan records))
    → text ≡ run_text plan records status → status ≡ exit_status plan between → IsRunToEnd plan begun records text status
is-led plan begun between records own text status more is lawful may fates prints verdict = record {
  goes_on = (Finish (exit_status plan between) ∷ own, is ∙ ap (λ l. Finish (exit_status plan between) ∷ l) more);
  finished = subst (λ r. (is_over r && is_lawful plan r) ≡ true) (sym is) (and_from _ _ lawful may);
  fates = λ abort_free. fates (sym (aborted-after plan between (exit_status plan between)) ∙ ap (is_aborted plan) (sym is) ∙ abort_free);
  text_is = prints;
  status_is = verdict ∙ sym (status-after plan between (exit_status plan between)) ∙ ap (exit_status plan) (sym is);
}

-- the same in the plans of the manager at each call
pub led-by : (limits : Limits) (plan plan0 plan1 plan2 : Plan) → plan ≡ plan0 → plan1 ≡ plan0 → plan2 ≡ plan1
    → (begun between records : List Record) (text : List ℕ) (status : ℕ) (tells : Telling) (call_log later_log : List Call)
    → Drives limits plan0 tells begun call_log between later_log → IsChoice limits plan0 between (choices.Finish status)
    → is_lawful plan1 between ≡ true → may_follow plan1 between (Finish (exit_status plan1 between)) ≡ true
    → records ≡ Finish (exit_status plan1 between) ∷ between
    → (is_aborted plan1 between ≡ false → AreFates plan1 (table_of records) (shown plan1 records))
    → text ≡ run_text plan2 records status → IsRunToEnd plan begun records text status
led-by limits plan plan0 plan1 plan2 own same last begun between records text status tells call_log later_log steps chosen lawful may is fates prints =
    let here : plan1 ≡ plan = same ∙ sym own in
    let adds = goes-records limits plan0 tells (at_rest begun call_log) (at_rest between later_log) steps in
    is-led plan begun between records adds.0 text status adds.1
    (subst (λ (p : Plan). records ≡ Finish (exit_status p between) ∷ between) here is)
    (subst (λ (p : Plan). is_lawful p between ≡ true) here lawful)
    (subst (λ (p : Plan). may_follow p between (Finish (exit_status p between)) ≡ true) here may)
    (subst (λ (p : Plan). is_aborted p between ≡ false → AreFates p (table_of records) (shown p records)) here fates)
    (subst (λ (p : Plan). text ≡ run_text p records status) (last ∙ here) prints)
    (subst (λ (p : Plan). status ≡ exit_status p between) (sym own) chosen.2)

-- the steps of a run and its end, in the plans of the manager at each call
abbrev pub to-end : (limits : Limits) (plan plan' : Plan) → plan' ≡ plan → (may : Telling)
    (past between records : List Record) (call_log later_log : List Call) (status : ℕ)
    → Drives limits plan may past call_log between later_log → IsChoice limits plan between (choices.Finish status)
    → records ≡ Finish (exit_status plan' between) ∷ between → DrivesToEnd limits plan may past call_log records later_log
to-end limits plan plan' same may past between records call_log later_log status steps chosen is = record {
  between = between;
  status = status;
  steps = steps;
  chosen = chosen;
  ended = is ∙ ap (λ (p : Plan). Finish (exit_status p between) ∷ between) same ∙ ap (λ (n : ℕ). Finish n ∷ between) (sym chosen.2);
}

pub stopped-adds : (limits : Limits) (plan : Plan) (may : Telling) (past : List Record) (call_log : List Call) (fault : DriveFault) (refused after : List Record) (last : List Call)
    → IsStopped limits plan may past call_log fault refused after last → IsSuffix past after
stopped-adds limits plan may past call_log fault refused after last s =
    goes-records limits plan may (at_rest past call_log) (At after s.rest s.halted.keys s.halted.owed) s.halted.steps

-- the record of the end hands nothing over
pub finished-adds : (past between after : List Record) (status : ℕ) → IsSuffix past between → after ≡ Finish status ∷ between → IsSuffix past after
finished-adds past between after status on is = (Finish status ∷ on.0, is ∙ ap (λ l. Finish status ∷ l) on.1)

pub finished-hands : (plan : Plan) (past between after : List Record) (status : ℕ) (call_log later_log : List Call)
    → SpawnsAll plan past between call_log later_log → after ≡ Finish status ∷ between → SpawnsAll plan past after call_log later_log
finished-hands plan past between after status call_log later_log h is =
    subst (λ (l : List Record). SpawnsAll plan past l call_log later_log) (sym is) (record { own = h.own; are = h.are; commands = h.commands })

pub all-but-none : (plan : Plan) (past after : List Record) (call_log later_log : List Call) → SpawnsAll plan past after call_log later_log → SpawnsAllButSome plan past after call_log later_log
all-but-none plan past after call_log later_log h = record {
  own = h.own;
  are = h.are;
  rest = [];
  few = omega arith;
  commands = h.commands ∙ ap (λ l. commands_in plan past ++ l) (sym (append-nil h.own));
}

-- the end is one record more
pub older-finished : (entry : Record) (held kept : List Record) → kept ≡ entry ∷ held → IsOlderPart held kept
older-finished entry held kept same = (entry ∷ [], same)

pub one-more : (entry : Record) (held kept : List Record) → kept ≡ held → IsMore kept (entry ∷ held)
one-more entry held kept same = record { added = entry ∷ []; few = omega arith; is = ap (λ (l : List Record). entry ∷ l) (sym same) }

-- after all steps it may be halted
pub at-steps : (limits : Limits) (plan : Plan) (may : Telling) (past : List Record) (call_log : List Call) (after : List Record) (last : List Call)
    → Drives limits plan may past call_log after last → IsHalted limits plan may past call_log after last
at-steps limits plan may past call_log after last steps = record { keys = []; owed = []; steps = steps }

-- after all steps, where nothing was refused of the journal
pub steps_last : (limits : Limits) (plan : Plan) (may : Telling) (past : List Record) (call_log : List Call) (header : Header) (kept : List Record) (last : List Call) (image : List ℕ)
    → is_lawful plan kept ≡ true → Drives limits plan may past call_log kept last → ReadsJournal header kept image → IsLastMoment limits plan may past call_log None kept last header image
steps_last limits plan may past call_log header kept last image lawful steps reads =
    last_at limits plan may (at_rest past call_log) header (at_rest kept last) None kept last image steps lawful (older-self kept) (older-self last) (older-self kept) reads

module _ {R : Type 0} (rescues : Ghosts R) (rescue : Option R) (limits : Limits) (plan : Plan) (may : Telling) (past : List Record) (call_log : List Call) (header : Header) where
  -- The record of the end, after the steps of the run: what they came to, without it and with it.
  pub record IsEndCall (by fault : Option DriveFault) (kept : List Record) (last : List Call) (between : List Record) (entry : Record) : Type 0 where
    pub lawful : is_lawful plan between ≡ true
    pub follows : may_follow plan between entry ≡ true
    pub steps : Drives limits plan may past call_log between last
    pub ended : DrivesToEnd limits plan may past call_log (entry ∷ between) last
    pub rescued : IsRescued rescues plan ended.between rescue
    pub part : MayHold fault kept between
    pub more : MayStand by → MayHold fault kept (entry ∷ between)

  pub end_moment : (by fault : Option DriveFault) (kept : List Record) (last : List Call) (between : List Record) (entry : Record) (image : List ℕ)
      → IsEndCall by fault kept last between entry → ReadsBy by header between (entry ∷ between) image → IsMomentOfLead rescues rescue limits plan may past call_log fault kept last header image
  end_moment by fault kept last between entry image call (inl reads) = inl (record {
    held = between;
    later_log = last;
    lawful = call.lawful;
    halted = at-steps limits plan may past call_log between last call.steps;
    part = call.part;
    answered = older-self last;
    reads = reads;
  })
  end_moment by fault kept last between entry image call (inr reads) = inr (record {
    held = entry ∷ between;
    lawful = and_from _ _ call.lawful call.follows;
    ended = call.ended;
    rescued = call.rescued;
    part = call.more reads.0;
    reads = reads.1;
  })

  pub end_last : (by fault : Option DriveFault) (kept : List Record) (last : List Call) (between : List Record) (entry : Record) (image : List ℕ)
      → IsEndCall by fault kept last between entry → kept ≡ between → ReadsBy by header between (entry ∷ between) image → IsLastOfLead rescues rescue limits plan may past call_log fault kept last header image
  end_last by fault kept last between entry image call same (inl reads) = inl (record {
    moment = record {
      held = between;
      later_log = last;
      lawful = call.lawful;
      halted = at-steps limits plan may past call_log between last call.steps;
      part = call.part;
      answered = older-self last;
      reads = reads;
    };
    all = older-is kept between (sym same);
  })
  end_last by fault kept last between entry image call same (inr reads) = inr (
    record {
      held = entry ∷ between;
      lawful = and_from _ _ call.lawful call.follows;
      ended = call.ended;
      rescued = call.rescued;
      part = call.more reads.0;
      reads = reads.1;
    },
    (entry ∷ [], ap (λ (l : List Record). entry ∷ l) (sym same)),
  )

  -- the end is recorded
  pub end_rest : (fault : Option DriveFault) (kept : List Record) (last : List Call) (image : List ℕ) → is_lawful plan kept ≡ true
      → (ended : DrivesToEnd limits plan may past call_log kept last) → IsRescued rescues plan ended.between rescue → ReadsJournal header kept image → IsLastOfLead rescues rescue limits plan may past call_log fault kept last header image
  end_rest fault kept last image lawful ended rescued reads =
      inr (record { held = kept; lawful = lawful; ended = ended; rescued = rescued; part = may-older fault kept kept (older-self kept); reads = reads }, older-self kept)

  -- the end is not recorded yet
  pub steps_rest : (fault : Option DriveFault) (kept : List Record) (last : List Call) (image : List ℕ) → is_lawful plan kept ≡ true
      → Drives limits plan may past call_log kept last → ReadsJournal header kept image → IsLastOfLead rescues rescue limits plan may past call_log fault kept last header image
  steps_rest fault kept last image lawful steps reads =
      inl (last_at limits plan may (at_rest past call_log) header (at_rest kept last) fault kept last image steps lawful (may-older fault kept kept (older-self kept)) (older-self last) (older-self kept) reads)

  module _ {D : Type 0} (disks : Ghosts D) (fault : Option DriveFault) (kept : List Record) (last : List Call) where
    pub lead_run : (old new : D) → CrashesLeave disks old new (IsMomentOfRun limits plan may past call_log fault kept last header)
        → CrashesLeave disks old new (IsMomentOfLead rescues rescue limits plan may past call_log fault kept last header)
    lead_run old new leaves =
        moments.weaker disks old new (IsMomentOfRun limits plan may past call_log fault kept last header) (IsMomentOfLead rescues rescue limits plan may past call_log fault kept last header)
        (λ image run. inl run) leaves

    -- a run that was driven, as its end may be recorded after it
    pub lead_grown : (old new : D) (between : List Record) → IsOlderPart between kept → CrashesLeave disks old new (IsMomentOfRun limits plan may past call_log None between last header)
        → CrashesLeave disks old new (IsMomentOfLead rescues rescue limits plan may past call_log fault kept last header)
    lead_grown old new between grown leaves =
        moments.weaker disks old new (IsMomentOfRun limits plan may past call_log None between last header) (IsMomentOfLead rescues rescue limits plan may past call_log fault kept last header)
        (λ image run. inl (moment_grows limits plan may (at_rest past call_log) header fault between last kept last grown (older-self last) image run)) leaves

    -- a crash while the end is recorded, after the steps of the run
    pub then_end : (old mid new : D) (by : Option DriveFault) (between : List Record) (entry : Record) → IsEndCall by fault kept last between entry → IsOlderPart between kept
        → CrashesLeave disks old mid (IsMomentOfRun limits plan may past call_log None between last header) → CrashesLeave disks mid new (ReadsBy by header between (entry ∷ between))
        → CrashesLeave disks old new (IsMomentOfLead rescues rescue limits plan may past call_log fault kept last header)
    then_end old mid new by between entry call grown first second =
        moments.joined disks old mid new (IsMomentOfLead rescues rescue limits plan may past call_log fault kept last header) (lead_grown old mid between grown first)
        (moments.weaker disks mid new (ReadsBy by header between (entry ∷ between)) (IsMomentOfLead rescues rescue limits plan may past call_log fault kept last header)
        (λ image. end_moment by fault kept last between entry image call) second)

-- a moment of the end hands over what its steps did
pub end-hands : (limits : Limits) (plan : Plan) (may : Telling) (past : List Record) (call_log : List Call) (records : List Record) (later_log : List Call)
    → DrivesToEnd limits plan may past call_log records later_log → SpawnsAll plan past records call_log later_log
end-hands limits plan may past call_log records later_log d =
    finished-hands plan past d.between records d.status call_log later_log (driven limits plan may past call_log d.between later_log d.steps) d.ended

pub end-adds : (limits : Limits) (plan : Plan) (may : Telling) (past : List Record) (call_log : List Call) (records : List Record) (later_log : List Call)
    → DrivesToEnd limits plan may past call_log records later_log → IsSuffix past records
end-adds limits plan may past call_log records later_log d =
    finished-adds past d.between records d.status (goes-records limits plan may (at_rest past call_log) (at_rest d.between later_log) d.steps) d.ended
