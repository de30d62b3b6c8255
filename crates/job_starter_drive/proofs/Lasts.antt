-- What is left after a call is what a life of the records that it kept leaves.
use Rattle.std.proofs.Common.{◌≡◌, ◌∙◌, ℕ, true, List, [], ◌∷◌, ◌++◌, length, Option, Some, None, inl, inr, sym, ap, subst, arith, length-append}
use Rattle.run_plan.specs.Plan.{Plan}
use Rattle.node_machine.specs.declared.Record.{Record}
use Rattle.node_machine.specs.declared.Record.TheVariants.{Life}
use Rattle.sched_core.specs.Run.{is_lawful}
use Rattle.event_journal_log.specs.Image.{Header}
use Rattle.recovery_manager.specs.Managed.{ReadsJournal}
use Rattle.recovery_manager.specs.Lives.{GoesOn}
use Rattle.recovery_manager.specs.Chain.{LeavesRecords, life_records}
use Rattle.recovery_manager.specs.Inputs.{IsHeaderOf}
use Rattle.job_starter_drive.specs.declared.driving.DriveFault.{DriveFault}
use Rattle.job_starter_drive.specs.Moments.{IsOlderPart, IsMore, MayHold}

-- two lists of which each is an older part of the other are one
one-part : (held kept : List Record) → IsOlderPart held kept → IsOlderPart kept held → kept ≡ held
one-part held kept ([], is) back = is
one-part held kept (newest ∷ newer, is) back =
    let less = ap length is ∙ length-append (newest ∷ newer) held in
    let more = ap length back.1 ∙ length-append back.0 kept in
    absurd (omega (arith, less, more))

-- what may be held after the call, when none of the kept records is missing: these, or some more
kept-or-more : (fault : Option DriveFault) (held kept : List Record) → MayHold fault kept held → IsOlderPart kept held → IsMore kept held
kept-or-more None held kept part all = record { added = []; few = omega arith; is = sym (one-part held kept part all) }
kept-or-more (Some fault) held kept (inl part) all = record { added = []; few = omega arith; is = sym (one-part held kept part all) }
kept-or-more (Some fault) held kept (inr more) all = more.1

pub leaves-kept : (plan : Plan) (past kept held : List Record) (fault : Option DriveFault) (header : Header) (image : List ℕ)
    → MayHold fault kept held → IsOlderPart kept held → (own : List Record) × (held ≡ own ++ Life ∷ past) → is_lawful plan held ≡ true
    → IsHeaderOf plan header → ReadsJournal header held image → LeavesRecords plan (life_records past kept) image
leaves-kept plan past kept held fault header image part all adds lawful of_plan reads =
    let more = kept-or-more fault held kept part all in
    record {
      added = more.added;
      few = more.few;
      goes_on = subst (GoesOn past) more.is (inr adds);
      lawful = subst (λ (l : List Record). is_lawful plan l ≡ true) more.is lawful;
      reads = inr (header, subst (λ (l : List Record). ReadsJournal header l image) more.is reads, of_plan);
    }
