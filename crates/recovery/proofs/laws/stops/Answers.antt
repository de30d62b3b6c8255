use Rattle.std.proofs.Common.{◌≡◌, ◌∙◌, ℕ, true, List, [], ◌∷◌, inl, inr, refl, sym, ap, arith}
use Rattle.std.proofs.lemmas.List.{append-nil}
use Rattle.run_plan.specs.Plan.{Plan}
use Rattle.node_machine.specs.declared.Record.{Record}
use Rattle.node_machine.specs.declared.Record.TheVariants.{Life}
use Rattle.sched_core.specs.Run.{is_lawful}
use Rattle.event_journal_log.specs.Journal.{with_record}
use Rattle.recovery_manager.specs.Lives.{LifeRecords, GoesOn}
use Rattle.recovery_manager.specs.Chain.{IsLifeOf, LeavesRecords, ReadsForInputs, commands_in, life_of, life_records}
use Rattle.recovery_manager.specs.Inputs.{header_for}
use Rattle.std.proofs.lemmas.Bool.{and_parts}
use Rattle.recovery.proofs.Lives.{with_life, life_lawful}
use Rattle.recovery.proofs.laws.stops.Goals as goal

-- an image of these records, or of these and one more
without : (plan : Plan) (records : LifeRecords) (image : List ℕ) → GoesOn records.begun records.held → is_lawful plan records.held ≡ true
    → ReadsForInputs plan records.held image → LeavesRecords plan records image
without plan records image goes lawful reads = record { added = []; few = omega arith; goes_on = goes; lawful = lawful; reads = reads }

with_one : (plan : Plan) (records : LifeRecords) (entry : Record) (image : List ℕ) → GoesOn records.begun (entry ∷ records.held) → is_lawful plan (entry ∷ records.held) ≡ true
    → ReadsForInputs plan (entry ∷ records.held) image → LeavesRecords plan records image
with_one plan records entry image goes lawful reads = record { added = entry ∷ []; few = omega arith; goes_on = goes; lawful = lawful; reads = reads }

-- a life that holds what it found
idle : (plan : Plan) (found : List ℕ) (past : List Record) (image : List ℕ) → ReadsForInputs plan past found → is_lawful plan past ≡ true
    → LeavesRecords plan (life_records past past) image → IsLifeOf plan (life_of found (life_records past past) [] image)
idle plan found past image reads lawful leaves = record {
  reads = reads;
  goes_on = inl refl;
  lawful = lawful;
  spawns = ([], sym (append-nil (commands_in plan past)));
  leaves = leaves;
}

pub returns-clause-in_begin : goal.returns-clause-in_begin
returns-clause-in_begin g c disk plan used next image fresh (inl (inl was)) = inl was
returns-clause-in_begin g c disk plan used next image fresh (inl (inr (inl none))) =
    inr (idle plan (g.D.Disk.seen disk) [] image (inl (fresh, refl)) refl (without plan (life_records [] []) image (inl refl) refl (inl (none, refl))))
returns-clause-in_begin g c disk plan used next image fresh (inl (inr (inr reads))) =
    inr (idle plan (g.D.Disk.seen disk) [] image (inl (fresh, refl)) refl (without plan (life_records [] []) image (inl refl) refl (inr (header_for used next plan, reads, (refl, refl)))))
returns-clause-in_begin g c disk plan used next image fresh (inr reads) =
    inr (idle plan (g.D.Disk.seen disk) [] image (inl (fresh, refl)) refl
    (with_one plan (life_records [] []) Life image (inr ([], refl)) (life_lawful plan [] refl refl) (inr (header_for used next plan, reads, (refl, refl)))))

pub returns-clause-in_recover : goal.returns-clause-in_recover
returns-clause-in_recover g c disk plan image (inl was) = inl was
returns-clause-in_recover g c disk plan image (inr (goes, inl same)) =
    inr (
      goes.past,
      idle plan (g.D.Disk.seen disk) goes.past image (inr (goes.header, goes.is, goes.inputs)) goes.lawful
          (without plan (life_records goes.past goes.past) image (inl refl) goes.lawful (inr (goes.header, same ∙ goes.is, goes.inputs))),
    )
returns-clause-in_recover g c disk plan image (inr (goes, inr more)) =
    inr (
      goes.past,
      idle plan (g.D.Disk.seen disk) goes.past image (inr (goes.header, goes.is, goes.inputs)) goes.lawful
          (with_one plan (life_records goes.past goes.past) Life image (inr ([], refl)) (life_lawful plan goes.past goes.unfinished goes.lawful)
          (inr (goes.header, more ∙ ap (with_record Life) goes.is ∙ with_life goes.header goes.past, goes.inputs))),
    )

pub returns-clause-in_a_call : goal.returns-clause-in_a_call
returns-clause-in_a_call g c plan header records own entry image inputs held lawful (inl reads) =
    without plan records image (inr (own, held)) (and_parts _ _ lawful).0 (inr (header, reads, inputs))
returns-clause-in_a_call g c plan header records own entry image inputs held lawful (inr reads) =
    with_one plan records entry image (inr (entry ∷ own, ap (λ (l : List Record). entry ∷ l) held)) lawful (inr (header, reads, inputs))
