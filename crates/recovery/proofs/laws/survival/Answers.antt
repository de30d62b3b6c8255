use Rattle.std.proofs.Common.{◌∙◌, ◌⊎◌, ℕ, List, [], ◌∷◌, inl, inr, refl, sym, ap, subst}
use Rattle.node_machine.specs.declared.Record.{Record}
use Rattle.node_machine.specs.declared.Record.TheVariants.{Life}
use Rattle.run_plan.specs.Plan.{Plan}
use Rattle.event_journal_log.specs.Image.{Header}
use Rattle.recovery_manager.specs.Managed.{plan_of, past_of, disk_of, ReadsJournal}
use Rattle.recovery_manager.specs.Batched.{ReadsEither}
use Rattle.recovery_manager.specs.Inputs.{IsHeaderOf}
use Rattle.recovery_manager.specs.Chain.{ReadsForInputs}
use Rattle.recovery_manager.proofs.Chains.{one_past}
use Rattle.sched_core.specs.EveryRun.{IsGrown}
use Rattle.recovery.proofs.laws.survival.Goals as goal

-- an image has these records, perhaps with newer ones
abbrev HasThese : Plan → List Record → List ℕ → Type 0
HasThese plan past image = (records : List Record) × IsGrown records past × ReadsForInputs plan records image

pub returns-clause-acknowledged : goal.returns-clause-acknowledged
returns-clause-acknowledged g c header manager honest inputs has image left =
    let disk = disk_of manager in
    let seen = has.durable image (g.met.D.Disk.only_now disk image honest left) in
    (past_of manager, ([], refl), inr (header, subst (ReadsJournal header (past_of manager)) (sym seen) has.reads, inputs))

either : (plan : Plan) (header : Header) (past before now : List Record) (image : List ℕ) → IsHeaderOf plan header → IsGrown before past → IsGrown now past
    → ReadsEither header before now image → HasThese plan past image
either plan header past before now image inputs more more' (inl reads) = (before, more, inr (header, reads, inputs))
either plan header past before now image inputs more more' (inr reads) = (now, more', inr (header, reads, inputs))

pub returns-clause-later : goal.returns-clause-later
returns-clause-later g c plan header past before now moment earlier later keeps since inputs more more' leave image left = go (leave.before moment image since left)
  where
    go : g.D.Disk.left_since earlier moment image ⊎ ReadsEither header before now image → HasThese plan past image
    go (inl was) = keeps image was
    go (inr reads) = either plan header past before now image inputs more more' reads

pub returns-clause-next_life : goal.returns-clause-next_life
returns-clause-next_life g c disk manager past reads recovered =
    recovered.records
    ∙ ap (λ (l : List Record). Life ∷ l)
    (one_past (plan_of manager) (g.D.Disk.seen disk) recovered.past past (inr (recovered.header, recovered.found, recovered.inputs)) reads)
