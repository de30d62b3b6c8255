use Rattle.std.proofs.Common.{List, Option, Some, None, ap, subst, sym}
use Rattle.std.specs.Option.{option_map}
use Rattle.node_machine.specs.declared.Record.{Record}
use Rattle.event_journal_log.specs.Image.{replay_of}
use Rattle.event_journal_log.specs.Reading.{ReadsRecords, replay_for}
use Rattle.salvage.specs.Salvaged.{IsReplayOf}
use Rattle.salvage.specs.Refused.{IsUnsalvaged}
use Rattle.salvage.proofs.Records.{records-read}
use Rattle.salvage.proofs.Refusals.{of-this, no-records}
use Rattle.salvage.proofs.rescue.records_in.Goals as goal

pub returns-in-Ok-Some-clause-records : goal.returns-in-Ok-Some-clause-records
returns-in-Ok-Some-clause-records c =
    records-read _ _ c.args.journal.now (Some c.in-Ok-Some.records.items)
    (subst (λ (o : Option (List Record)). ReadsRecords o (replay_for c.digest_in.result c.always_post.result c.args.journal.now))
    (ap (option_map (λ v. v.items)) c.in-Ok-Some.field-0-is) c.in-Ok-Some.ensures.gives)

pub returns-in-Ok-None-clause-records : goal.returns-in-Ok-None-clause-records
returns-in-Ok-None-clause-records c =
    subst (IsReplayOf (replay_of c.args.journal.now)) (sym c.new.ensures.items)
    (records-read _ _ c.args.journal.now None
    (subst (λ (o : Option (List Record)). ReadsRecords o (replay_for c.digest_in.result c.always_post.result c.args.journal.now))
    (ap (option_map (λ v. v.items)) c.in-Ok-None.field-0-is) c.in-Ok-None.ensures.gives))

pub returns-in-Err-clause-refused : goal.returns-in-Err-clause-refused
returns-in-Err-clause-refused c =
    subst (IsUnsalvaged c.args.plan.now c.args.journal.now) (sym c.read_fault.ensures)
    (no-records c.args.plan.now c.args.journal.now c.digest_in.result c.always_post.result c.always_post.ensures
    (of-this c.digest_in.result c.args.journal.now c.digest_in.ensures) c.in-Err.fault c.in-Err.ensures.refused)
