use Rattle.std.proofs.Common.{◌∙◌, List, ap, sym, subst, Some, None}
use Rattle.std.specs.Option.{option_map}
use Rattle.node_machine.specs.declared.Record.{Record}
use Rattle.event_journal_log.specs.Journal.{Replay}
use Rattle.event_journal_log.specs.Reading.{FailsAs, replay_for}
use Rattle.dag_main_inspect.proofs.StatusFaults.{read-fault, read-records}
use Rattle.dag_main_inspect.proofs.statuses.records_of.Goals as goal

pub returns-in-Ok-Some-clause-ok : goal.returns-in-Ok-Some-clause-ok
returns-in-Ok-Some-clause-ok c =
    read-records c.args.plan.now c.args.bytes.now _ (Some c.in-Ok-Some.records.items) c.digest.result.now c.digest.ensures c.always_post.result c.always_post.ensures c.in-Ok-Some.ensures.gives
    (ap (option_map (λ v. v.items)) c.in-Ok-Some.field-0-is)

pub returns-in-Ok-None-clause-ok : goal.returns-in-Ok-None-clause-ok
returns-in-Ok-None-clause-ok c =
    read-records c.args.plan.now c.args.bytes.now _ None c.digest.result.now c.digest.ensures c.always_post.result c.always_post.ensures c.in-Ok-None.ensures.gives
    (ap (option_map (λ v. v.items)) c.in-Ok-None.field-0-is)
    ∙ ap (λ (rs : List Record). Some rs) (sym c.new.ensures.items)

pub returns-in-Err-clause-refused : goal.returns-in-Err-clause-refused
returns-in-Err-clause-refused c =
    rw (c.in_journal.ensures) (read-fault c.args.plan.now c.args.bytes.now c.in-Err.fault
    (subst (λ (r : Replay). FailsAs c.in-Err.fault r) (λ j. replay_for (c.digest.ensures j) (c.always_post.ensures j) c.args.bytes.now) c.in-Err.ensures.refused))
