use Rattle.std.proofs.Common.{subst}
use Rattle.recovery.specs.Replay.{IsReplayFault}
use Rattle.dag_main_inspect.specs.Statused.{reading_had_no_memory}
use Rattle.dag_main_inspect.proofs.StatusFaults.{foreign-fault}
use Rattle.dag_main_inspect.proofs.statuses.core_of.Goals as goal

pub returns-in-Err-Foreign-clause-refused : goal.returns-in-Err-Foreign-clause-refused
returns-in-Err-Foreign-clause-refused c =
    foreign-fault c.args.plan.now c.args.bytes.now c.args.records.now c.in-Err-Foreign.place c.slot_of-slot.result c.requires
    (subst (IsReplayFault c.args.plan.now c.args.records.now) c.in-Err-Foreign.field-0-is c.in-Err-Foreign.ensures.refused) c.slot_of-slot.ensures

pub returns-in-Err : goal.returns-in-Err
returns-in-Err c = record { plan = tt; records = tt; refused = reading_had_no_memory }
