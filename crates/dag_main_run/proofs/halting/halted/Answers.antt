use Rattle.std.proofs.Common.{sym, subst}
use Rattle.dag_main_check.specs.declared.fault.RunFault.TheVariants.{Halted}
use Rattle.dag_main_run.specs.Sites.{AsksToHalt, IsHaltBy, for_halt, for_halt_without_memory, halted_by, naming_halt_had_no_memory}
use Rattle.dag_main_run.proofs.Halts.{name-asks}
use Rattle.dag_main_run.proofs.halting.halted.Goals as goal

pub returns-in-Ok : goal.returns-in-Ok
returns-in-Ok c = record {
  returned = for_halt c.in-Ok.asked (subst (AsksToHalt c.args.top.now) (sym c.in-Ok.ensures) (name-asks c.args.top.now c.args.cause));
  named = subst (λ asked. IsHaltBy asked (Halted c.in-Ok.asked)) c.in-Ok.ensures halted_by;
}

pub returns-in-Err : goal.returns-in-Err
returns-in-Err c = record {
  returned = for_halt_without_memory;
  named = naming_halt_had_no_memory;
}
