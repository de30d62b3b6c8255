use Rattle.std.proofs.Common.{◌≡◌, ◌∙◌, sym, subst}
use Rattle.dag_main_check.specs.declared.fault.RunFault.TheVariants.{StartMemory, WaitFault, Memory}
use Rattle.job_starter_drive.specs.declared.driving.DriveFault.{DriveFault}
use Rattle.job_starter_drive.specs.declared.driving.DriveFault.TheVariants as drives
use Rattle.recovery_manager.specs.declared.fault.ManagerFault.{ManagerFault}
use Rattle.dag_main_run.specs.Sites.{IsReturned, for_memory, for_manager, for_memory_of_child, for_wait}
use Rattle.dag_main_run.proofs.runs.in_run.Goals as goal

-- it is one cause alone
isnt-memory : drives.Memory ≡ drives.Halted → ⊥
isnt-memory same = cc

isnt-manager : (fault : ManagerFault) → drives.Manager fault ≡ drives.Halted → ⊥
isnt-manager fault same = cc

isnt-start : drives.StartMemory ≡ drives.Halted → ⊥
isnt-start same = cc

isnt-wait : drives.WaitFault ≡ drives.Halted → ⊥
isnt-wait same = cc

pub returns-in-Memory : goal.returns-in-Memory
returns-in-Memory c = record {
  returned = subst (λ (cause : DriveFault). IsReturned c.args.top.now cause Memory) (sym c.in-Memory.is) for_memory;
  halted = λ same. absurd (isnt-memory (sym c.in-Memory.is ∙ same));
}

pub returns-in-Manager : goal.returns-in-Manager
returns-in-Manager c = record {
  returned = subst (λ (cause : DriveFault). IsReturned c.args.top.now cause c.in_manager.result) (sym c.in-Manager.is)
      (subst (IsReturned c.args.top.now (drives.Manager c.in-Manager.fault)) (sym c.in_manager.ensures) (for_manager c.in-Manager.fault));
  halted = λ same. absurd (isnt-manager c.in-Manager.fault (sym c.in-Manager.is ∙ same));
}

pub returns-in-StartMemory : goal.returns-in-StartMemory
returns-in-StartMemory c = record {
  returned = subst (λ (cause : DriveFault). IsReturned c.args.top.now cause StartMemory) (sym c.in-StartMemory.is) for_memory_of_child;
  halted = λ same. absurd (isnt-start (sym c.in-StartMemory.is ∙ same));
}

pub returns-in-WaitFault : goal.returns-in-WaitFault
returns-in-WaitFault c = record {
  returned = subst (λ (cause : DriveFault). IsReturned c.args.top.now cause WaitFault) (sym c.in-WaitFault.is) for_wait;
  halted = λ same. absurd (isnt-wait (sym c.in-WaitFault.is ∙ same));
}

pub returns-in-Halted : goal.returns-in-Halted
returns-in-Halted c = record {
  returned = subst (λ (cause : DriveFault). IsReturned c.args.top.now cause c.halted.result) (sym c.in-Halted.is) c.halted.ensures.returned;
  halted = λ same. c.halted.ensures.named;
}
