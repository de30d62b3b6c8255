-- What the code answers of a plan.
use Rattle.std.specs.Prelude.{◌≡◌, ◌⊎◌, Bool, true, false, Option, Some, None, Result}
use Rattle.dag_reader.specs.Results.{Tells, Returns}
use Rattle.run_plan.specs.declared.fault.PlanFault.{PlanFault}
use Rattle.run_plan.specs.declared.fault.PlanFault.TheVariants.{Memory}

-- The fault that a refusal tells; for lack of memory it tells none.
abbrev pub told_fault : PlanFault → Option PlanFault
told_fault Memory = None
told_fault fault = Some fault

-- what a function returned, seen by view, is this answer, unless memory ran out
abbrev pub Fails : {Y : Type 0} → PlanFault → Result Y PlanFault → Type 0
Fails fault answer = Tells (told_fault fault) answer

abbrev pub Gives : {X Y : Type 0} → (X → Y) → Result X PlanFault → Result Y PlanFault → Type 0
Gives view = Returns told_fault view

abbrev pub is_memory : PlanFault → Bool
is_memory Memory = true
is_memory _ = false

-- this fault, unless memory ran out
abbrev pub IsFault : PlanFault → PlanFault → Type 0
IsFault given fault = (given ≡ Memory) ⊎ (given ≡ fault)
