-- What the code answers of a job.
use Rattle.std.specs.Prelude.{Option, Some, None, Result}
use Rattle.dag_reader.specs.Results.{Tells, Returns}
use Rattle.vars_macros.specs.declared.fault.MacroFault.{MacroFault}
use Rattle.vars_macros.specs.declared.fault.MacroFault.TheVariants as macro
use Rattle.run_plan_node.specs.declared.job.JobFault.{JobFault}
use Rattle.run_plan_node.specs.declared.job.JobFault.TheVariants.{Memory, InMacro}

abbrev pub job_fault : MacroFault → JobFault
job_fault macro.Memory = Memory
job_fault macro.Unclosed = InMacro macro.Unclosed
job_fault macro.Loop = InMacro macro.Loop
job_fault macro.TooLong = InMacro macro.TooLong
job_fault macro.BadQuote = InMacro macro.BadQuote
job_fault macro.BadReference = InMacro macro.BadReference

-- The fault that a refusal reports; for lack of memory it reports none.
abbrev pub told_fault : JobFault → Option JobFault
told_fault Memory = None
told_fault fault = Some fault

-- what a function returned, seen by view, is this answer, unless memory ran out
abbrev pub Fails : {Y : Type 0} → JobFault → Result Y JobFault → Type 0
Fails fault answer = Tells (told_fault fault) answer

abbrev pub Gives : {X Y : Type 0} → (X → Y) → Result X JobFault → Result Y JobFault → Type 0
Gives view = Returns told_fault view
