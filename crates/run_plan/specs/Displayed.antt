-- How a fault of a plan is displayed: its code, its name and its place.
use Rattle.std.specs.Prelude.{ℕ, List, ◌++◌, codes}
use Rattle.std.specs.Fmt.{decimal}
use Rattle.submit_file.specs.declared.fault.SubmitFault.{SubmitFault}
use Rattle.submit_file.specs.declared.fault.SubmitFault.TheVariants as submit
use Rattle.submit_file.specs.Displayed.{submit_line_fault_name, submit_fault_name}
use Rattle.vars_macros.specs.Displayed.{macro_fault_name}
use Rattle.rescue_file.specs.Displayed.{rescue_fault_name}
use Rattle.run_plan.specs.declared.fault.PlanFault.{PlanFault}
use Rattle.run_plan.specs.declared.fault.PlanFault.TheVariants.{MissingFile, InSubmit, InMacro, NoExecutable, BadUniverse, InRescue, Memory}

-- that of the submit file of a path, with the line where there is one
abbrev pub in_submit_text : List ℕ → SubmitFault → List ℕ
in_submit_text path submit.NotText = submit_fault_name submit.NotText ++ codes " " ++ path
in_submit_text path submit.NoQueue = submit_fault_name submit.NoQueue ++ codes " " ++ path
in_submit_text path (submit.InLine line fault) = submit_line_fault_name fault ++ codes " " ++ path ++ codes ":" ++ decimal line
in_submit_text path submit.Memory = submit_fault_name submit.Memory ++ codes " " ++ path

abbrev pub plan_fault_text : PlanFault → List ℕ
plan_fault_text (MissingFile path) = codes "P1 MissingFile " ++ path
plan_fault_text (InSubmit path fault) = in_submit_text path fault
plan_fault_text (InMacro node fault) = macro_fault_name fault ++ codes " " ++ node
plan_fault_text (NoExecutable node) = codes "P4 NoExecutable " ++ node
plan_fault_text (BadUniverse node) = codes "P5 BadUniverse " ++ node
plan_fault_text (InRescue fault) = rescue_fault_name fault
plan_fault_text Memory = codes "P7 Memory"
