-- What a job asks of a cluster, as its launcher is handed it: the variables DAGRUN_REQUEST_* (docs/MANUAL.md, "On a cluster: --launcher").
use Rattle.std.specs.Prelude.{ℕ, List, [], ◌∷◌, ◌++◌, Option, Some, None, Result, Ok, Err, if◌then◌else◌, codes}
use Rattle.vars_macros.specs.Expansion.{Expansion, expansion}
use Rattle.vars_macros.specs.Meaning.{MacroScope, last_macro}
use Rattle.vars_macros.specs.declared.assignment.Macro.{Macro}
use Rattle.vars_macros.specs.declared.fault.MacroFault.{MacroFault}
use Rattle.run_plan_node.specs.Commands.{scope_in}
use Rattle.run_plan_node.specs.Node as plans
use Rattle.run_plan_node.specs.Node.{NodeSpec, Program, Described}

-- A text that can't be expanded, or that holds the launch number, is handed on as it is written: a launcher refuses it as no number.
abbrev pub expanded_or : List ℕ → Result Expansion MacroFault → List ℕ
expanded_or written (Ok e) = if e.whole_run then written else e.text
expanded_or written (Err fault) = written

-- what is assigned to a name, expanded; nothing where nothing is assigned to it
abbrev pub request_in : MacroScope → Option Macro → List ℕ
request_in s None = []
request_in s (Some m) = expanded_or m.value (expansion s m.vars m.value)

abbrev pub request : MacroScope → List ℕ → List ℕ
request s name = request_in s (last_macro s.assigned name)

-- each of the four variables, with what the submit file says of it
unfoldable pub requests_in : MacroScope → List (List ℕ)
requests_in s =
    (codes "DAGRUN_REQUEST_CPUS=" ++ request s (codes "request_cpus"))
    ∷ (codes "DAGRUN_REQUEST_MEMORY=" ++ request s (codes "request_memory"))
    ∷ (codes "DAGRUN_REQUEST_DISK=" ++ request s (codes "request_disk"))
    ∷ (codes "DAGRUN_REQUEST_GPUS=" ++ request s (codes "request_gpus"))
    ∷ []

-- A job without a submit file asks for nothing.
abbrev pub requests_of_job : plans.Job → ℕ → List (List ℕ)
requests_of_job (Program file) attempt = []
requests_of_job (Described name assigned) attempt = requests_in (scope_in name assigned attempt 0)

-- what the job of a node asks for in an attempt
abbrev pub requests_of : NodeSpec → ℕ → List (List ℕ)
requests_of node attempt = requests_of_job node.launch_spec.job attempt
