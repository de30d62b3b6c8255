-- What a name stands for.
use Rattle.std.specs.Prelude.{ℕ, Bool, true, false, ◌||◌, ◌&&◌, List, [], ◌∷◌, Option, Some, None, is_none, unwrap_or, if◌then◌else◌, codes, decimal}
use Rattle.vars_macros.specs.Names.{same_name}
use Rattle.vars_macros.specs.declared.assignment.Macro.{Macro}
use Rattle.vars_macros.specs.declared.expanding.Attempt.{Attempt}

-- What the names of a node stand for: its name, and its assignments in the order in which they count.
pub record NodeMacros : Type 0 where
  pub job : List ℕ
  pub assigned : List Macro

-- the assignments in order, and the texts of the names that need none
pub record MacroScope : Type 0 where
  pub assigned : List Macro
  pub job : List ℕ
  pub retry : List ℕ
  pub launch : List ℕ

abbrev pub scope_of : NodeMacros → Attempt → MacroScope
scope_of m a = record { assigned = m.assigned; job = m.job; retry = decimal a.retry; launch = decimal a.launch }

-- A name stands for a text that is written as it is (whole says that it is known in a whole run alone), or for a text
-- that is expanded (vars says that it is from a VARS line).
pub data Meaning : Type 0 where
  Fixed : Bool → List ℕ → Meaning
  Value : Bool → List ℕ → Meaning

-- the last assignment of the name
abbrev pub last_from : Option Macro → List Macro → List ℕ → Option Macro
last_from found [] name = found
last_from found (m ∷ ms) name = last_from (if same_name m.name name then Some m else found) ms name

abbrev pub last_macro : List Macro → List ℕ → Option Macro
last_macro ms name = last_from None ms name

abbrev pub is_launch_macro : List ℕ → Bool
is_launch_macro name = same_name name (codes "Cluster") || same_name name (codes "ClusterId")

abbrev pub is_process : List ℕ → Bool
is_process name = same_name name (codes "Process") || same_name name (codes "ProcId")

-- the texts that are there without an assignment, or the default
abbrev pub unassigned : MacroScope → Bool → List ℕ → Option (List ℕ) → Meaning
unassigned s vars name default =
    if same_name name (codes "JOB") then Fixed false s.job
    else if same_name name (codes "RETRY") then Fixed false s.retry
    else Value vars (unwrap_or default [])

-- the assignment's text
abbrev pub assigned_or : Option Macro → Meaning → Meaning
assigned_or None other = other
assigned_or (Some m) other = Value m.vars m.value

-- what is assigned, or is there without an assignment
abbrev pub ordinary : MacroScope → Bool → List ℕ → Option (List ℕ) → Meaning
ordinary s vars name default = assigned_or (last_macro s.assigned name) (unassigned s vars name default)

-- In a text of a VARS line JOB and RETRY without a default are the node's, whatever is assigned.
unfoldable pub stands_for : MacroScope → Bool → List ℕ → Option (List ℕ) → Meaning
stands_for s vars name default =
    if is_launch_macro name then Fixed true s.launch
    else if is_process name then Fixed false (codes "0")
    else if vars && (is_none default && same_name name (codes "JOB")) then Fixed false s.job
    else if vars && (is_none default && same_name name (codes "RETRY")) then Fixed false s.retry
    else ordinary s vars name default
