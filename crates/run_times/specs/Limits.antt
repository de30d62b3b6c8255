-- Limits on how many phases run at once: which phases each counts, how many of these ran, and which limit held a phase back.
use Rattle.std.specs.Prelude.{◌≡◌, ℕ, Bool, true, false, ◌&&◌, nat_le, nat_lt, List, filter, find, count_by, length, Option, Some, None, slice_get, All}
use Rattle.std.specs.Str.{bytes_eq}
use Rattle.node_machine.specs.declared.Phase.{Phase}
use Rattle.node_machine.specs.declared.Phase.TheVariants.{Pre, Job, Post}
use Rattle.splices_flat.specs.declared.flat.FlatNode.{FlatNode}
use Rattle.splices_flat.specs.declared.flat.CategorySetting.{CategorySetting}
use Rattle.splices_flat.specs.declared.flat.CategoryLimit.{CategoryLimit}
use Rattle.dag_graph.specs.Graph.{Network}
use Rattle.run_times.specs.declared.runs.PhaseRun.{PhaseRun}
use Rattle.run_times.specs.declared.limits.Counted.{Counted}
use Rattle.run_times.specs.declared.limits.Counted.TheVariants.{Jobs, PreScripts, PostScripts, JobsOf, Children}
use Rattle.run_times.specs.declared.limits.Limit.{Limit}
use Rattle.run_times.specs.Critical.{run_node_of}
use Rattle.run_times.specs.Slots.{run_end}
use Rattle.run_times.specs.Load.{most_running}

-- a setting is that of a category of this name
abbrev pub is_category_named : List ℕ → Option CategorySetting → Bool
is_category_named name None = false
is_category_named name (Some setting) = bytes_eq setting.name name

-- the ordinary node of this number, if there is one, is in the category of this name
abbrev pub node_is_in : Option FlatNode → List ℕ → Bool
node_is_in None name = false
node_is_in (Some node) name = is_category_named name node.settings.category

abbrev pub is_number_in : Network → Option ℕ → List ℕ → Bool
is_number_in graph None name = false
is_number_in graph (Some number) name = node_is_in (slice_get graph.dag.nodes number) name

-- the node of a phase is in a category
abbrev pub is_in_category : Network → PhaseRun → List ℕ → Bool
is_in_category graph run name = is_number_in graph (run_node_of graph run) name

-- a limit counts a phase: one on jobs, on PRE scripts or on POST scripts those, one on a category the jobs of its nodes, and one on children all
abbrev pub counts_phase : Counted → Phase → (IsIn : List ℕ → Bool) → Bool
counts_phase Jobs Job IsIn = true
counts_phase PreScripts Pre IsIn = true
counts_phase PostScripts Post IsIn = true
counts_phase (JobsOf category) Job IsIn = IsIn category.now
counts_phase Children phase IsIn = true
counts_phase _ _ IsIn = false

abbrev pub counts_run : Network → Counted → PhaseRun → Bool
counts_run graph counted run = counts_phase counted run.phase (is_in_category graph run)

-- how many of the phases that a limit counts ran at once, at most, when one of them began
abbrev pub most_of : List PhaseRun → ℕ
most_of runs = most_running runs (length runs)

abbrev pub most_counted : Network → Counted → List PhaseRun → ℕ
most_counted graph counted runs = most_of (filter (counts_run graph counted) runs)

-- A category is one of those for which the files have a limit, and this is the limit. Of another limit no more is said: the log has it.
pub record HasLimit (graph : Network) (category : List ℕ) (limit : ℕ) : Type 0 where
  pub place : ℕ
  pub entry : CategoryLimit
  pub there : slice_get graph.dag.categories place ≡ Some entry
  pub named : entry.name ≡ category
  pub allows : entry.limit ≡ limit

abbrev pub IsAllowed : Network → Counted → ℕ → Type 0
IsAllowed graph (JobsOf category) limit = HasLimit graph category.now limit
IsAllowed graph _ limit = Unit {0}

abbrev pub AreRoundLimits : Network → List Limit → Type 0
AreRoundLimits graph limits = All (λ limit. IsAllowed graph limit.counted limit.most) limits

-- a phase runs at a moment, and is one that a limit counts
abbrev pub runs_as : Network → Counted → ℕ → PhaseRun → Bool
runs_as graph counted time run = counts_run graph counted run && nat_le run.begun time && nat_lt time (run_end run)

-- a limit holds a phase back that it counts, where it is full once the phase has begun
abbrev pub holds_run : Network → List PhaseRun → PhaseRun → Limit → Bool
holds_run graph runs run limit =
    counts_run graph limit.counted run && nat_le limit.most (count_by (runs_as graph limit.counted run.begun) runs)

-- the first limit that held a phase back, if one did
abbrev pub holder_of : Network → List PhaseRun → List Limit → Option PhaseRun → Option Limit
holder_of graph runs limits (Some run) = find (holds_run graph runs run) limits
holder_of graph runs limits None = None
