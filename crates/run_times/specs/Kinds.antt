-- The kinds of phases that took longest.
use Rattle.std.specs.Prelude.{◌≡◌, ℕ, ◌<◌, ◌≤◌, Bool, true, false, nat_le, List, take, length, position, Option, Some, None, slice_get, sum_by, count_by, codes, ◌⊎◌, if◌then◌else◌}
use Rattle.std.specs.List.{list_any}
use denote.Ref.{Bor}
use Rattle.std.specs.Str.{bytes_eq}
use Rattle.node_machine.specs.declared.Phase.{Phase}
use Rattle.node_machine.specs.declared.Phase.TheVariants.{Pre, Job, Post}
use Rattle.splices_flat.specs.declared.flat.FlatNode.{FlatNode}
use Rattle.splices_flat.specs.Dag.{Dag}
use Rattle.dag_graph.specs.Graph.{Network, names_of}
use Rattle.run_times.specs.declared.runs.PhaseRun.{PhaseRun}
use Rattle.run_times.specs.declared.kinds.Total.{Total}
use Rattle.run_times.specs.declared.kinds.Kind.{Kind}
use Rattle.run_times.specs.declared.kinds.TheConstants.{MOST}
use Rattle.run_times.specs.Canvas.{within}

-- the submit file of a node; FINAL has the number after those of the ordinary nodes
abbrev pub file_in : Option FlatNode → Option FlatNode → List ℕ
file_in (Some node) final = node.file
file_in None (Some final) = final.file
file_in None None = codes "unknown nodes"

abbrev pub file_of : Dag → Option ℕ → List ℕ
file_of dag (Some number) = file_in (slice_get dag.nodes number) dag.final_node
file_of dag None = codes "unknown nodes"

-- what a phase of a kind is called: a script of a node, or the submit file of its job
abbrev pub kind_in : Phase → List ℕ → List ℕ
kind_in Pre file = codes "PRE scripts"
kind_in Job file = file
kind_in Post file = codes "POST scripts"

unfoldable pub kind_of : Network → PhaseRun → List ℕ
kind_of graph run = kind_in run.phase (file_of graph.dag (position (bytes_eq run.node.now) (names_of graph.dag)))

-- how many phases are of a kind, and how long they took
abbrev pub is_of_kind : Network → List ℕ → PhaseRun → Bool
is_of_kind graph kind run = bytes_eq (kind_of graph run) kind

abbrev pub took_as : Network → List ℕ → PhaseRun → ℕ
took_as graph kind run = if is_of_kind graph kind run then run.took else 0

abbrev pub total_of : Network → List PhaseRun → List ℕ → Total
total_of graph runs kind = record { count = within (count_by (is_of_kind graph kind) runs); took = within (sum_by (took_as graph kind) runs) }

-- a kind is among these
abbrev pub is_kind_among : List Kind → List ℕ → Bool
is_kind_among kinds name = list_any (λ kind. bytes_eq kind.name.now name) kinds

-- Of the kinds of the first phases, as many, this is none of these, and took longer than each other one that is none of these; of those that took as long it comes first.
pub record IsLongest (graph : Network) (runs : List PhaseRun) (count : ℕ) (kinds : List Kind) (kind : Kind) : Type 0 where
  pub is_new : is_kind_among kinds kind.name.now ≡ false
  pub total_is : kind.total ≡ total_of graph runs kind.name.now
  pub place : ℕ
  pub inside : place < count
  pub run : PhaseRun
  pub there : slice_get runs place ≡ Some run
  pub name_is : kind.name.now ≡ kind_of graph run
  pub longest : (i : ℕ) (other : PhaseRun) → i < count → slice_get runs i ≡ Some other → is_kind_among kinds (kind_of graph other) ≡ false
      → (total_of graph runs (kind_of graph other)).took ≤ kind.total.took
  pub first : (i : ℕ) (other : PhaseRun) → i < place → slice_get runs i ≡ Some other → is_kind_among kinds (kind_of graph other) ≡ false
      → (total_of graph runs (kind_of graph other)).took < kind.total.took

-- the longest kind besides these; none, where these are all
abbrev pub IsLongestBesides : Network → List PhaseRun → ℕ → List Kind → Option Kind → Type 0
IsLongestBesides graph runs count kinds (Some kind) = IsLongest graph runs count kinds kind
IsLongestBesides graph runs count kinds None = (i : ℕ) (other : PhaseRun) → i < count → slice_get runs i ≡ Some other → is_kind_among kinds (kind_of graph other) ≡ true

-- the kinds that took longest, the longest first: each is the longest besides those before it; so many of them, or all
pub record AreLongest (graph : Network) (runs : List PhaseRun) (kinds : List Kind) : Type 0 where
  pub are : (i : ℕ) (kind : Kind) → slice_get kinds i ≡ Some kind → IsLongest graph runs (length runs) (take i kinds) kind
  pub all : (length kinds ≡ MOST) ⊎ IsLongestBesides graph runs (length runs) kinds None

-- the one of two kinds that took longer; of two that took as long the first
abbrev pub longer_of : Option Kind → Kind → Kind
longer_of (Some kind) other = if nat_le other.total.took kind.total.took then kind else other
longer_of None other = other

-- the same, unless the second is among some kinds
abbrev pub longest_with : List Kind → Option Kind → Bor (List ℕ) → Total → Option Kind
longest_with kinds longest name total = if is_kind_among kinds name.now then longest else Some (longer_of longest (record { name = name; total = total }))
