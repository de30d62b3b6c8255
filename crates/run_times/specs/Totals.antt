-- A table of the totals of kinds.
use Rattle.std.specs.Prelude.{◌≡◌, ℕ, ◌+◌, List, unwrap_or}
use Rattle.std.specs.declared.hash.FoldHasher.{FoldHasher}
use Rattle.std.specs.declared.hash.BuildHasherDefault.{BuildHasherDefault}
use Rattle.std.specs.HashMap.{HashMap, get_by}
use Rattle.std.specs.Str.{bytes_eq}
use denote.Ref.{Bor}
use Rattle.dag_graph.specs.Graph.{Network}
use Rattle.run_times.specs.declared.runs.PhaseRun.{PhaseRun}
use Rattle.run_times.specs.declared.kinds.Total.{Total}
use Rattle.run_times.specs.Canvas.{within}
use Rattle.run_times.specs.Kinds.{total_of}

-- a table of totals by the names of kinds
abbrev pub Totals : Type 0
Totals = HashMap (Bor (List ℕ)) Total (BuildHasherDefault FoldHasher)

-- the total of a kind
abbrev pub total_in : Totals → List ℕ → Total
total_in totals kind = unwrap_or (get_by (λ key. bytes_eq kind key.now) totals) (record { count = 0; took = 0 })

-- a total once a phase more took so long
abbrev pub with_phase : Total → ℕ → Total
with_phase total took = record { count = within (total.count + 1); took = within (total.took + took) }

-- a table has the totals of all kinds
abbrev pub AreTotals : Network → List PhaseRun → Totals → Type 0
AreTotals graph runs totals = (kind : List ℕ) → total_in totals kind ≡ total_of graph runs kind
