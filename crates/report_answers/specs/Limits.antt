-- How full the limits on what runs at once were.
use Rattle.std.specs.Prelude.{◌≡◌, ℕ, List, Option, Some, None, All, codes}
use Rattle.std.specs.Borrow.{Bor}
use Rattle.dag_graph.specs.Graph.{Network}
use Rattle.run_times.specs.declared.runs.PhaseRun.{PhaseRun}
use Rattle.run_times.specs.declared.limits.Counted.{Counted}
use Rattle.run_times.specs.declared.limits.Counted.TheVariants.{Jobs, PreScripts, PostScripts, JobsOf, Children}
use Rattle.run_times.specs.Limits.{most_counted, IsAllowed}
use Rattle.report_page.specs.declared.values.LimitRow.{LimitRow}

-- what a limit counts, in a word
abbrev pub counted_word : Counted → List ℕ
counted_word Jobs = codes "jobs"
counted_word PreScripts = codes "PRE scripts"
counted_word PostScripts = codes "POST scripts"
counted_word (JobsOf category) = codes "jobs"
counted_word Children = codes "phases"

-- the category whose nodes' jobs it counts, where it counts no others
abbrev pub counted_category : Counted → Option (Bor (List ℕ))
counted_category (JobsOf category) = Some category
counted_category _ = None

-- A row is that of a limit: what it counts, how many it allows, and how many of these phases ran at once, at most, when one of them began.
pub record IsLimitRow (graph : Network) (runs : List PhaseRun) (row : LimitRow) : Type 0 where
  pub counted : Counted
  pub what_is : row.what.now ≡ counted_word counted
  pub category_is : row.category ≡ counted_category counted
  pub allowed : IsAllowed graph counted row.limit
  pub most_is : row.most ≡ most_counted graph counted runs

abbrev pub AreLimitRows : Network → List PhaseRun → List LimitRow → Type 0
AreLimitRows graph runs rows = All (IsLimitRow graph runs) rows
