-- The parts of the critical path sum to the time that the run took.
use Rattle.std.proofs.Common.{◌≡◌, ℕ, zero, suc, ◌+◌, ◌<◌, ◌≤◌, ◌⊎◌, inl, inr, List, length, Option, ap, ◌∙◌, arith}
use Rattle.std.proofs.lemmas.Bool.{cases_eq}
use Rattle.dag_graph.specs.Graph.{Network}
use Rattle.run_times.specs.declared.runs.PhaseRun.{PhaseRun}
use Rattle.run_times.specs.Canvas.{latest_end}
use Rattle.run_times.specs.Critical.{run_end_at, IsLatestOf, IsChain, chain_end, chain_more, IsCriticalPath}
use Rattle.run_times.specs.Parts.{end_of_rest, waited_in, lasted_in, early_in, PartsAreWhole}

module _ (runs : List PhaseRun) where
  -- none of the first phases ended later than a moment
  latest-below : (n end : ℕ) → ((k : ℕ) → k < n → run_end_at runs k ≤ end) → latest_end runs n ≤ end
  latest-below zero end all = omega arith
  latest-below (suc n) end all =
      let rest = latest-below n end (λ k low. all k (omega (arith, low))) in
      let last = all n (omega arith) in
      omega (arith, rest, last)

  -- each of the first phases ended no later than the latest of them
  latest-above : (n k : ℕ) → k < n → run_end_at runs k ≤ latest_end runs n
  latest-above zero k low = absurd (omega (arith, low))
  latest-above (suc n) k low = by (λ less. latest-above n k less) (cases_eq k n)
    where
      by : (k < n → run_end_at runs k ≤ latest_end runs n) → (k ≡ n) ⊎ (k ≡ n → ⊥) → run_end_at runs k ≤ latest_end runs (suc n)
      by before (inl same) = let e = ap (run_end_at runs) same in omega (arith, e)
      by before (inr differs) = let rest = before (omega (arith, low, differs)) in omega (arith, rest)

  -- the path begins with a phase that ended last
  ends-last : (graph : Network) (latest : Option ℕ) (path : List ℕ) → IsLatestOf runs (λ place. place < length runs) latest → IsChain graph runs latest path → end_of_rest runs path ≡ latest_end runs (length runs)
  ends-last graph latest path none chain_end = let low = latest-below (length runs) 0 (λ k inside. absurd (none k inside)) in omega (arith, low)
  ends-last graph latest path best (chain_more place before rest inside waits chain) =
      let low = latest-below (length runs) (run_end_at runs place) (λ k there. (best.1 k there).ended) in
      let high = latest-above (length runs) place inside in
      omega (arith, low, high)

  pub parts-are-whole : (graph : Network) (path : List ℕ) → IsCriticalPath graph runs path → waited_in runs path + lasted_in runs path ≡ end_of_rest runs path + early_in runs path → PartsAreWhole runs path
  parts-are-whole graph path is whole = whole ∙ ap (λ (end : ℕ). end + early_in runs path) (ends-last graph is.latest path is.ended_last is.chain)
