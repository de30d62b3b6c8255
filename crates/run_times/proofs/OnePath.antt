-- There is one critical path.
use Rattle.std.proofs.Common.{◌≡◌, ℕ, ◌<◌, List, ◌∷◌, length, Option, Some, None, refl, sym, ap, subst, ◌∙◌, arith}
use Rattle.std.proofs.lemmas.Option.{same_Some, none-some}
use Rattle.dag_graph.specs.Graph.{Network}
use Rattle.run_times.specs.declared.runs.PhaseRun.{PhaseRun}
use Rattle.run_times.specs.Critical.{run_node_at, IsLatestOf, IsLastOf, IsLastOfParent, WaitsFor, for_same, for_parents, for_all, IsChain, chain_end, chain_more, IsCriticalPath}
use Rattle.run_times.proofs.Waiting.{last-one}

-- one of a kind ended last
latest-one : (runs : List PhaseRun) (Of : ℕ → Type 0) (one other : Option ℕ) → IsLatestOf runs Of one → IsLatestOf runs Of other → one ≡ other
latest-one runs Of None None a b = refl
latest-one runs Of None (Some other) a b = absurd (a other b.0)
latest-one runs Of (Some one) None a b = absurd (b one a.0)
latest-one runs Of (Some one) (Some other) a b =
    let low = b.1 one a.0 in
    let high = a.1 other b.0 in
    let left = low.ended in
    let right = high.ended in
    let first = low.same (omega (arith, left, right)) in
    let second = high.same (omega (arith, left, right)) in
    let same : one ≡ other = omega (arith, first, second) in
    ap (λ (k : ℕ). Some k) same

module _ (graph : Network) (runs : List PhaseRun) where
  -- a node that has a phase before a place has none that is not
  some-none : (node place last : ℕ) → IsLastOf graph runs node place (Some last) → IsLastOf graph runs node place None → ⊥
  some-none node place last some none = none last some.0 some.1

  -- the same node, by two ways to say it
  node-one : (place one other : ℕ) → run_node_at graph runs place ≡ Some one → run_node_at graph runs place ≡ Some other → other ≡ one
  node-one place one other a b = same_Some other one (sym b ∙ a)

  waits-one : (place : ℕ) (one other : Option ℕ) → WaitsFor graph runs place one → WaitsFor graph runs place other → one ≡ other
  waits-one place one other (for_same node last at is) second = by other second
    where
      by : (other : Option ℕ) → WaitsFor graph runs place other → Some last ≡ other
      by other (for_same node' last' at' is') =
          last-one graph runs node place (Some last) last' is (subst (λ (n : ℕ). IsLastOf graph runs n place (Some last')) (node-one place node node' at at') is')
      by other (for_parents node' latest at' none best) =
          absurd (some-none node place last is (subst (λ (n : ℕ). IsLastOf graph runs n place None) (node-one place node node' at at') none))
      by other (for_all latest at' best) = absurd (none-some node (sym at' ∙ at))
  waits-one place one other (for_parents node latest at none best) second = by other second
    where
      by : (other : Option ℕ) → WaitsFor graph runs place other → latest ≡ other
      by other (for_same node' last' at' is') =
          absurd (some-none node place last' (subst (λ (n : ℕ). IsLastOf graph runs n place (Some last')) (node-one place node node' at at') is') none)
      by other (for_parents node' latest' at' none' best') =
          latest-one runs (λ last. IsLastOfParent graph runs node place last) latest latest' best
          (subst (λ (n : ℕ). IsLatestOf runs (λ last. IsLastOfParent graph runs n place last) latest') (node-one place node node' at at') best')
      by other (for_all latest' at' best') = absurd (none-some node (sym at' ∙ at))
  waits-one place one other (for_all latest at best) second = by other second
    where
      by : (other : Option ℕ) → WaitsFor graph runs place other → latest ≡ other
      by other (for_same node' last' at' is') = absurd (none-some node' (sym at ∙ at'))
      by other (for_parents node' latest' at' none' best') = absurd (none-some node' (sym at ∙ at'))
      by other (for_all latest' at' best') = latest-one runs (λ k. k < place) latest latest' best best'

  chain-one : (one : Option ℕ) (path : List ℕ) → IsChain graph runs one path → (other : Option ℕ) (path' : List ℕ) → one ≡ other → IsChain graph runs other path' → path ≡ path'
  chain-one one path chain_end other path' same chain_end = refl
  chain-one one path chain_end other path' same (chain_more place before rest inside waits chain) = absurd (none-some place same)
  chain-one one path (chain_more place before rest inside waits chain) other path' same chain_end = absurd (none-some place (sym same))
  chain-one one path (chain_more place before rest inside waits chain) other path' same (chain_more place' before' rest' inside' waits' chain') =
      let here : place ≡ place' = same_Some place place' same in
      let next = waits-one place before before' waits (subst (λ (k : ℕ). WaitsFor graph runs k before') (sym here) waits') in
      let rest_is = chain-one before rest chain before' rest' next chain' in
      λ j. here j ∷ rest_is j

-- there is one critical path
pub path-one : (graph : Network) (runs : List PhaseRun) (one other : List ℕ) → IsCriticalPath graph runs one → IsCriticalPath graph runs other → one ≡ other
path-one graph runs one other a b =
    chain-one graph runs a.latest one a.chain b.latest other (latest-one runs (λ place. place < length runs) a.latest b.latest a.ended_last b.ended_last) b.chain
