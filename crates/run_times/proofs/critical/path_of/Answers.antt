use Rattle.std.proofs.Common.{◌≡◌, ℕ, suc, ◌<◌, List, [], ◌∷◌, ◌++◌, length, get_or, Option, Some, None, sym, ap, subst, ◌∙◌, append_assoc, append-nil, arith}
use Rattle.std.specs.Prelude.{IfSome}
use Rattle.std.proofs.lemmas.List.{get_or_read}
use Rattle.dag_graph.specs.Graph.{Network}
use Rattle.run_times.specs.declared.runs.PhaseRun.{PhaseRun}
use Rattle.run_times.specs.declared.critical.Waits.{Waits}
use Rattle.run_times.specs.Critical.{WaitsFor, IsChain, chain_end, chain_more, IsLatestOf, IsCriticalPath}
use Rattle.run_times.specs.Waits.{AreWaits}
use Rattle.run_times.proofs.Waiting.{is-earlier}
use Rattle.run_times.proofs.critical.path_of.Invariants.{left}
use Rattle.run_times.proofs.critical.path_of.Goals as goal

module _ (graph : Network) (runs : List PhaseRun) where
  -- the phase for which one waited began before it
  smaller : (place : ℕ) (next before : Option ℕ) → next ≡ Some place → WaitsFor graph runs place before → left before < left next
  smaller place next None is waits = subst (λ (o : Option ℕ). 0 < left o) (sym is) (omega arith)
  smaller place next (Some one) is waits =
      subst (λ (o : Option ℕ). suc one < left o) (sym is) (let low = is-earlier graph runs place one waits in omega (arith, low))

  within : (place : ℕ) (before : Option ℕ) → place < length runs → WaitsFor graph runs place before → IfSome before (λ one. one < length runs)
  within place None inside waits = tt
  within place (Some one) inside waits = let low = is-earlier graph runs place one waits in omega (arith, low, inside)

  longer : (latest next before : Option ℕ) (path new : List ℕ) (place : ℕ) → next ≡ Some place → place < length runs → WaitsFor graph runs place before → new ≡ path ++ place ∷ []
      → ((rest : List ℕ) → IsChain graph runs next rest → IsChain graph runs latest (path ++ rest)) → (rest : List ℕ) → IsChain graph runs before rest → IsChain graph runs latest (new ++ rest)
  longer latest next before path new place is inside waits new_is chain rest more =
      subst (λ (p : List ℕ). IsChain graph runs latest p) (sym (ap (λ (p : List ℕ). p ++ rest) new_is ∙ append_assoc path (place ∷ []) rest))
      (chain (place ∷ rest) (subst (λ (o : Option ℕ). IsChain graph runs o (place ∷ rest)) (sym is) (chain_more place before rest inside waits more)))

  ended : (latest next : Option ℕ) (path : List ℕ) → next ≡ None → IsLatestOf runs (λ place. place < length runs) latest
      → ((rest : List ℕ) → IsChain graph runs next rest → IsChain graph runs latest (path ++ rest)) → IsCriticalPath graph runs path
  ended latest next path is last chain = record {
    latest = latest;
    ended_last = last;
    chain = subst (λ (p : List ℕ). IsChain graph runs latest p) (append-nil path) (chain [] (subst (λ (o : Option ℕ). IsChain graph runs o []) (sym is) chain_end));
  }

  -- for which phase one waited, as it is read
  waited : (waits : Waits) (place : ℕ) (before : Option ℕ) → AreWaits graph runs waits (length runs) → place < length runs → before ≡ get_or waits.before.items place before → WaitsFor graph runs place before
  waited waits place before are inside is =
      subst (λ (o : Option ℕ). WaitsFor graph runs place o) (sym (get_or_read waits.before.items place before (let e = are.each in omega (arith, e, inside)) is None)) (are.befores place inside)

pub loop-next-smaller : goal.loop-next-smaller
loop-next-smaller c =
    let inside : c.in-Some.place < length c.args.runs.now = subst (λ (o : Option ℕ). IfSome o (λ place. place < length c.args.runs.now)) c.in-Some.is c.loop-next.invariant.inside in
    smaller c.args._graph.now c.args.runs.now c.in-Some.place c.loop-next.next c.index-next.result.now c.in-Some.is
    (waited c.args._graph.now c.args.runs.now c.args.waits.now c.in-Some.place c.index-next.result.now c.requires inside c.index-next.ensures)

pub loop-next-preserved : goal.loop-next-preserved
loop-next-preserved c =
    let inside : c.in-Some.place < length c.args.runs.now = subst (λ (o : Option ℕ). IfSome o (λ place. place < length c.args.runs.now)) c.in-Some.is c.loop-next.invariant.inside in
    let waits = waited c.args._graph.now c.args.runs.now c.args.waits.now c.in-Some.place c.index-next.result.now c.requires inside c.index-next.ensures in
    record {
      inside = within c.args._graph.now c.args.runs.now c.in-Some.place c.index-next.result.now inside waits;
      chain = longer c.args._graph.now c.args.runs.now c.args.waits.now.latest c.loop-next.next c.index-next.result.now c.loop-next.path.items c.push.new.self.items c.in-Some.place c.in-Some.is inside
          waits c.in_ok-push.ensures.items c.loop-next.invariant.chain;
    }

pub returns : goal.returns
returns c =
    ended c.args._graph.now c.args.runs.now c.args.waits.now.latest c.loop-next.next c.loop-next.path.items c.in_default.is c.requires.latest c.loop-next.invariant.chain
