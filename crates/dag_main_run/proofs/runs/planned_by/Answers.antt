use Rattle.std.proofs.Common.{◌≡◌, ◌∙◌, ℕ, List, [], Option, refl, sym, subst, append-nil}
use Rattle.splices_flat.specs.FileSet.{bytes_of, entries_of}
use Rattle.dag_main_check.specs.Planned.{IsPlanBy}
use Rattle.dag_main_run.specs.RunChanges.{not_locked}
use Rattle.dag_main_files.specs.Beside.{IsRescueOf}
use Rattle.dag_main_files.proofs.RunFaults.{by-fault}
use Rattle.dag_main_run.specs.Runs.{any_round, held_round, IsRunFaultWhere, no_graph, not_found, no_plan}
use Rattle.dag_main_run.proofs.runs.planned_by.Goals as goal

pub returns-in_err-graph-clause-refused : goal.returns-in_err-graph-clause-refused
returns-in_err-graph-clause-refused g c =
    by-fault (IsRunFaultWhere bytes_of (λ set. set ≡ c.args.files.now) (any_round c.args.place.now.top.now c.args.options.now) _ c.args.place.now.top.now c.args.options.now) c.in_err-graph.field-0.0 (no_graph c.args.files.now c.in_err-graph.field-0.0 refl c.in_err-graph.ensures.refused) c.from_residual.result c.from_residual.ensures.1

pub returns-in_err-graph-clause-refused_held : goal.returns-in_err-graph-clause-refused_held
returns-in_err-graph-clause-refused_held g c = λ honest.
    by-fault (IsRunFaultWhere bytes_of (λ set. set ≡ c.args.files.now) (held_round (g.H.Folder.holds c.args.site.now) (g.H.Folder.has c.args.site.now) c.args.place.now.top.now c.args.options.now) _ c.args.place.now.top.now c.args.options.now) c.in_err-graph.field-0.0 (no_graph c.args.files.now c.in_err-graph.field-0.0 refl c.in_err-graph.ensures.refused) c.from_residual.result c.from_residual.ensures.1

pub returns-in_err-found-clause-refused : goal.returns-in_err-found-clause-refused
returns-in_err-found-clause-refused g c =
    by-fault (IsRunFaultWhere bytes_of (λ set. set ≡ c.args.files.now) (any_round c.args.place.now.top.now c.args.options.now) _ c.args.place.now.top.now c.args.options.now) c.in_err-found.field-0.0 (not_found c.args.files.now c.in_ok-graph.graph c.in_err-found.field-0.0 refl c.in_ok-graph.ensures.graph c.in_err-found.ensures.refused) c.from_residual-in_err-found.result c.from_residual-in_err-found.ensures.1

pub returns-in_err-found-clause-refused_held : goal.returns-in_err-found-clause-refused_held
returns-in_err-found-clause-refused_held g c = λ honest.
    by-fault (IsRunFaultWhere bytes_of (λ set. set ≡ c.args.files.now) (held_round (g.H.Folder.holds c.args.site.now) (g.H.Folder.has c.args.site.now) c.args.place.now.top.now c.args.options.now) _ c.args.place.now.top.now c.args.options.now) c.in_err-found.field-0.0 (not_found c.args.files.now c.in_ok-graph.graph c.in_err-found.field-0.0 refl c.in_ok-graph.ensures.graph (c.in_err-found.ensures.refused_held honest)) c.from_residual-in_err-found.result c.from_residual-in_err-found.ensures.1

pub returns-in_err-plan-clause-refused : goal.returns-in_err-plan-clause-refused
returns-in_err-plan-clause-refused g c =
    by-fault (IsRunFaultWhere bytes_of (λ set. set ≡ c.args.files.now) (any_round c.args.place.now.top.now c.args.options.now) _ c.args.place.now.top.now c.args.options.now) c.in_err-plan.field-0.0 (no_plan c.args.files.now c.in_ok-graph.graph c.in_ok-found.found.0 _ c.in_err-plan.field-0.0 refl c.in_ok-graph.ensures.graph c.in_ok-found.ensures.found.by_options (subst (IsRescueOf c.in_ok-found.found.0) (sym c.as_deref.ensures.value) c.in_ok-found.ensures.found.rescue_is) c.in_err-plan.ensures.refused) c.from_residual-in_err-plan.result c.from_residual-in_err-plan.ensures.1

pub returns-in_err-plan-clause-refused_held : goal.returns-in_err-plan-clause-refused_held
returns-in_err-plan-clause-refused_held g c = λ honest.
    by-fault (IsRunFaultWhere bytes_of (λ set. set ≡ c.args.files.now) (held_round (g.H.Folder.holds c.args.site.now) (g.H.Folder.has c.args.site.now) c.args.place.now.top.now c.args.options.now) _ c.args.place.now.top.now c.args.options.now) c.in_err-plan.field-0.0 (no_plan c.args.files.now c.in_ok-graph.graph c.in_ok-found.found.0 _ c.in_err-plan.field-0.0 refl c.in_ok-graph.ensures.graph (c.in_ok-found.ensures.found.held honest).0 (c.as_deref.ensures.value ∙ (c.in_ok-found.ensures.found.held honest).1) c.in_err-plan.ensures.refused) c.from_residual-in_err-plan.result c.from_residual-in_err-plan.ensures.1

pub returns-clause-planned : goal.returns-clause-planned
returns-clause-planned g c =
    let round = c.in_ok-found.found.0 in record {
      graph = c.in_ok-graph.graph;
      is_graph = c.in_ok-graph.ensures.graph;
      by_options = c.in_ok-found.ensures.found.by_options;
      rescue_is = c.in_ok-found.ensures.found.rescue_is;
      found = λ honest. let held = c.in_ok-found.ensures.found.held honest in (c.requires.read honest, held.0, held.1);
      planned = subst (λ (r : Option (List ℕ)). IsPlanBy round.always_post (bytes_of c.args.files.now) (entries_of c.args.files.now) r c.in_ok-graph.graph c.in_ok-plan.plan)
          c.as_deref.ensures.value c.in_ok-plan.ensures.by_rescue;
    }

pub returns-in_err-graph-clause-changes : goal.returns-in_err-graph-clause-changes
returns-in_err-graph-clause-changes g c = ([], not_locked, sym (append-nil c.args.changes.now))

pub returns-in_err-found-clause-changes : goal.returns-in_err-found-clause-changes
returns-in_err-found-clause-changes g c = c.in_err-found.ensures.changes

pub returns-in_err-plan-clause-changes : goal.returns-in_err-plan-clause-changes
returns-in_err-plan-clause-changes g c = c.in_ok-found.ensures.changes

pub returns-clause-changes : goal.returns-clause-changes
returns-clause-changes g c = c.in_ok-found.ensures.changes
