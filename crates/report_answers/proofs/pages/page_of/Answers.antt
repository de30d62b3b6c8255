use Rattle.std.proofs.Common.{ℕ, List, refl, ap, subst, sym, ◌∙◌}
use Rattle.failure_report.specs.Grouped.{HasAllBy}
use Rattle.failure_report.specs.declared.why.Grouping.TheVariants.{ByCause}
use Rattle.report_page.specs.declared.values.Row.{Row}
use Rattle.dag_graph.specs.Graph.{Network}
use Rattle.run_plan.specs.Plan.{Plan}
use Rattle.run_times.specs.declared.runs.PhaseRun.{PhaseRun}
use Rattle.report_answers.specs.Limits.{AreLimitRows}
use Rattle.report_answers.specs.Rows.{AreRows}
use Rattle.report_answers.proofs.Answering.{answered-with}
use Rattle.report_answers.proofs.pages.page_of.Goals as goal

pub returns : goal.returns
returns g c =
    let plan = c.args.core.now.plan in
    let past = c.args.core.now.past in
    answered-with plan past c.args.place.now.top.now c.args.wanted.now.version.now c.args.begun c.args.wanted.now.reloads _ _ _ c.in_ok-text.ensures
    (record {
      path_is = refl;
      version_is = refl;
      at_work = c.is_at_work.result;
      round_is = c.round_of.ensures;
      rows = subst (λ (rows : List Row). AreRows plan past rows) (sym c.as_slice.ensures.value) c.in_ok-rows.ensures;
      runs = c.in_ok-runs.runs.items;
      limits =
          subst (AreLimitRows plan.graph c.in_ok-runs.runs.items) (sym c.as_slice-3.ensures.value)
          (subst (λ (runs : List PhaseRun). AreLimitRows plan.graph runs c.in_ok-limits.limits.items) c.deref-3.ensures.value
          (subst (λ (graph : Network). AreLimitRows graph c.deref-3.result.now c.in_ok-limits.limits.items)
          (c.graph-graph.ensures.is ∙ ap (λ (p : Plan). p.graph) c.plan.ensures) c.in_ok-limits.ensures));
      why = subst (λ (text : List ℕ). HasAllBy ByCause plan past text) (sym c.as_str-2.ensures.value) c.in_ok-why.ensures;
      warnings_are = c.as_str.ensures.value ∙ c.in_ok-warnings.ensures;
      reloads_is = c.loads_anew.ensures;
      digest_is = c.as_str-3.ensures.value ∙ c.in_ok-digest.ensures;
      confirmed_is = c.confirmed_by.ensures;
    })
    c.in_ok-warnings.ensures
