use Rattle.std.proofs.Common.{◌≡◌, ℕ, ◌==◌, Bool, false, cond, List, [], ◌++◌, length, codes, string_bytes, refl, sym, ap, subst, ◌∙◌}
use Rattle.std.specs.Prelude.{max}
use Rattle.run_times.specs.declared.runs.PhaseRun.{PhaseRun}
use Rattle.run_times.specs.declared.kinds.Kind.{Kind}
use Rattle.run_times.specs.declared.summary.Figures.{Figures}
use Rattle.run_times.specs.Canvas.{within, latest_end}
use Rattle.run_times.specs.Parts.{lasted_in}
use Rattle.run_times.specs.Load.{most_running}
use Rattle.run_times.specs.Kinds.{AreLongest}
use Rattle.run_times.specs.Soonest.{IsSoonest}
use Rattle.run_times.specs.declared.limits.Limit.{Limit}
use Rattle.run_times.specs.declared.gains.Gain.{Gain}
use Rattle.dag_graph.specs.Graph.{Network}
use Rattle.run_times.specs.Summary.{busy_in, figures_of, summary_opening, lists_text, summary_text_of}
use Rattle.run_times.proofs.Whole.{parts-are-whole}
use Rattle.run_times.proofs.summary.summary_text.Goals as goal

-- the text, by what was read and written
text-is : (graph : Network) (limits : List Limit) (runs : List PhaseRun) (path : List ℕ) (kinds seen : List Kind) (gains shown : List Gain) (figures : Figures) (raw : ℕ) (old opened new : List ℕ) → figures.took ≡ latest_end runs (length runs)
    → figures.lasted ≡ within (lasted_in runs path) → figures.busy ≡ busy_in runs → figures.count ≡ length runs → raw ≡ most_running runs (length runs) → figures.most ≡ max raw 1
    → old ≡ [] → shown ≡ gains → opened ≡ old ++ summary_opening figures shown → seen ≡ kinds → new ≡ opened ++ lists_text graph limits runs path seen → (length runs == 0) ≡ false
    → new ≡ summary_text_of graph limits runs path kinds figures.soonest gains
text-is graph limits runs path kinds seen gains shown figures raw old opened new took lasted busy count raw_is most old_is shown_is opened_is seen_is new_is some =
    let are : figures ≡ figures_of runs path figures.soonest
    = λ j. record { took = took j; lasted = lasted j; busy = busy j; count = count j; most = (most ∙ ap (λ (n : ℕ). max n 1) raw_is) j; soonest = figures.soonest } in
    let text : new ≡ summary_opening (figures_of runs path figures.soonest) gains ++ lists_text graph limits runs path kinds
    = new_is ∙ (λ j. (opened_is ∙ (λ i. old_is i ++ summary_opening (are i) (shown_is i))) j ++ lists_text graph limits runs path (seen_is j)) in
    text ∙ sym (ap (λ (b : Bool). cond b (codes "no phase was run\n") (summary_opening (figures_of runs path figures.soonest) gains ++ lists_text graph limits runs path kinds)) some)

pub returns : goal.returns
returns c =
    let graph = c.args.round.now.plan.now.graph in
    let seen_is = c.graph-graph.ensures.is in
    record {
      whole = parts-are-whole c.args.round.now.runs.now graph c.args.path.now c.requires.path c.lasted_in.ensures.whole;
      kinds = c.in_ok-kinds.kinds.items;
      longest = subst (λ (n : Network). AreLongest n c.args.round.now.runs.now c.in_ok-kinds.kinds.items) seen_is c.in_ok-kinds.ensures;
      soonest = c.in_ok-time_without_limits.field-0;
      is_soonest = subst (λ (n : Network). IsSoonest n c.args.round.now.runs.now c.in_ok-time_without_limits.field-0) seen_is c.in_ok-time_without_limits.ensures;
      limits = c.args.round.now.limits.now;
      are_limits = c.requires.limits;
      gains = c.in_ok-gains.gains.items;
      gained = c.in_ok-gains.ensures;
      text_is =
          subst (λ (n : Network). string_bytes c.push_lists.new.text ≡ summary_text_of n c.args.round.now.limits.now c.args.round.now.runs.now c.args.path.now c.in_ok-kinds.kinds.items c.in_ok-time_without_limits.field-0 c.in_ok-gains.gains.items) seen_is
          (text-is c.graph-graph.result.now c.args.round.now.limits.now c.args.round.now.runs.now c.args.path.now c.in_ok-kinds.kinds.items c.deref-2.result.now c.in_ok-gains.gains.items c.deref.result.now
          (record {
            took = c.latest_end.result;
            lasted = c.lasted_in.result;
            busy = c.busy_in.result;
            count = length c.args.round.now.runs.now;
            most = c.max.result;
            soonest = c.in_ok-time_without_limits.field-0;
          })
          c.in_ok-most_running.field-0 (string_bytes c.new-text.result) (string_bytes c.push_opening.new.text) (string_bytes c.push_lists.new.text) c.latest_end.ensures c.lasted_in.ensures.is
          c.busy_in.ensures refl c.in_ok-most_running.ensures c.max.ensures c.new-text.ensures.bytes c.deref.ensures.value c.in_ok-push_opening.ensures c.deref-2.ensures.value c.in_ok-push_lists.ensures
          (sym c.is_empty.ensures ∙ c.if-is_empty.false));
    }

pub returns-then-is_empty : goal.returns-then-is_empty
returns-then-is_empty c =
    let graph = c.args.round.now.plan.now.graph in
    let runs = c.args.round.now.runs.now in
    let seen_is = c.graph-graph.ensures.is in
    record {
      whole = parts-are-whole runs graph c.args.path.now c.requires.path c.lasted_in.ensures.whole;
      kinds = c.in_ok-kinds.kinds.items;
      longest = subst (λ (n : Network). AreLongest n runs c.in_ok-kinds.kinds.items) seen_is c.in_ok-kinds.ensures;
      soonest = c.in_ok-time_without_limits.field-0;
      is_soonest = subst (λ (n : Network). IsSoonest n runs c.in_ok-time_without_limits.field-0) seen_is c.in_ok-time_without_limits.ensures;
      limits = c.args.round.now.limits.now;
      are_limits = c.requires.limits;
      gains = c.in_ok-gains.gains.items;
      gained = c.in_ok-gains.ensures;
      text_is =
          c.in_ok-push_str.ensures.bytes ∙ ap (λ (text : List ℕ). text ++ codes "no phase was run\n") c.new-text.ensures.bytes
          ∙ sym (ap (λ (b : Bool). cond b (codes "no phase was run\n") (summary_opening (figures_of runs c.args.path.now c.in_ok-time_without_limits.field-0) c.in_ok-gains.gains.items ++ lists_text graph c.args.round.now.limits.now runs c.args.path.now c.in_ok-kinds.kinds.items)) (sym c.is_empty.ensures ∙ c.if-is_empty.true));
    }
