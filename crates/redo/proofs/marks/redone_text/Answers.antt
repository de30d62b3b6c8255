use Rattle.std.proofs.Common.{◌≡◌, ◌∙◌, suc, Bool, List, length, ap, subst, sym}
use Rattle.std.specs.List.{count_by}
use Rattle.std.proofs.lemmas.List.FromFn.{length-map-range_with_len}
use Rattle.dag_graph.specs.Graph.{Network}
use Rattle.run_plan.specs.Plan.{Plan, count_of}
use Rattle.rescue_file.specs.Written.{ordinary_names, rescue_text_of}
use Rattle.redo.specs.Redone.{stays_done, AreAgain}
use Rattle.redo.proofs.marks.redone_text.Goals as goal

pub marks_of-requires : goal.marks_of-requires
marks_of-requires c = ap (λ (ms : List Bool). length ms) c.deref.ensures.value ∙ c.in_ok-again.ensures.many ∙ ap (λ (p : Plan). suc (count_of p)) c.plan.ensures

pub rescue_text-requires : goal.rescue_text-requires
rescue_text-requires c =
    let plan = c.args.core.now.plan in
    let again = c.deref.result.now in
    let counted : count_of plan ≡ length plan.graph.dag.nodes = subst (λ (p : Plan). count_of p ≡ length p.graph.dag.nodes) c.plan-2.ensures c.graph.ensures.count in
    let graph = c.graph.ensures.is ∙ ap (λ (p : Plan). p.graph) c.plan-2.ensures in
    ap (λ (ms : List Bool). length ms) (c.deref-3.ensures.value ∙ c.in_ok-marks.ensures)
    ∙ length-map-range_with_len (stays_done plan c.args.core.now.past again) 0 (count_of plan)
    ∙ counted ∙ ap (λ (n : Network). length n.dag.nodes) (sym graph)

pub returns-in-Ok-clause-redone : goal.returns-in-Ok-clause-redone
returns-in-Ok-clause-redone c =
    let plan = c.args.core.now.plan in
    let graph = c.graph.ensures.is ∙ ap (λ (p : Plan). p.graph) c.plan-2.ensures in
    record {
      again = c.deref.result.now;
      are_again = subst (λ (ms : List Bool). AreAgain plan c.args.only c.args.named.now ms) (sym c.deref.ensures.value)
          (subst (λ (p : Plan). AreAgain p c.args.only c.args.named.now c.in_ok-again.again.items) c.plan.ensures c.in_ok-again.ensures.are);
      text_is = c.in-Ok.ensures.text
          ∙ ap (λ (n : Network). rescue_text_of (ordinary_names n.dag) c.deref-3.result.now) graph
          ∙ ap (rescue_text_of (ordinary_names plan.graph.dag)) (c.deref-3.ensures.value ∙ c.in_ok-marks.ensures);
      done_is = c.count_marks-done.ensures ∙ ap (count_by (λ mark. mark)) (c.deref-2.ensures.value ∙ c.in_ok-marks.ensures);
    }
