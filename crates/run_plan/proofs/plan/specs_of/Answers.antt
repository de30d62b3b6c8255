use Rattle.std.proofs.Common.{rules, ◌≡◌, ◌∙◌, ◌<◌, List, Ok, Bor, ap, sym, subst, length, get_or}
use Rattle.std.specs.Prelude.{option_map}
use Rattle.std.proofs.lemmas.Result.{err_from_is_err_and}
use Rattle.splices_flat.specs.Dag.{Dag}
use Rattle.splices_flat.specs.FileSet.{bytes_of}
use Rattle.splices_flat.specs.declared.file_set.FileSet.{FileSet}
use Rattle.splices_flat.specs.declared.flat.FlatNode.{FlatNode}
use Rattle.splices_flat.specs.declared.flat.CategoryLimit.{CategoryLimit}
use Rattle.run_plan_node.specs.Specs.{spec_of}
use Rattle.run_plan.specs.PlanAnswers.{Fails}
use Rattle.run_plan.specs.Planned.{marked_sources}
use Rattle.run_plan.specs.Submitted.{job_at, job_or_program, first_plan_fault}
use Rattle.run_plan.proofs.PlanFacts.{specs-step}
use Rattle.run_plan.proofs.PlanMade.{faults_more, fails_at}
use Rattle.run_plan.proofs.plan.specs_of.Goals as goal

pub loop-number-preserved : goal.loop-number-preserved
loop-number-preserved c =
    let files = option_map (λ (set : Bor FileSet). bytes_of set.now) c.args.files in
    let node = c.node-item.result in
    let seen : c.nodes-node-items.result.now ≡ c.args.graph.now.dag.nodes = c.nodes-node-items.ensures.are ∙ ap (λ (d : Dag). d.nodes) c.flat-2.ensures in
    let small : c.loop-number.number < length c.args.graph.now.dag.nodes = subst (λ (ns : List FlatNode). c.loop-number.number < length ns) seen c.loop-number-test.true in
    let here : node ≡ get_or c.args.graph.now.dag.nodes c.loop-number.number node = c.node-item.is ∙ ap (λ (ns : List FlatNode). get_or ns c.loop-number.number node) seen in
    record {
      specs = specs-step c.args.graph.now.dag (marked_sources c.args.always_post files c.args.marks.now) c.nodes-node-items.result.now c.loop-number.number c.loop-number.specs.items c.push.new.self.items
          c.in-Ok.spec node c.parents-parents.result.now c.in_ok-job.job c.unwrap_or-marked.result
          seen c.loop-number-test.true c.node-item.is c.loop-number.invariant.specs c.in_ok-push.ensures.items (c.in-Ok.ensures.ok ∙ ap (λ (ls : List CategoryLimit). spec_of c.args.always_post ls c.parents-parents.result.now c.in_ok-job.job c.unwrap_or-marked.result node) (c.in_ok-categories.ensures ∙ c.categories.ensures ∙ ap (λ (d : Dag). d.categories) c.flat.ensures)) c.parents-parents.ensures
          (sym (ap (job_or_program node) c.in_ok-job.ensures)) (search rules);
      none = faults_more files c.args.graph.now.dag.nodes c.loop-number.number node c.in_ok-job.job small c.loop-number.invariant.none
          (subst (λ (n : FlatNode). job_at files n ≡ Ok c.in_ok-job.job) here c.in_ok-job.ensures);
    }

pub returns-in_err-job-clause-faults : goal.returns-in_err-job-clause-faults
returns-in_err-job-clause-faults c =
    let files = option_map (λ (set : Bor FileSet). bytes_of set.now) c.args.files in
    let node = c.node-item.result in
    let seen : c.nodes-node-items.result.now ≡ c.args.graph.now.dag.nodes = c.nodes-node-items.ensures.are ∙ ap (λ (d : Dag). d.nodes) c.flat-2.ensures in
    let small : c.loop-number.number < length c.args.graph.now.dag.nodes = subst (λ (ns : List FlatNode). c.loop-number.number < length ns) seen c.loop-number-test.true in
    let here : node ≡ get_or c.args.graph.now.dag.nodes c.loop-number.number node = c.node-item.is ∙ ap (λ (ns : List FlatNode). get_or ns c.loop-number.number node) seen in
    let says : Fails c.in_err-job.field-0.0 (first_plan_fault files c.args.graph.now.dag.nodes) =
    fails_at files c.args.graph.now.dag.nodes c.loop-number.number node c.in_err-job.field-0.0 small c.loop-number.invariant.none
    (subst (λ (n : FlatNode). Fails c.in_err-job.field-0.0 (job_at files n)) here c.in_err-job.ensures) in
    let p = err_from_is_err_and c.from_residual-in_err-job.result c.from_residual-in_err-job.ensures.1 in
    rw (p.1, p.2) says
