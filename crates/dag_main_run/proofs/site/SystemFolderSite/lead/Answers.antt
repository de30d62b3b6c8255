use Rattle.std.proofs.Common.{rules, ◌≡◌, []}
use Rattle.std.proofs.lemmas.Result.{IfOk-weaker, IfErr-weaker}
use Rattle.run_round.specs.Causes.{stopped_by_memory}
use Rattle.dag_main_run.proofs.Sites.{led-by-starter, refused-by-starter, no-memory-to-start}
use Rattle.dag_main_run.proofs.site.SystemFolderSite.lead.Goals as goal

pub returns-in_default-clause-refused : goal.returns-in_default-clause-refused
returns-in_default-clause-refused g c = no-memory-to-start _ _ c.args.plan.now c.args.start c.args.limits _ c.args.journal c.args.rescue (λ honest. honest)

pub returns-in_default-clause-stops : goal.returns-in_default-clause-stops
returns-in_default-clause-stops g c = stopped_by_memory

pub returns-clause-led : goal.returns-clause-led
returns-clause-led g c =
    let idle : c.new-starter.result.system.log.calls ≡ [] = search rules in
    IfOk-weaker c.run_round.result _ _
    (λ ended is. led-by-starter _ _ c.args.plan.now c.args.start c.args.limits _ _ _ idle c.run_round.ensures.none_left c.args.journal ended.0 c.args.rescue _ _ _ is) c.run_round.ensures.round

pub returns-clause-refused : goal.returns-clause-refused
returns-clause-refused g c =
    let idle : c.new-starter.result.system.log.calls ≡ [] = search rules in
    let none : c.new-starter.result.system.faults ≡ 0 = search rules in
    IfErr-weaker c.run_round.result _ _
    (λ e is. refused-by-starter _ _ c.args.plan.now c.args.start c.args.limits _ _ _ idle c.run_round.ensures.none_left c.args.journal e.0 c.args.rescue _ _ _ _ none is) c.run_round.ensures.refused
