use Rattle.std.proofs.Common.{◌≡◌, ◌∙◌, List, length, ap, sym, subst}
use Rattle.std.proofs.lemmas.List.{length-reverse}
use Rattle.node_machine.specs.declared.Record.{Record}
use Rattle.run_plan.specs.Planned.{IsPlanned}
use Rattle.sched_core.specs.Core.{Progress}
use Rattle.sched_core.proofs.Ahead.{count-room}
use Rattle.sched_core.proofs.scheduler.Core.count_launch.Goals as goal

pub note-requires-clause-room : goal.note-requires-clause-room
note-requires-clause-room c =
    let planned : IsPlanned c.args.self.now.plan = subst (λ (v : Progress). IsPlanned v.plan) c.self.view_is c.graph-graph.ensures.made in
    let size : length c.deref.result.now ≡ length c.args.self.now.past =
    ap (λ (l : List Record). length l) c.deref.ensures.value ∙ sym (length-reverse c.self.inside.records.items) ∙ ap (λ (v : Progress). length v.past) c.self.view_is in
    count-room c.args.self.now.limits c.args.self.now.plan planned c.args.self.now.past c.args.keys.now c.args.throttles.now (length c.deref.result.now) c.requires.counted size c.count_both-all.ensures.small
