use Rattle.std.proofs.Common.{Some, sym, ap, ◌∙◌, if◌then◌else◌}
use Rattle.std.proofs.lemmas.Option.{slice_get-get_or}
use Rattle.sched_core.specs.Run.{is_same}
use Rattle.dag_main_rehearse.specs.declared.timetable.Timing.{Timing}
use Rattle.dag_main_rehearse.proofs.Entries.{set-timing}
use Rattle.dag_main_rehearse.proofs.timetable.Timetable.set.Goals as goal

pub returns : goal.returns
returns c = λ other.
    let old = c.index_mut.result.now in
    let nodes = c.reach.new.self.nodes.items in
    set-timing nodes old (record { entries = c.push.new.self }) c.args.key c.args.timing c.in_ok-reach.ensures.room
    (slice_get-get_or nodes c.args.key.node old c.in_ok-reach.ensures.room ∙ ap Some (sym c.index_mut.ensures.value)) c.in_ok-push.ensures.items other
    ∙ ap (λ (timing : Timing). if is_same other c.args.key then c.args.timing else timing) (c.in_ok-reach.ensures.same other)
