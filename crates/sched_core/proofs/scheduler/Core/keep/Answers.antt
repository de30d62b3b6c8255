use Rattle.std.proofs.Common.{◌≡◌, ◌∙◌, ◌+◌, ◌≤◌, true, suc, List, [], ◌∷◌, length, reverse, ap, sym, subst, arith, refl, if◌then◌else◌}
use Rattle.std.proofs.lemmas.List.{length-reverse, reverse-append}
use Rattle.node_machine.specs.declared.Record.{Record}
use Rattle.sched_core.specs.Run.{may_follow}
use Rattle.sched_core.specs.Core.{Progress, Shows}
use Rattle.sched_core.proofs.Failed.{failed_after}
use Rattle.sched_core.specs.Kept.{IsLookedFor}
use Rattle.sched_core.specs.Looks.{stops, further_looks}
use Rattle.sched_core.specs.States.{AreLeft}
use Rattle.sched_core.specs.Queued.{IsQueued}
use Rattle.sched_core.specs.Tally.{stop_status}
use Rattle.sched_core.proofs.Taking.{shows-takes, flag-shown, failed-room, noted-added}
use Rattle.sched_core.proofs.Moves.{jobs-few, added-shown}
use Rattle.sched_core.proofs.Throttling.{entry-of_node, entry-counted, few-running, throttled-added}
use Rattle.sched_core.proofs.Tallies.{tallied-next, done-room}
use Rattle.sched_core.proofs.Keeping.{lent-for, turn-for, abort-told, stops-told, failed-by}
use Rattle.sched_core.proofs.scheduler.Core.keep.Goals as goal

pub count_jobs-self-inside-requires : goal.count_jobs-self-inside-requires
count_jobs-self-inside-requires c =
    let few = jobs-few (reverse c.self.inside.records.items) in
    let size = length-reverse c.self.inside.records.items in
    let same : length c.deref.result.now ≡ length c.self.inside.records.items = ap (λ (l : List Record). length l) c.deref.ensures.value in
    let is = c.self.invariant.shows.jobs_are in
    let small = c.count_and_one-more.ensures.small in
    omega (arith, few, size, same, is, small)

pub advance-turn-requires-clause-takes : goal.advance-turn-requires-clause-takes
advance-turn-requires-clause-takes c =
    let may : may_follow c.self.inside.plan.now (reverse c.self.inside.records.items) c.args.entry ≡ true =
    subst (λ (v : Progress). may_follow v.plan v.past c.args.entry ≡ true) (sym c.self.view_is) c.requires.lawful in
    shows-takes _ _ _ _ _ c.self.invariant.shows c.args.entry may

pub advance-turn-requires-clause-turn : goal.advance-turn-requires-clause-turn
advance-turn-requires-clause-turn c =
    let may : may_follow c.self.inside.plan.now (reverse c.self.inside.records.items) c.args.entry ≡ true =
    subst (λ (v : Progress). may_follow v.plan v.past c.args.entry ≡ true) (sym c.self.view_is) c.requires.lawful in
    turn-for c.self.inside.plan.now c.graph-graph.ensures.made (reverse c.self.inside.records.items) c.self.inside.states c.self.inside.aborted c.self.inside.jobs c.self.invariant.shows c.args.entry may

pub advance-turn-requires-clause-lent : goal.advance-turn-requires-clause-lent
advance-turn-requires-clause-lent c =
    let may : may_follow c.self.inside.plan.now (reverse c.self.inside.records.items) c.args.entry ≡ true =
    subst (λ (v : Progress). may_follow v.plan v.past c.args.entry ≡ true) (sym c.self.view_is) c.requires.lawful in
    lent-for c.self.inside.plan.now c.graph-graph.ensures.made (reverse c.self.inside.records.items) c.self.inside.states c.self.inside.aborted c.self.inside.jobs c.self.invariant.shows
    c.self.invariant.noted.are_notes c.self.invariant.left c.args.entry c.args.looked may
    (subst (λ (v : Progress). IsLookedFor v.plan v.past c.args.entry c.args.looked) (sym c.self.view_is) c.requires.looked)

pub advance-turn-requires-clause-flag : goal.advance-turn-requires-clause-flag
advance-turn-requires-clause-flag c = flag-shown _ _ _ _ _ c.self.invariant.shows

pub status_after-self-inside-requires : goal.status_after-self-inside-requires
status_after-self-inside-requires c =
    let may : may_follow c.self.inside.plan.now (reverse c.self.inside.records.items) c.args.entry ≡ true =
    subst (λ (v : Progress). may_follow v.plan v.past c.args.entry ≡ true) (sym c.self.view_is) c.requires.lawful in
    entry-of_node c.self.inside.plan.now c.graph-graph.ensures.made (reverse c.self.inside.records.items) c.self.inside.throttles c.self.invariant.throttled c.args.entry c.self.invariant.shows.lawful may

pub count_if-self-inside-requires : goal.count_if-self-inside-requires
count_if-self-inside-requires c = λ t.
    let plan = c.self.inside.plan.now in let past = reverse c.self.inside.records.items in
    let may : may_follow plan past c.args.entry ≡ true =
    subst (λ (v : Progress). may_follow v.plan v.past c.args.entry ≡ true) (sym c.self.view_is) c.requires.lawful in
    let next = added-shown plan past (c.args.entry ∷ past) c.args.entry c.self.inside.states.runs c.advance-turn.new.states.runs c.self.inside.aborted c.either-self-inside.result c.self.inside.jobs c.count_jobs-self-inside.result
    c.self.invariant.shows may c.advance-turn.ensures.runs (c.either-self-inside.ensures ∙ c.advance-turn.ensures.flag) c.count_jobs-self-inside.ensures refl in
    let few = failed-room plan past c.args.entry c.self.inside.states.runs c.advance-turn.new.states.runs c.self.inside.aborted c.either-self-inside.result c.self.inside.jobs c.count_jobs-self-inside.result
    c.self.inside.failed c.self.inside.states.notes c.self.invariant.noted c.self.invariant.shows may next in
    let one : suc c.self.inside.failed ≡ failed_after plan c.advance-turn.new.states.runs c.self.inside.failed c.args.entry =
    (λ j. if (sym t ∙ c.advance-turn.ensures.is_stuck) j then suc c.self.inside.failed else c.self.inside.failed) ∙ failed-by plan c.advance-turn.new.states.runs c.self.inside.failed c.args.entry in
    let room = c.count-nodes.ensures.room in let is = c.count-nodes.ensures.is in
    omega (arith, few, one, room, is)

pub count_if-self-inside-requires-2 : goal.count_if-self-inside-requires-2
count_if-self-inside-requires-2 c = λ t.
    let few = done-room c.self.inside.plan.now (reverse c.self.inside.records.items) c.self.inside.done c.self.inside.stop_status c.self.inside.done c.self.invariant.tallied refl in
    let room = c.count-nodes.ensures.room in let is = c.count-nodes.ensures.is in
    omega (arith, few, room, is)

pub throttle-requires-clause-node : goal.throttle-requires-clause-node
throttle-requires-clause-node c =
    let may : may_follow c.self.inside.plan.now (reverse c.self.inside.records.items) c.args.entry ≡ true =
    subst (λ (v : Progress). may_follow v.plan v.past c.args.entry ≡ true) (sym c.self.view_is) c.requires.lawful in
    entry-of_node c.self.inside.plan.now c.graph-graph.ensures.made (reverse c.self.inside.records.items) c.self.inside.throttles c.self.invariant.throttled c.args.entry c.self.invariant.shows.lawful may

pub throttle-requires-clause-room : goal.throttle-requires-clause-room
throttle-requires-clause-room c =
    let same : length c.deref.result.now ≡ length c.self.inside.records.items = ap (λ (l : List Record). length l) c.deref.ensures.value in
    let size = length-reverse c.self.inside.records.items in
    let small = c.count_and_one-more.ensures.small in
    few-running c.self.inside.plan.now c.graph-graph.ensures.made (reverse c.self.inside.records.items) c.self.inside.throttles c.self.invariant.throttled 18446744073709551616 (omega (arith, same, size, small))

pub throttle-requires-clause-counted : goal.throttle-requires-clause-counted
throttle-requires-clause-counted c =
    let may : may_follow c.self.inside.plan.now (reverse c.self.inside.records.items) c.args.entry ≡ true =
    subst (λ (v : Progress). may_follow v.plan v.past c.args.entry ≡ true) (sym c.self.view_is) c.requires.lawful in
    entry-counted c.self.inside.plan.now c.graph-graph.ensures.made (reverse c.self.inside.records.items) c.self.inside.throttles c.self.invariant.throttled c.args.entry may

pub invariant_of-self : goal.invariant_of-self
invariant_of-self c =
    let plan = c.self.inside.plan.now in let past = reverse c.self.inside.records.items in let now = reverse c.push_in_room.new.records.items in
    let entry = c.args.entry in let made = c.graph-graph.ensures.made in
    let runs = c.advance-turn.new.states.runs in let aborted = c.self.inside.aborted in let flag = c.either-self-inside.result in
    let may : may_follow plan past entry ≡ true =
    subst (λ (v : Progress). may_follow v.plan v.past entry ≡ true) (sym c.self.view_is) c.requires.lawful in
    let longer : now ≡ entry ∷ past = ap (λ (l : List Record). reverse l) c.push_in_room.ensures.items ∙ reverse-append c.self.inside.records.items (entry ∷ []) in
    let shown : Shows plan now runs flag c.count_jobs-self-inside.result =
    added-shown plan past now entry c.self.inside.states.runs runs aborted flag c.self.inside.jobs c.count_jobs-self-inside.result
    c.self.invariant.shows may c.advance-turn.ensures.runs (c.either-self-inside.ensures ∙ c.advance-turn.ensures.flag) c.count_jobs-self-inside.ensures longer in
    record {
      shows = shown;
      throttled = throttled-added plan made past now entry c.self.inside.throttles c.throttle.new.throttles aborted flag c.advance-turn.result.aborts
          c.self.invariant.throttled c.self.invariant.shows.lawful may c.throttle.ensures
          (abort-told plan made past c.self.inside.states aborted c.self.inside.jobs c.self.invariant.shows runs entry c.advance-turn.result.aborts flag may c.advance-turn.ensures.aborts c.either-self-inside.ensures)
          shown.aborted_is c.self.invariant.shows.aborted_is longer;
      noted = noted-added plan past now entry _ _ _ _ _ _ c.self.inside.failed c.count_if-self-inside.result
          c.self.inside.states.notes c.advance-turn.new.states.notes c.self.invariant.noted c.self.invariant.shows may longer shown c.advance-turn.ensures.notes
          (c.count_if-self-inside.ensures ∙ (λ j. if c.advance-turn.ensures.is_stuck j then suc c.self.inside.failed else c.self.inside.failed) ∙ failed-by plan runs c.self.inside.failed entry);
      tallied = tallied-next plan past now entry runs flag c.count_jobs-self-inside.result c.self.inside.done c.count_if-self-inside-2.result c.self.inside.stop_status c.status_after-self-inside.result
          c.self.invariant.shows.lawful c.self.invariant.tallied may longer shown
          (c.count_if-self-inside-2.ensures ∙ (λ j. if c.advance-turn.ensures.is_done j then suc c.self.inside.done else c.self.inside.done))
          (c.status_after-self-inside.ensures ∙ (λ j. if c.advance-turn.ensures.aborts j then stop_status plan c.self.inside.stop_status entry else c.self.inside.stop_status));
      many = c.advance-turn.ensures.many;
      left = subst (λ b. AreLeft plan b runs c.advance-turn.new.states.left) (sym c.either-self-inside.ensures) c.advance-turn.ensures.left;
      queued = subst (λ b. IsQueued plan b runs c.advance-turn.new.states.left c.advance-turn.new.queue) (sym c.either-self-inside.ensures) c.advance-turn.ensures.queued;
    }

pub returns-clause-looks : goal.returns-clause-looks
returns-clause-looks c =
    let plan = c.self.inside.plan.now in let past = reverse c.self.inside.records.items in
    let entry = c.args.entry in let made = c.graph-graph.ensures.made in
    let runs = c.advance-turn.new.states.runs in let aborted = c.self.inside.aborted in let flag = c.either-self-inside.result in
    let may : may_follow plan past entry ≡ true =
    subst (λ (v : Progress). may_follow v.plan v.past entry ≡ true) (sym c.self.view_is) c.requires.lawful in
    let shown : Shows plan (entry ∷ past) runs flag c.count_jobs-self-inside.result =
    added-shown plan past (entry ∷ past) entry c.self.inside.states.runs runs aborted flag c.self.inside.jobs c.count_jobs-self-inside.result
    c.self.invariant.shows may c.advance-turn.ensures.runs (c.either-self-inside.ensures ∙ c.advance-turn.ensures.flag) c.count_jobs-self-inside.ensures refl in
    let is = stops-told plan made past c.self.inside.states aborted c.self.inside.jobs c.self.invariant.shows (entry ∷ past) runs runs c.count_jobs-self-inside.result entry c.advance-turn.result.aborts flag may
    c.advance-turn.ensures.aborts c.either-self-inside.ensures refl shown in
    subst (λ (v : Progress). c.advance-turn.new.states.looks ≤ v.looks + further_looks v.plan entry (stops v.plan v.past entry)) c.self.view_is
    (subst (λ b. c.advance-turn.new.states.looks ≤ c.self.inside.states.looks + further_looks plan entry b) is c.advance-turn.ensures.looks)
