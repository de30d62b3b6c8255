use Rattle.std.proofs.Common.{ℕ, Some, ◌<◌, sym, ap, ◌∙◌, subst, arith}
use Rattle.std.specs.Prelude.{IfSome}
use Rattle.std.proofs.lemmas.Option.{slice_get-get_or}
use Rattle.run_times.specs.Critical.{run_node_in}
use Rattle.run_times.proofs.Waiting.{node-below, waits-next}
use Rattle.run_times.proofs.critical.Waits.takes.Goals as goal

pub note_last-requires : goal.note_last-requires
note_last-requires c =
    subst (λ (count : ℕ). IfSome c.run_node_of-node.result (λ number. number < count)) (let e = c.requires.waits.nodes in let ok = c.args.self.now.last.ok in omega (arith, e, ok))
    (node-below c.args.graph.now _ c.run_node_of-node.result c.run_node_of-node.ensures)

pub returns : goal.returns
returns c =
    let node = c.run_node_of-node.ensures ∙ sym (ap (run_node_in c.args.graph.now) (slice_get-get_or c.args.runs.now c.args.place _ c.requires.place)) in
    waits-next c.args.graph.now c.args.runs.now c.args.self.now (record { last = c.note_last.new.last; latest = Some c.later_of.result; before = c.push.new.self }) c.args.place
    c.run_node_of-node.result c.before_of-before.result c.requires.waits node c.before_of-before.ensures c.note_last.ensures c.in_ok-push.ensures.items
    (ap (λ (k : ℕ). Some k) c.later_of.ensures)
