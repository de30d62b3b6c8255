use Rattle.std.proofs.Common.{◌≡◌, ap, sym, ◌∙◌, Option, ℕ, List}
use Rattle.std.specs.BTreeMap.{BTreeMap, get, get_by_text, is_at}
use Rattle.std.specs.Map.{lookup}
use Rattle.std.specs.Ordering.{nat_cmp}
use Rattle.node_machine.specs.declared.table.PhaseOutcomes.{PhaseOutcomes}
use Rattle.node_machine.proofs.TableEntries.{put_says, found}
use Rattle.node_machine.proofs.table.Table.push.Goals as goal
use Rattle.node_machine.proofs.table.Table.push.Goals.{in-Some, in-None}

pub returns : goal.returns
returns c = λ n a p.
    let old = c.self.inside.nodes in
    let name = c.args.entry.now.name.now in
    let had : (q : ℕ) → get nat_cmp c.match-remove.attempts q ≡ found (get_by_text old name) q = λ q.
    elim c.match-remove.branch [
      | in-Some w ↦ ap (λ (m : BTreeMap ℕ PhaseOutcomes). get nat_cmp m q) w.attempts-is ∙ ap (λ (o : Option (BTreeMap ℕ PhaseOutcomes)). found o q) (sym w.in-Some.is ∙ c.remove.ensures.value)
      | in-None w ↦
          ap (λ (m : BTreeMap ℕ PhaseOutcomes). get nat_cmp m q) w.attempts-is
          ∙ ap (λ (es : List (ℕ × PhaseOutcomes)). lookup (is_at (nat_cmp q)) es) w.new-attempts.ensures.empty
          ∙ ap (λ (o : Option (BTreeMap ℕ PhaseOutcomes)). found o q) (sym w.in-None.is ∙ c.remove.ensures.value)
    ] in
    put_says old c.remove.new.self c.insert.new.self c.match-remove.attempts c.put.new.attempts c.args.entry.now c.in_ok-name.name
    c.remove.ensures.updates c.in_ok-insert.ensures.updates c.in_ok-name.ensures.ok c.args.self.now n a p c.self.view_is c.self.invariant c.insert.ensures.ordered had c.in_ok-put.ensures
