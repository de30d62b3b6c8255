use Rattle.std.proofs.Common.{◌+◌, List, Option, take, reverse, get_or, sym, ap, ◌∙◌, arith}
use Rattle.node_machine.specs.declared.Ended.{Ended}
use Rattle.node_machine.specs.declared.Record.{Record}
use Rattle.node_machine.specs.declared.Record.TheVariants.{Life}
use Rattle.failure_report.specs.Failures.{last_end, noted_end}
use Rattle.failure_report.proofs.Endings.{ends_more}
use Rattle.failure_report.proofs.failed.last_ends.Goals as goal

pub loop-entry-preserved : goal.loop-entry-preserved
loop-entry-preserved c =
    let items = c.records-entry-items.result.now in
    let i = c.loop-entry.entry-index in
    let many = c.loop-entry.invariant.many in
    record {
      many = c.note_end.ensures.len ∙ c.loop-entry.invariant.many;
      each = λ node low.
          c.note_end.ensures.each node (omega (arith, low, many))
          ∙ ap (λ (o : Option Ended). noted_end o (get_or c.records-entry-items.result.now c.loop-entry.entry-index Life) node) (c.loop-entry.invariant.each node low ∙ ap (λ (rs : List Record). last_end (reverse (take c.loop-entry.entry-index rs)) node) (sym c.records-entry-items.ensures))
          ∙ ends_more c.records-entry-items.result.now c.loop-entry.entry-index Life node c.loop-entry-test.true
          ∙ ap (λ (rs : List Record). last_end (reverse (take (c.loop-entry.entry-index + 1) rs)) node) c.records-entry-items.ensures;
    }
