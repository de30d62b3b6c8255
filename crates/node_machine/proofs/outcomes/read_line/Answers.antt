use Rattle.std.proofs.Common.{ap, sym, ◌∙◌, Some}
use Rattle.dag_reader.specs.LineReader.{Left, left_of, word_of}
use Rattle.node_machine.specs.TableMaps.{entry_of}
use Rattle.node_machine.proofs.OutcomeLines.{line_says}
use Rattle.node_machine.proofs.outcomes.read_line.Goals as goal

pub returns-clause-ok : goal.returns-clause-ok
returns-clause-ok c = (
  Some (entry_of c.in-Some-read_entry.entry),
  line_says c.args.number c.args.bytes.now c.in-Ok.text.now (word_of c.in-Some.name) (left_of c.next_word.new.self).words (Some (entry_of c.in-Some-read_entry.entry))
      c.in-Ok.ensures
      (ap (λ (left : Left). left.words) (sym c.new-line.ensures ∙ c.in-Some.ensures))
      (sym c.is_comment.ensures ∙ c.if-is_comment.false) c.in-Some-read_entry.ensures,
  c.in_ok-push.ensures,
)
