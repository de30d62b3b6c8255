use Rattle.redo.proofs.Answers.{three-parts}
use Rattle.redo.proofs.here.no_round_text.Goals as goal

pub returns : goal.returns
returns c = three-parts _ _ _ _ _ _ _ c.new-line.ensures.bytes c.in_ok-push_str.ensures.bytes c.in_ok-push_word.ensures c.in_ok-push_str-2.ensures.bytes
