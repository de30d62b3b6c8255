use Rattle.std.proofs.Common.{◌≡◌, length}
use Rattle.dag_reader.specs.LineReader.{left_of, word_of}
use Rattle.dag_reader.specs.Words.{last_of}
use Rattle.dag_reader.proofs.line.LineReader.last_word.Given as goal

abbrev pub invariant-loop-word : goal.invariant-loop-word
invariant-loop-word l = last_of (word_of l.last) (left_of l.self).words ≡ last_of (word_of l.fn.first) (left_of l.fn.self).words

abbrev pub decreases-loop-word : goal.decreases-loop-word
decreases-loop-word l = length (left_of l.self).words
