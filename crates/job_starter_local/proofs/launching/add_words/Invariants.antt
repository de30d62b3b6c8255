use Rattle.std.proofs.Common.{◌≡◌, ◌++◌, take}
use Rattle.job_starter_local.proofs.launching.add_words.Given as goal

abbrev pub invariant-loop-word : goal.invariant-loop-word
invariant-loop-word l = l.words ≡ l.initial.words ++ take l.word-index l.others
