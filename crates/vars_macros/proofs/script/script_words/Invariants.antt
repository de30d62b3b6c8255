use Rattle.std.proofs.Common.{◌≡◌, map, take}
use Rattle.vars_macros.specs.Script.{script_word}
use Rattle.vars_macros.proofs.script.script_words.Given as goal

abbrev pub invariant-loop-word : goal.invariant-loop-word
invariant-loop-word l = l.out ≡ map (λ w. script_word l.facts w) (take l.word-index l.words)
