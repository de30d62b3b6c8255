use Rattle.std.proofs.Common.{◌≡◌, ◌∷◌, map, take}
use Rattle.splices.proofs.lines.script_words.Given as goal

abbrev pub invariant-loop-word : goal.invariant-loop-word
invariant-loop-word l = l.words ≡ l.program.text ∷ map (λ w. w.text) (take l.word-index l.arguments)
