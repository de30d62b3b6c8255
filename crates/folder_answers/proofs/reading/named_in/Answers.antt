use Rattle.folder_answers.proofs.reading.named_in.Goals as goal

pub loop-path-preserved : goal.loop-path-preserved
loop-path-preserved g c = λ honest. c.in_ok-add_from.ensures.held honest (c.loop-path.invariant honest)
