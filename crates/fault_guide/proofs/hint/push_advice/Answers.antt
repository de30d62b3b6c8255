use Rattle.std.proofs.lemmas.Result.{on_ok_weaker}
use Rattle.fault_guide.specs.Told.{of_word}
use Rattle.fault_guide.proofs.hint.push_advice.Goals as goal

pub returns-in-Some : goal.returns-in-Some
returns-in-Some c = on_ok_weaker c.writeln.result (λ is. of_word c.in-Some.ensures.code c.in-Some.ensures.source c.in-Some.instead.now is) c.writeln.ensures.bytes
