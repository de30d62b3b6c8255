use Rattle.std.proofs.Common.{◌∙◌, sym}
use Rattle.dag_reader.specs.MacroReader.{ahead_of}
use Rattle.dag_reader.proofs.PairSteps.{equals_is, advance_text}
use Rattle.dag_reader.proofs.macro_reader.MacroReader.equals.Goals as goal

pub returns : goal.returns
returns c =
    let s = c.skip_blanks.new.self in
    equals_is (ahead_of c.args.self.now) (ahead_of s) _ (sym c.skip_blanks.ensures.ahead) (sym c.next_is.ensures ∙ c.if-not-next_is.false) (advance_text s.line s.at 1 s.text.now)
