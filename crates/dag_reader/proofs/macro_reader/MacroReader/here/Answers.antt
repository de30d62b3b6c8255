use Rattle.std.proofs.Common.{◌∙◌, ap}
use Rattle.dag_reader.specs.MacroReading.{bytes_span}
use Rattle.dag_reader.proofs.PairSteps.{here_is}
use Rattle.dag_reader.proofs.macro_reader.MacroReader.here.Goals as goal

pub returns : goal.returns
returns c =
    let s = c.args.self.now in
    ap (bytes_span s.line s.at) c.min.ensures ∙ here_is s.line s.at s.text.now s.within
