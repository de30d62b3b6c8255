use Rattle.std.proofs.Common.{◌∙◌}
use Rattle.dag_reader.proofs.Numerals.{integer_is}
use Rattle.dag_reader.proofs.token.Token.integer.Goals as goal

pub returns : goal.returns
returns c = c.ok.ensures.value ∙ integer_is c.args.self.now.text.now c.parse.result c.parse.ensures.value.0
