use Rattle.std.proofs.Common.{◌∙◌, sym, ap}
use Rattle.submit_file.specs.Readings.{saying_of}
use Rattle.submit_file.proofs.Utf8.{says_text}
use Rattle.submit_file.proofs.submit.Reader.read.Goals as goal

pub assign-requires-clause-name : goal.assign-requires-clause-name
assign-requires-clause-name c = (says_text c.args.self.now.queued c.args.text.now _ c.requires (ap saying_of (sym c.in-Assigns.is) ∙ c.line_says.ensures)).0

pub assign-requires-clause-value : goal.assign-requires-clause-value
assign-requires-clause-value c = (says_text c.args.self.now.queued c.args.text.now _ c.requires (ap saying_of (sym c.in-Assigns.is) ∙ c.line_says.ensures)).1
