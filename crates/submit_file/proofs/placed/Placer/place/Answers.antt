use Rattle.std.proofs.Common.{◌∙◌, sym, ap}
use Rattle.submit_file.specs.Readings.{saying_of}
use Rattle.submit_file.proofs.Utf8.{says_text}
use Rattle.submit_file.proofs.placed.Placer.place.Goals as goal

pub text_of-requires : goal.text_of-requires
text_of-requires c = (says_text c.args.self.now.queued c.args.text.now _ c.requires (ap saying_of (sym c.in-Assigns.is) ∙ c.line_says.ensures)).0

pub text_of-requires-in-Assigns : goal.text_of-requires-in-Assigns
text_of-requires-in-Assigns c = (says_text c.args.self.now.queued c.args.text.now _ c.requires (ap saying_of (sym c.in-Assigns.is) ∙ c.line_says.ensures)).1
