use Rattle.report_page.specs.Script.{script_text}
use Rattle.report_page.proofs.script.push_script.Goals as goal

pub returns : goal.returns
unfolding script_text
returns c = c.push_own.ensures
