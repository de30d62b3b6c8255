use Rattle.submit_file.proofs.Grammars.{is_found, only_these, is_stopped}
use Rattle.submit_file.proofs.submit.read_submit.Goals as goal

pub returns-in-Ok-clause-found : goal.returns-in-Ok-clause-found
returns-in-Ok-clause-found c = is_found (λ s. s.assigned.items) c.args.text.now c.read_lines.result c.in-Ok.ensures.cases.1 c.read_lines.ensures

pub returns-in-Ok-clause-only : goal.returns-in-Ok-clause-only
returns-in-Ok-clause-only c = λ pairs says. only_these (λ s. s.assigned.items) c.args.text.now pairs c.read_lines.result says c.read_lines.ensures

pub returns-in-Ok-clause-fault : goal.returns-in-Ok-clause-fault
returns-in-Ok-clause-fault c = is_stopped (λ s. s.assigned.items) c.args.text.now c.read_lines.result c.in-Ok.ensures.cases.1 c.read_lines.ensures
