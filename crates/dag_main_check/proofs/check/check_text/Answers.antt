use Rattle.splices_flat.specs.FileSet.{bytes_of}
use Rattle.dag_main_check.proofs.Checks.{is_check, check-memory}
use Rattle.dag_main_check.proofs.check.check_text.Goals as goal

pub returns-clause-checked : goal.returns-clause-checked
returns-clause-checked c =
    is_check c.args.form (bytes_of c.args.files.now) c.args.path.now c.in_ok-plan.plan.graph.dag c.answer_of-answer.result c.in_ok-plan.ensures.dag c.in_ok-plan.ensures.acyclic c.in_ok-plan.ensures.sound
    c.answer_of-answer.ensures.text c.answer_of-answer.ensures.warnings c.answer_of-answer.ensures.status

pub returns-clause-refused : goal.returns-clause-refused
returns-clause-refused c = check-memory (bytes_of c.args.files.now) c.args.path.now c.answer_of-answer.result c.answer_of-answer.ensures.err
