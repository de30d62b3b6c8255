use Rattle.vars_macros.proofs.Splits.{gives_arguments}
use Rattle.run_plan_node.proofs.job.words_of.Goals as goal

pub returns : goal.returns
returns c = gives_arguments c.args.text.now c.split_arguments.result c.split_arguments.ensures.spelled
