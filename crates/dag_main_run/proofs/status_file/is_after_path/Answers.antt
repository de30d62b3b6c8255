use Rattle.dag_main_run.specs.StatusFile.{first_node, no_node}
use Rattle.dag_main_run.proofs.status_file.is_after_path.Goals as goal

pub returns-then-agree-clause-status : goal.returns-then-agree-clause-status
returns-then-agree-clause-status c = λ is. first_node (c.agree.ensures.agree is)

pub returns-else-agree-clause-status : goal.returns-else-agree-clause-status
returns-else-agree-clause-status c = λ is. no_node (c.agree-else-agree.ensures.agree is)

pub returns-else-agree-clause-every : goal.returns-else-agree-clause-every
returns-else-agree-clause-every c = λ after. elim after [
  | first_node agrees ↦
      let yes = c.agree.ensures.every agrees in
      let no = c.if-agree.false in
      absurd cc
  | no_node agrees ↦ c.agree-else-agree.ensures.every agrees
]
