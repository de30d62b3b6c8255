use Rattle.splices_flat.proofs.Regulars.{all_opened, opened_regular, dag_opened, opened_dag}
use Rattle.splices_flat.proofs.laws.refused_by_rules_alone.Goals as goal

pub returns-clause-opens : goal.returns-clause-opens
returns-clause-opens c files top tree is regular = all_opened files top tree is regular

pub returns-clause-regular : goal.returns-clause-regular
returns-clause-regular c files top tree is = opened_regular files top tree is

pub returns-clause-dag : goal.returns-clause-dag
returns-clause-dag c files top tree is regular stands = dag_opened files top tree is regular stands

pub returns-clause-only : goal.returns-clause-only
returns-clause-only c files top dag is = opened_dag files top dag is
