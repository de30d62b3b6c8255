use Rattle.dag_reader.proofs.laws.leftmost.Goals as goal
use Rattle.dag_reader.proofs.Lefts as lefts

pub returns : goal.returns
returns c = lefts.leftmost
