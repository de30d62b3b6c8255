use Rattle.run_plan.proofs.EqualFiles.{equal_digests}
use Rattle.run_plan.proofs.laws.equal_files.Goals as goal

pub returns : goal.returns
returns c = equal_digests
