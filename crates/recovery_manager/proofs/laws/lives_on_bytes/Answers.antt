use Rattle.recovery_manager.proofs.Chains.{any-lives, reads-image}
use Rattle.recovery_manager.proofs.laws.lives_on_bytes.Goals as goal

pub returns-clause-any : goal.returns-clause-any
returns-clause-any c plan lives are = any-lives plan lives are

pub returns-clause-reads : goal.returns-clause-reads
returns-clause-reads c plan past image reads = reads-image plan past image reads
