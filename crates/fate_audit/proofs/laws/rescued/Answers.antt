use Rattle.fate_audit.proofs.Rescued.{read, rescued-by, same-launch_spec, one-round}
use Rattle.fate_audit.proofs.laws.rescued.Goals as goal

pub returns-clause-read : goal.returns-clause-read
returns-clause-read c = read

pub returns-clause-marks : goal.returns-clause-marks
returns-clause-marks c = rescued-by

pub returns-clause-launch_spec : goal.returns-clause-launch_spec
returns-clause-launch_spec c = same-launch_spec

pub returns-clause-rounds : goal.returns-clause-rounds
returns-clause-rounds c = one-round
