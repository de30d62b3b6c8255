use Rattle.fate_audit.proofs.Answered.{sound-no, one-cause, one-audit, is-sound}
use Rattle.fate_audit.proofs.laws.one_answer.Goals as goal

pub returns-clause-sound : goal.returns-clause-sound
returns-clause-sound c = is-sound

pub returns-clause-apart : goal.returns-clause-apart
returns-clause-apart c = sound-no

pub returns-clause-fates : goal.returns-clause-fates
returns-clause-fates c plan rank ranked bytes fates other is is' = one-audit plan bytes rank ranked fates other is is'

pub returns-clause-cause : goal.returns-clause-cause
returns-clause-cause c = one-cause
