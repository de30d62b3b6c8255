use Rattle.status_report.proofs.Finished.{all-lines, text-of-fates}
use Rattle.status_report.proofs.laws.finished_texts.Goals as goal

pub returns-clause-shown : goal.returns-clause-shown
returns-clause-shown c plan past finished abort_free = all-lines plan past finished abort_free

pub returns-clause-fates : goal.returns-clause-fates
returns-clause-fates c plan table rank ranked past run fates are = text-of-fates plan table rank ranked past run fates are
