use Rattle.job_starter_drive.proofs.Endings.{driven, halted-endings, by-fault-endings, stopped-endings}
use Rattle.job_starter_drive.proofs.laws.record_endings.Goals as goal

pub returns-clause-driven : goal.returns-clause-driven
returns-clause-driven g c limits plan starter past call_log after last h = driven limits plan (g.S.Starter.may_return starter) past call_log after last h

pub returns-clause-halted : goal.returns-clause-halted
returns-clause-halted g c limits plan starter past call_log after last h = halted-endings limits plan (g.S.Starter.may_return starter) past call_log after last h

pub returns-clause-halted_by : goal.returns-clause-halted_by
returns-clause-halted_by g c limits plan starter past call_log fault refused after last h = by-fault-endings limits plan (g.S.Starter.may_return starter) past call_log fault refused after last h

pub returns-clause-stopped : goal.returns-clause-stopped
returns-clause-stopped g c limits plan starter past call_log fault refused after last h = stopped-endings limits plan (g.S.Starter.may_return starter) past call_log fault refused after last h
