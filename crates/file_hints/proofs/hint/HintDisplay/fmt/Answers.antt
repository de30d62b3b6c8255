use Rattle.std.proofs.Common.{sym, subst}
use Rattle.std.specs.Fmt.{HasWritten}
use Rattle.file_hints.specs.Displayed.{hint_text}
use Rattle.file_hints.specs.declared.hint.Hint.{Hint}
use Rattle.file_hints.proofs.hint.HintDisplay.fmt.Goals as goal

pub returns-in-Misspelled-clause-writes : goal.returns-in-Misspelled-clause-writes
returns-in-Misspelled-clause-writes g c = λ plain ok. subst (λ (hint : Hint). HasWritten g.W.Write.write_str_gives c.args.f.now (hint_text hint) c.write-in-Misspelled.new.self) (sym c.in-Misspelled.is) (c.write-in-Misspelled.ensures.writes plain ok)

pub returns-in-BelowQueue-clause-writes : goal.returns-in-BelowQueue-clause-writes
returns-in-BelowQueue-clause-writes g c = λ plain ok. subst (λ (hint : Hint). HasWritten g.W.Write.write_str_gives c.args.f.now (hint_text hint) c.write-in-BelowQueue.new.self) (sym c.in-BelowQueue.is) (c.write-in-BelowQueue.ensures.writes plain ok)

pub returns-in-MissingProgram-clause-writes : goal.returns-in-MissingProgram-clause-writes
returns-in-MissingProgram-clause-writes g c = λ plain ok. subst (λ (hint : Hint). HasWritten g.W.Write.write_str_gives c.args.f.now (hint_text hint) c.write-in-MissingProgram.new.self) (sym c.in-MissingProgram.is) (c.write-in-MissingProgram.ensures.writes plain ok)

pub returns-in-Elsewhere-clause-writes : goal.returns-in-Elsewhere-clause-writes
returns-in-Elsewhere-clause-writes g c = λ plain ok. subst (λ (hint : Hint). HasWritten g.W.Write.write_str_gives c.args.f.now (hint_text hint) c.write-in-Elsewhere.new.self) (sym c.in-Elsewhere.is) (c.write-in-Elsewhere.ensures.writes plain ok)

pub returns-in-FolderAsProgram-clause-writes : goal.returns-in-FolderAsProgram-clause-writes
returns-in-FolderAsProgram-clause-writes g c = λ plain ok. subst (λ (hint : Hint). HasWritten g.W.Write.write_str_gives c.args.f.now (hint_text hint) c.write-in-FolderAsProgram.new.self) (sym c.in-FolderAsProgram.is) (c.write-in-FolderAsProgram.ensures.writes plain ok)

pub returns-in-NotExecutable-clause-writes : goal.returns-in-NotExecutable-clause-writes
returns-in-NotExecutable-clause-writes g c = λ plain ok. subst (λ (hint : Hint). HasWritten g.W.Write.write_str_gives c.args.f.now (hint_text hint) c.write-in-NotExecutable.new.self) (sym c.in-NotExecutable.is) (c.write-in-NotExecutable.ensures.writes plain ok)

pub returns-in-SharedOutput-clause-writes : goal.returns-in-SharedOutput-clause-writes
returns-in-SharedOutput-clause-writes g c = λ plain ok. subst (λ (hint : Hint). HasWritten g.W.Write.write_str_gives c.args.f.now (hint_text hint) c.write-in-SharedOutput.new.self) (sym c.in-SharedOutput.is) (c.write-in-SharedOutput.ensures.writes plain ok)

pub returns-in-LaunchNumber-clause-writes : goal.returns-in-LaunchNumber-clause-writes
returns-in-LaunchNumber-clause-writes g c = λ plain ok. subst (λ (hint : Hint). HasWritten g.W.Write.write_str_gives c.args.f.now (hint_text hint) c.write-in-LaunchNumber.new.self) (sym c.in-LaunchNumber.is) (c.write-in-LaunchNumber.ensures.writes plain ok)

pub returns-in-SignalValue-clause-writes : goal.returns-in-SignalValue-clause-writes
returns-in-SignalValue-clause-writes g c = λ plain ok. subst (λ (hint : Hint). HasWritten g.W.Write.write_str_gives c.args.f.now (hint_text hint) c.write-in-SignalValue.new.self) (sym c.in-SignalValue.is) (c.write-in-SignalValue.ensures.writes plain ok)

pub returns-in-WordsInProgram-clause-writes : goal.returns-in-WordsInProgram-clause-writes
returns-in-WordsInProgram-clause-writes g c = λ plain ok. subst (λ (hint : Hint). HasWritten g.W.Write.write_str_gives c.args.f.now (hint_text hint) c.write-in-WordsInProgram.new.self) (sym c.in-WordsInProgram.is) (c.write-in-WordsInProgram.ensures.writes plain ok)

pub returns-in-MisspelledMacro-clause-writes : goal.returns-in-MisspelledMacro-clause-writes
returns-in-MisspelledMacro-clause-writes g c = λ plain ok. subst (λ (hint : Hint). HasWritten g.W.Write.write_str_gives c.args.f.now (hint_text hint) c.write-in-MisspelledMacro.new.self) (sym c.in-MisspelledMacro.is) (c.write-in-MisspelledMacro.ensures.writes plain ok)

pub returns-in-SpecialAsProgram-clause-writes : goal.returns-in-SpecialAsProgram-clause-writes
returns-in-SpecialAsProgram-clause-writes g c = λ plain ok. subst (λ (hint : Hint). HasWritten g.W.Write.write_str_gives c.args.f.now (hint_text hint) c.write-in-SpecialAsProgram.new.self) (sym c.in-SpecialAsProgram.is) (c.write-in-SpecialAsProgram.ensures.writes plain ok)

pub returns-in-MissingReader-clause-writes : goal.returns-in-MissingReader-clause-writes
returns-in-MissingReader-clause-writes g c = λ plain ok. subst (λ (hint : Hint). HasWritten g.W.Write.write_str_gives c.args.f.now (hint_text hint) c.write-in-MissingReader.new.self) (sym c.in-MissingReader.is) (c.write-in-MissingReader.ensures.writes plain ok)

pub returns-in-MissingFolder-clause-writes : goal.returns-in-MissingFolder-clause-writes
returns-in-MissingFolder-clause-writes g c = λ plain ok. subst (λ (hint : Hint). HasWritten g.W.Write.write_str_gives c.args.f.now (hint_text hint) c.write-in-MissingFolder.new.self) (sym c.in-MissingFolder.is) (c.write-in-MissingFolder.ensures.writes plain ok)
