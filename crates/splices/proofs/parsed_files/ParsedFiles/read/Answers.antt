use Rattle.std.proofs.Common.{sym}
use Rattle.dag_reader.specs.Reading.{commands_of}
use Rattle.splices.proofs.Said.{acting_said}
use Rattle.splices.proofs.parsed_files.ParsedFiles.read.Goals as goal

pub returns-in-Some : goal.returns-in-Some
returns-in-Some c = c.args.self.now.sound c.args.path.now c.in-Some.file.now (sym c.in-Some.ensures.value)

pub returns-in_ok-file-in-None : goal.returns-in_ok-file-in-None
returns-in_ok-file-in-None c = acting_said _ (commands_of c.in_ok-file-in-None.file) (commands_of c.without_idle.result) c.in_ok-file-in-None.ensures c.without_idle.ensures
