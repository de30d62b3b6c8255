-- The files of a set as they are read, as the code has them.
use Rattle.std.specs.Prelude.{List, Result, Ok, Err}
use Rattle.dag_reader.specs.declared.command.Command.{Command}
use Rattle.dag_reader.specs.Reading.{commands_of}
use Rattle.splices_flat.specs.declared.fault.DagFault.{DagFault}
use Rattle.splices_flat.specs.declared.fault.SpliceFault.{SpliceFault}
use Rattle.splices.specs.Adds.{Fails}
use Rattle.splices_flat.specs.FileSet.{bytes_of}
use Rattle.splices.specs.SaidFiles.{AreActing}
use Rattle.splices_flat.specs.Opening.{Files}
use Rattle.splices.specs.declared.parsed_files.ParsedFiles.{ParsedFiles}
use Rattle.splices.specs.declared.parsed_files.FileRead.{FileRead}
use Rattle.splices.specs.declared.parsed_files.FileRead.TheVariants.{Kept, New}

-- the bytes of the files
abbrev pub files_in : ParsedFiles → Files
files_in parsed_files = bytes_of parsed_files.files.now

abbrev pub commands_of_file : FileRead → List Command
commands_of_file (Kept file) = commands_of file.now
commands_of_file (New file) = commands_of file

-- a file was read
abbrev pub ReadsFile : Result FileRead SpliceFault → Result (List Command) DagFault → Type 0
ReadsFile (Ok file) read = AreActing (commands_of_file file) read
ReadsFile (Err e) read = Fails e read
