-- Files that are kept once they are read.
use Rattle.std.specs.Prelude.{◌≡◌, ℕ, List, Option, Result, Some, Ok}
use Rattle.dag_reader.specs.declared.command.Command.{Command}
use Rattle.dag_reader.specs.declared.command.DagFile.{DagFile}
use Rattle.dag_reader.specs.Reading.{commands_of}
use Rattle.splices_flat.specs.declared.fault.DagFault.{DagFault}
use Rattle.splices.specs.Acting.{acting}
use Rattle.splices_flat.specs.Opening.{◌>>=◌, Files, says_at}

-- these are the lines that say something, of those that were read
abbrev pub AreActing : List Command → Result (List Command) DagFault → Type 0
AreActing commands read = (read >>= λ contents. Ok (acting contents)) ≡ Ok commands

-- what is kept of each path is what its file says
abbrev pub AreSaid : Files → (List ℕ → Option DagFile) → Type 0
AreSaid files said = (path : List ℕ) (file : DagFile) → said path ≡ Some file → AreActing (commands_of file) (says_at path (files path))
