-- What is odd in a program or a folder.
use Rattle.std.specs.Prelude.{ℕ, Bool, true, false, ◌&&◌, ◌==◌, List, [], ◌∷◌, drop, Option, Some, None, if◌then◌else◌}
use Rattle.dag_reader.specs.Keywords.{begins_with}
use Rattle.file_hints.specs.ShellPath.{shell_path}
use Rattle.file_hints.specs.declared.hint.Hint.{Hint}
use Rattle.file_hints.specs.declared.hint.Hint.TheVariants.{MissingProgram, FolderAsProgram, SpecialAsProgram, NotExecutable, CarriageReturn, MissingFolder}
use Rattle.file_hints.specs.declared.programs.ProgramState.{ProgramState}
use Rattle.file_hints.specs.declared.programs.ProgramState.TheVariants as states

abbrev pub program_hint : List ℕ → ProgramState → Option Hint
program_hint path states.Runs = None
program_hint path states.Missing = Some (MissingProgram path)
program_hint path states.Folder = Some (FolderAsProgram path)
program_hint path states.Special = Some (SpecialAsProgram path)
program_hint path states.NotExecutable = Some (NotExecutable path (shell_path path))
program_hint path states.CarriageReturn = Some (CarriageReturn path (shell_path path))

abbrev pub folder_hint : List ℕ → (is_there : Bool) → Option Hint
folder_hint path true = None
folder_hint path false = Some (MissingFolder path (shell_path path))

-- the first line ends (10) right after its first carriage return (13)
abbrev pub ends_with_return : List ℕ → Bool
ends_with_return [] = false
ends_with_return (b ∷ bs) = if b == 10 then false else if b == 13 then begins_with 10 bs else ends_with_return bs

-- the bytes begin with a number sign (35) and an exclamation mark (33)
abbrev pub says_reader : List ℕ → Bool
says_reader bytes = begins_with 35 bytes && begins_with 33 (drop 1 bytes)

abbrev pub program_state_by : (is_executable : Bool) → List ℕ → ProgramState
program_state_by is_executable bytes =
    if is_executable
    then (if says_reader bytes && ends_with_return (drop 2 bytes) then states.CarriageReturn else states.Runs)
    else states.NotExecutable
