-- Paths in shell commands.
use Rattle.std.specs.Prelude.{ℕ, List, ◌++◌, codes, if◌then◌else◌}
use Rattle.file_hints.specs.References.{begins_with}
use Rattle.log_lines.specs.Words.{word_text}

-- before a dash (45) comes `./`, so that no command takes the path for an option
abbrev pub below_here : List ℕ → List ℕ
below_here path = if begins_with 45 path then codes "./" ++ path else path

-- a path as a shell reads it after the name of a command
abbrev pub shell_path : List ℕ → List ℕ
shell_path path = word_text (below_here path)
