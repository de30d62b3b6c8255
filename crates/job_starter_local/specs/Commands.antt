-- The command that the system is asked to run for a child, and how long a pause between two looks at the children is.
use Rattle.std.specs.Prelude.{◌≡◌, ℕ, Bool, false, List, Option, Some, None, fold, length, nat_le, nat_lt, ◌==◌, ◌&&◌, if◌then◌else◌}
use Rattle.std.specs.List.{position_or_len, before_first, after_first}
use Rattle.std.specs.Process.{command_program, command_args, command_var, command_dir, clears_env}
use Rattle.std.specs.Str.{bytes_eq}
use Rattle.std.specs.declared.process.command.Command.{Command}
use Rattle.splices_flat.specs.Paths.{join}
use Rattle.run_plan_node.specs.declared.command.ChildCommand.{ChildCommand}

abbrev pub is_equals : ℕ → Bool
is_equals byte = byte == 61

-- What is said of a variable after one more setting, `name=value`: its name ends at its first equals sign. A text without one sets
-- nothing.
abbrev pub variable_after : List ℕ → Option (Option (List ℕ)) → List ℕ → Option (Option (List ℕ))
variable_after name said setting =
    if nat_lt (position_or_len is_equals setting) (length setting) && bytes_eq (before_first is_equals setting) name
    then Some (Some (after_first is_equals setting)) else said

-- what is said of a variable after all these settings: what the last of it says
abbrev pub variable_behind : List ℕ → Option (Option (List ℕ)) → List (List ℕ) → Option (Option (List ℕ))
variable_behind name = fold (variable_after name)

-- The program of the child and its folder, seen from a folder, and its words. Each variable is what the last of its own settings says, or else what
-- the child inherits of its round; all others are its manager's.
pub record IsCommandOf {A : Type 0} (folder : List ℕ) (inherited : List (List ℕ)) (child : ChildCommand) (command : Command A) : Type 0 where
  pub program : command_program command ≡ join folder child.program
  pub words : command_args command ≡ child.words
  pub place : command_dir command ≡ Some (join folder child.folder)
  pub variables : (name : List ℕ) → command_var command name ≡ variable_behind name (variable_behind name None inherited) child.environment
  pub inherits : clears_env command ≡ false

-- the pause between two looks at so many children up to which each is twice as long, in microseconds: a look takes longer the more there are
abbrev pub longest_pause : ℕ → ℕ
longest_pause children =
    if nat_le children 16 then 2000 else if nat_le children 64 then 4000 else if nat_le children 256 then 10000 else 50000
