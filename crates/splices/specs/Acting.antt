-- The lines of a file that say something, as the code keeps them.
use Rattle.std.specs.Prelude.{◌==◌, Bool, true, false, not, List, filter, Option, Some, None, if◌then◌else◌}
use Rattle.dag_reader.specs.declared.command.Command.{Command}
use Rattle.dag_reader.specs.declared.command.Target.{Target}
use Rattle.dag_reader.specs.declared.command.Target.TheVariants.{Node, AllNodes}
use Rattle.splices_flat.specs.Nodes.{own_count}
use Rattle.splices_flat.specs.Settings.{setting_target}

abbrev pub is_all : Option Target → Bool
is_all None = false
is_all (Some (Node word)) = false
is_all (Some (AllNodes span)) = true

-- a setting for ALL_NODES
abbrev pub is_for_all : Command → Bool
is_for_all c = is_all (setting_target c)

-- without JOB lines settings for ALL_NODES say nothing
abbrev pub acting : List Command → List Command
acting commands = if own_count commands == 0 then filter (λ c. not (is_for_all c)) commands else commands
