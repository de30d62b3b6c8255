-- What comes before the commands of jobs (docs/MANUAL.md, "On a cluster: --launcher").
use Rattle.std.specs.Prelude.{◌≡◌, ℕ, Bool, true, false, not, ◌&&◌, ◌==◌, List, ◌∷◌, ◌++◌, Option, Some, None, if◌then◌else◌}
use Rattle.splices_flat.specs.Paths.{join}
use Rattle.node_machine.specs.declared.Key.{Key}
use Rattle.node_machine.specs.declared.Phase.{Phase}
use Rattle.node_machine.specs.declared.Phase.TheVariants.{Pre, Job, Post}
use Rattle.run_plan_node.specs.declared.command.ChildCommand.{ChildCommand}
use Rattle.run_plan_node.specs.Node.{NodeSpec}
use Rattle.run_plan_node.specs.Requests.{requests_of}
use Rattle.job_starter_local.specs.declared.launching.Launcher.{Launcher}

-- a job, and no script
abbrev pub is_job : Phase → Bool
is_job Pre = false
is_job Job = true
is_job Post = false

-- the node whose job is started by itself all the same
abbrev pub is_spared : Option ℕ → ℕ → Bool
is_spared None node = false
is_spared (Some spared) node = spared == node

-- A launcher comes before the jobs of all nodes but the spared one, and before no script.
abbrev pub has_launcher : Option ℕ → Key → Bool
has_launcher spared key = is_job key.phase && not (is_spared spared key.node)

-- The launcher's program and its words, then the path of the command's own program as it would be started, then the command's words. The folder
-- and the streams are those of the command. The environment has what the job asks of a cluster, and then the command's own settings, of which
-- the last one counts.
abbrev pub behind_launcher : Option (List ℕ) → List (List ℕ) → List ℕ → List (List ℕ) → ChildCommand → ChildCommand
behind_launcher None words folder requests command = command
behind_launcher (Some program) words folder requests command =
    record command { program = program; words = words ++ join folder command.program ∷ command.words; environment = requests ++ command.environment }

-- By which command the child of a key is started, which has this command of its own, seen from a folder; its node's job asks for this.
abbrev pub started_by : Launcher → List ℕ → Key → NodeSpec → ChildCommand → ChildCommand
started_by launcher folder key node command =
    if has_launcher launcher.spared key
    then behind_launcher launcher.program launcher.words folder (requests_of node key.attempt) command else command

-- what the child of a key prints is kept: it is a script
abbrev pub is_output_kept : Launcher → Key → Bool
is_output_kept launcher key = launcher.keeps_output && not (is_job key.phase)

-- The child of a key is started by this command, which has that one of its own: by the one above. Where what it prints is kept, other files may take
-- its output and its errors.
pub record IsStartedBy (launcher : Launcher) (folder : List ℕ) (key : Key) (node : NodeSpec) (own started : ChildCommand) : Type 0 where
  pub is : started ≡ record (started_by launcher folder key node own) { output = started.output; error = started.error }
  pub streams : is_output_kept launcher key ≡ false → started ≡ started_by launcher folder key node own
