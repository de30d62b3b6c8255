-- The launcher of a run (docs/MANUAL.md, "On a cluster: --launcher").
use Rattle.std.specs.Prelude.{◌≡◌, ℕ, List, drop, slice_get, Option, Some, None, is_some, unwrap_or, String, string_bytes, if◌then◌else◌}
use Rattle.std.specs.Global.{Global}
use Rattle.dag_main_args.specs.declared.request.RunOptions.{RunOptions}
use Rattle.job_starter_local.specs.declared.launching.Launcher.{Launcher}
use Rattle.dag_main_check.specs.declared.fault.RunFault.{RunFault}
use Rattle.dag_main_check.specs.declared.fault.RunFault.TheVariants.{FileRefused, Memory}

-- FINAL, whose number is after those of the other nodes: its job is started by itself, unless the options ask for the launcher.
abbrev pub spared_by : RunOptions → ℕ → Option ℕ
spared_by options final = if options.launcher_final then None else Some final

-- The launcher of the options: a program where they have one, their words after its name, the node that it spares, and how many seconds it has to
-- end, which are ten where the options don't say it; and what scripts print is kept where they ask for it.
pub record IsLauncherBy (options : RunOptions) (final : ℕ) (launcher : Launcher) : Type 0 where
  pub program : is_some launcher.program ≡ is_some (slice_get options.launcher 0)
  pub words : launcher.words ≡ drop 1 options.launcher
  pub spared : launcher.spared ≡ spared_by options final
  pub grace : launcher.grace ≡ unwrap_or options.launcher_grace 10
  pub keeps_output : launcher.keeps_output ≡ options.script_output

-- Why there is none: its program isn't found; or memory ran out.
pub data IsLauncherFault (given : List (List ℕ)) : RunFault → Type 0 where
  not_found : (program : String Global) → slice_get given 0 ≡ Some (string_bytes program) → IsLauncherFault given (FileRefused program)
  finding_had_no_memory : IsLauncherFault given Memory
