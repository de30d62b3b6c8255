use Rattle.std.proofs.Common.{◌≡◌, ℕ, List, fold, take}
use Rattle.std.specs.Process.{command_var, clears_env, SameProgramAndArgs}
use Rattle.job_starter_local.specs.Commands.{variable_after}
use Rattle.job_starter_local.proofs.starting.set_environment.Given as goal

abbrev pub invariant-loop-setting : goal.invariant-loop-setting
invariant-loop-setting l =
    ((name : List ℕ) → command_var l.command name ≡ fold (variable_after name) (command_var l.fn.command name) (take l.setting-index l.settings))
    × SameProgramAndArgs l.fn.command l.command × (clears_env l.command ≡ clears_env l.fn.command)
