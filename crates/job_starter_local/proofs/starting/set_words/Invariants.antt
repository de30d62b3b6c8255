use Rattle.std.proofs.Common.{◌≡◌, ◌++◌, take}
use Rattle.std.specs.Process.{command_args, command_program, SameEnv}
use Rattle.job_starter_local.proofs.starting.set_words.Given as goal

abbrev pub invariant-loop-word : goal.invariant-loop-word
invariant-loop-word l =
    (command_args l.command ≡ command_args l.fn.command ++ take l.word-index l.words) × (command_program l.command ≡ command_program l.fn.command) × SameEnv l.fn.command l.command
