-- The pages of help.
use Rattle.std.specs.Prelude.{◌≡◌, false, List, [], ◌∷◌, Option, Some}
use Rattle.clap.specs.Walk.{Text}
use Rattle.clap.specs.Simple.{App}
use Rattle.clap.specs.Faults.{fault_of}
use Rattle.clap.specs.declared.error.ErrorKind.TheVariants.{DisplayHelp}
use Rattle.dag_main_args.specs.Matched.{command_names, is_text_among}
use Rattle.dag_main_args.specs.Table.{IsDagrunApp}

-- words to which clap answers otherwise than by help
pub record IsUnhelpful (words : List Text) : Type 0 where
  pub app : App
  pub table : IsDagrunApp false app
  pub other : fault_of app words ≡ DisplayHelp ∷ [] → ⊥

-- help is asked for of what is no command
abbrev pub HasNoHelp : Option Text → Type 0
HasNoHelp command = (name : Text) × (command ≡ Some name) × (is_text_among command_names name ≡ false)
