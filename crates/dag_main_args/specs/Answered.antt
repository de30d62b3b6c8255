-- What is answered to the words of a command line.
use Rattle.std.specs.Prelude.{◌≡◌, ◌⊎◌, ◌&&◌, ◌||◌, Bool, true, false, List, [], Option, Some, None, codes, is_some}
use Rattle.std.specs.Option.{option_map_or}
use Rattle.clap.specs.Walk.{Row, Text, first_of}
use Rattle.clap.specs.Simple.{App, subcommand_of}
use Rattle.clap.specs.Faults.{fault_of}
use Rattle.clap.specs.Takes.{takes}
use Rattle.dag_main_args.specs.declared.request.Request.{Request}
use Rattle.dag_main_args.specs.Launchers.{HasNoLauncher}
use Rattle.dag_main_args.specs.Helps.{HasNoHelp}
use Rattle.dag_main_args.specs.Pages.{IsUnexplained}
use Rattle.dag_main_args.specs.Matched.{IsRequestOf, is_set}
use Rattle.dag_main_args.specs.Table.{IsDagrunApp}

-- two of these flags are set
abbrev pub are_two : (one other third fourth : Bool) → Bool
are_two one other third fourth =
    (one && other) || (one && third) || (one && fourth) || (other && third) || (other && fourth) || (third && fourth)

-- A run is to go on where the last round has ended, and to go back to a rescue file; or phases are asked for in two forms, of JSON, a picture, a summary and rounds; or
-- nodes of one shape are to have one box, and each node one of its own; or files are to be drawn as they are and as they were.
abbrev pub has_clash : List Row → Bool
has_clash rows = (is_set (codes "resume") rows && is_some (first_of (codes "dorescuefrom") rows))
    || are_two (is_set (codes "json") rows) (is_set (codes "svg") rows) (is_set (codes "summary") rows) (is_set (codes "rounds") rows)
    || (is_set (codes "fold") rows && is_set (codes "no-fold") rows)
    || (is_set (codes "as-is") rows && is_set (codes "as-begun") rows)

-- the rows that are matched have two options of which one can't be given with the other
abbrev pub clashes : Option (Text × List Row) → Bool
clashes matched = option_map_or (λ p. has_clash p.1) matched false

-- the request is what the words ask for: clap finds no fault in them by the program's table, and matches them to a command, which asks for it
pub record IsAskedFor (words : List Text) (request : Request) : Type 0 where
  pub app : App
  pub table : IsDagrunApp false app
  pub faultless : fault_of app words ≡ []
  pub command : Text
  pub rows : List Row
  pub matches : subcommand_of app words ≡ Some (command, rows)
  pub alone : clashes (Some (command, rows)) ≡ false
  pub asked : IsRequestOf command rows request

-- why a command asks for nothing by what was matched to it: its launcher is no words, no fault has its code, or there is no such command to
-- tell of
pub data AsksForNone (command : Text) (rows : List Row) : Type 0 where
  no_launcher : command ≡ codes "run" → HasNoLauncher (first_of (codes "launcher") rows) → AsksForNone command rows
  no_fault : command ≡ codes "explain" → IsUnexplained (first_of (codes "CODE") rows) → AsksForNone command rows
  no_help : command ≡ codes "help" → HasNoHelp (first_of (codes "COMMAND") rows) → AsksForNone command rows

abbrev pub AsksNothing : Option (Text × List Row) → Type 0
AsksNothing None = ⊥
AsksNothing (Some matched) = AsksForNone matched.0 matched.1

-- what was matched is no request
abbrev pub IsInVain : Option (Text × List Row) → Type 0
IsInVain matched = (clashes matched ≡ true) ⊎ AsksNothing matched

-- clap finds a fault in the words, and doesn't take them; or they clash, or ask for nothing
pub record IsRefused (words : List Text) : Type 0 where
  pub app : App
  pub table : IsDagrunApp false app
  pub faultless : fault_of app words ≡ [] → IsInVain (subcommand_of app words)
  pub taken : takes app words ≡ true → IsInVain (subcommand_of app words)
