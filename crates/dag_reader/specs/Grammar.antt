-- Which lines say which commands.
use Rattle.std.specs.Prelude.{◌≡◌, ℕ, ◌+◌, List, [], ◌∷◌, ◌++◌, length, Option, Ok, Err}
use Rattle.std.specs.Option.{option_to_list}
use Rattle.dag_reader.specs.declared.command.Command.{Command}
use Rattle.dag_reader.specs.declared.fault.ReadFault.{ReadFault}
use Rattle.dag_reader.specs.declared.fault.ReadFault.TheVariants as faults
use Rattle.dag_reader.specs.Reading.{line_at}

-- These commands are what lines say, in their order. The first line has this number.
abbrev pub SayAll : ℕ → List (List ℕ) → List Command → Type 0
SayAll number [] cs = cs ≡ []
SayAll number (line ∷ more) cs = (first : Option Command) × (others : List Command)
    × (line_at number line ≡ Ok first) × SayAll (number + 1) more others × (cs ≡ option_to_list first ++ others)

-- The fault is that of a line, and the lines before it have none.
abbrev pub IsFirstBad : List (List ℕ) → ReadFault → Type 0
IsFirstBad ls faults.Memory = Unit {0}
IsFirstBad ls (faults.Line f) = (front : List (List ℕ)) × (line : List ℕ) × (back : List (List ℕ)) × (cs : List Command)
    × (ls ≡ front ++ line ∷ back) × SayAll 1 front cs × (line_at (1 + length front) line ≡ Err f)
