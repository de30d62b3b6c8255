-- Which lines of a rescue file say which nodes.
use Rattle.std.specs.Prelude.{◌≡◌, ℕ, ◌+◌, List, [], ◌∷◌, ◌++◌, length, Option, Ok, Err}
use Rattle.std.specs.Option.{option_to_list}
use Rattle.splices_flat.specs.Dag.{Dag}
use Rattle.rescue_file.specs.declared.fault.RescueFault.{RescueFault}
use Rattle.rescue_file.specs.Reading.{rescue_line_at}

-- These nodes are what lines say, in their order. The first line has this number.
abbrev pub SayNodes : Dag → ℕ → List (List ℕ) → List ℕ → Type 0
SayNodes dag number [] nodes = nodes ≡ []
SayNodes dag number (line ∷ more) nodes = (first : Option ℕ) × (others : List ℕ)
    × (rescue_line_at dag number line ≡ Ok first) × SayNodes dag (number + 1) more others × (nodes ≡ option_to_list first ++ others)

-- The fault is that of a line, and the lines before it have none.
abbrev pub IsFirstBadName : Dag → List (List ℕ) → RescueFault → Type 0
IsFirstBadName dag ls fault = (front : List (List ℕ)) × (line : List ℕ) × (back : List (List ℕ)) × (nodes : List ℕ)
    × (ls ≡ front ++ line ∷ back) × SayNodes dag 1 front nodes × (rescue_line_at dag (1 + length front) line ≡ Err fault)
