-- Which lines of a text of outcomes say which entries.
use Rattle.std.specs.Prelude.{◌≡◌, ℕ, ◌+◌, List, [], ◌∷◌, ◌++◌, length, Option, Some, None}
use Rattle.std.specs.Option.{option_to_list}
use Rattle.node_machine.specs.OutcomeTable.{Entry}
use Rattle.node_machine.specs.OutcomesReading.{entry_at}

-- These entries are what lines say, in their order. The first line has this number.
abbrev pub SayEntries : ℕ → List (List ℕ) → List Entry → Type 0
SayEntries number [] entries = entries ≡ []
SayEntries number (line ∷ more) entries = (first : Option Entry) × (others : List Entry)
    × (entry_at number line ≡ Some first) × SayEntries (number + 1) more others × (entries ≡ option_to_list first ++ others)

-- The line with this number says neither an entry nor nothing, and each line before it does.
abbrev pub IsFirstBadEntry : List (List ℕ) → ℕ → Type 0
IsFirstBadEntry ls number = (front : List (List ℕ)) × (line : List ℕ) × (back : List (List ℕ)) × (entries : List Entry)
    × (ls ≡ front ++ line ∷ back) × SayEntries 1 front entries × (number ≡ 1 + length front) × (entry_at number line ≡ None)
