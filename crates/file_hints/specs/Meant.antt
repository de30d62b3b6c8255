-- The names that may have been meant: of commands, and of macros.
use Rattle.std.specs.Prelude.{◌≡◌, ◌==◌, ◌&&◌, not, ℕ, List, [], ◌∷◌, ◌++◌, Option, Some, None, map, find, option_and_then, if◌then◌else◌}
use Rattle.std.specs.Str.{str_to_ascii_lowercase}
use Rattle.fault_guide.specs.Near.{IsNearest}
use Rattle.submit_file.specs.declared.submit.Assignment.{Assignment}
use Rattle.submit_file.specs.declared.placed.PlacedAssignment.{PlacedAssignment}
use Rattle.file_hints.specs.Submitted.{is_same_word}
use Rattle.file_hints.specs.declared.names.CommandNames.{CommandNames}
use Rattle.file_hints.specs.declared.hint.Hint.{Hint}
use Rattle.file_hints.specs.declared.hint.Hint.TheVariants.{UnknownName, Misspelled, Unassigned, MisspelledMacro}
use Rattle.file_hints.specs.declared.hint.Finding.{Finding}

-- the names of all commands
abbrev pub known_names : CommandNames → List (List ℕ)
known_names names = map (λ w. w.now) names.read.now ++ (map (λ row. row.0.now) names.passed_over.now ++ map (λ w. w.now) names.harmless.now)

-- the hint for a name of nothing, where this command is near, or none
abbrev pub guess_of : List ℕ → Option (List ℕ) → Hint
guess_of name None = UnknownName name
guess_of name (Some meant) = Misspelled name meant

-- A name of nothing has the nearest of these commands beside it, where one is near; any other hint stays.
abbrev pub IsBetterHint : List (List ℕ) → Hint → Hint → Type 0
IsBetterHint known (UnknownName name) better = (meant : Option (List ℕ)) × IsNearest (str_to_ascii_lowercase name) known meant × (better ≡ guess_of name meant)
IsBetterHint known hint better = better ≡ hint

-- the names to which something is assigned above the queue line, but on this line
abbrev pub names_above : (line : ℕ) → List PlacedAssignment → List (List ℕ)
names_above line [] = []
names_above line (p ∷ ps) = if p.counts && not (p.line == line) then p.assignment.name ∷ names_above line ps else names_above line ps

-- the macros that a value on this line may refer to: those of the submit file, of VARS lines, and those that are always given
abbrev pub macro_names : CommandNames → List PlacedAssignment → List Assignment → (line : ℕ) → List (List ℕ)
macro_names names placed vars line = names_above line placed ++ (map (λ a. a.name) vars ++ map (λ w. w.now) names.given.now)

-- the first of some words that is this one in any case of ASCII letters
abbrev pub first_same : List (List ℕ) → List ℕ → Option (List ℕ)
first_same words word = find (λ w. is_same_word w word) words

-- the nearest of some words whatever their case, as it is written where it comes first; none where none is near
pub record IsNearestInAnyCase (word : List ℕ) (words : List (List ℕ)) (found : Option (List ℕ)) : Type 0 where
  pub lower : Option (List ℕ)
  pub nearest : IsNearest (str_to_ascii_lowercase word) (map str_to_ascii_lowercase words) lower
  pub shown : found ≡ option_and_then (first_same words) lower

-- the hint for a macro that is assigned nowhere, where this one is near, or none
abbrev pub macro_guess : List ℕ → Option (List ℕ) → Hint
macro_guess name None = Unassigned name
macro_guess name (Some meant) = MisspelledMacro name meant

-- A macro that is assigned nowhere has the nearest of these beside it, where one is near; any other hint stays.
abbrev pub IsBetterMacro : List (List ℕ) → Hint → Hint → Type 0
IsBetterMacro macros (Unassigned name) better = (meant : Option (List ℕ)) × IsNearestInAnyCase name macros meant × (better ≡ macro_guess name meant)
IsBetterMacro macros hint better = better ≡ hint

-- each finding stays on its line, with a hint that is better in this sense
abbrev pub AreBetterIn : (Finding → Hint → Type 0) → List Finding → List Finding → Type 0
AreBetterIn IsBetter [] better = better ≡ []
AreBetterIn IsBetter (f ∷ fs) better = (g : Finding) × (more : List Finding) × (better ≡ g ∷ more) × (g.line ≡ f.line) × IsBetter f g.hint × AreBetterIn IsBetter fs more

-- with the commands that may have been meant, and with the macros
abbrev pub AreBetter : List (List ℕ) → List Finding → List Finding → Type 0
AreBetter known found better = AreBetterIn (λ f hint. IsBetterHint known f.hint hint) found better

abbrev pub AreBetterMacros : CommandNames → List PlacedAssignment → List Assignment → List Finding → List Finding → Type 0
AreBetterMacros names placed vars found better = AreBetterIn (λ f hint. IsBetterMacro (macro_names names placed vars f.line) f.hint hint) found better
