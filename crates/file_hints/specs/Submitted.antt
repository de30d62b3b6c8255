-- What is odd in a submit file.
use Rattle.std.specs.Prelude.{ℕ, Bool, not, ◌||◌, ◌&&◌, ◌==◌, List, [], ◌∷◌, ◌++◌, find, Option, Some, None, if◌then◌else◌, codes}
use Rattle.std.specs.Option.{option_map}
use Rattle.std.specs.List.{list_any, take_while}
use Rattle.std.specs.Borrow.{Bor}
use Rattle.std.specs.Str.{str_eq_ignore_ascii_case}
use Rattle.submit_file.specs.declared.submit.Assignment.{Assignment}
use Rattle.submit_file.specs.declared.placed.PlacedAssignment.{PlacedAssignment}
use Rattle.file_hints.specs.References.{references, begins_with}
use Rattle.file_hints.specs.declared.macros.Reference.{Reference}
use Rattle.file_hints.specs.declared.names.CommandNames.{CommandNames}
use Rattle.file_hints.specs.declared.hint.Hint.{Hint}
use Rattle.file_hints.specs.declared.hint.Hint.TheVariants.{UnknownName, PassedOver, BelowQueue, Unassigned}
use Rattle.file_hints.specs.declared.hint.Finding.{Finding}

-- the same word in any case of ASCII letters
unfoldable pub is_same_word : List ℕ → List ℕ → Bool
is_same_word word text = str_eq_ignore_ascii_case word text

-- a name is one of these words
abbrev pub is_word_listed : List (Bor (List ℕ)) → List ℕ → Bool
is_word_listed words name = list_any (λ w. is_same_word w.now name) words

-- what the first row of a name says
abbrev pub Row : Type 0
Row = Bor (List ℕ) × Bor (List ℕ)

abbrev pub advice_in : List Row → List ℕ → Option (List ℕ)
advice_in rows name = option_map (λ row. row.1.now) (find (λ row. is_same_word row.0.now name) rows)

-- an attribute of a job's own: after a plus (43), or what is before the first full stop (46) is MY
abbrev pub is_attribute : List ℕ → Bool
is_attribute name = begins_with 43 name || is_same_word (take_while (λ b. not (b == 46)) name) (codes "my")

-- one of these references is to the name
abbrev pub is_referred : List Reference → List ℕ → Bool
is_referred referred name = list_any (λ r. is_same_word r.name name) referred

-- what dagrun reads, what means nothing here, what is a job's own, and a macro that is referred to
abbrev pub is_meant : CommandNames → List Reference → List ℕ → Bool
is_meant names referred name = (is_word_listed names.read.now name || is_word_listed names.harmless.now name) || (is_attribute name || is_referred referred name)

-- What is odd in a name above the queue line, for which there is this advice, or none.
abbrev pub hint_by : CommandNames → List Reference → List ℕ → Option (List ℕ) → Option Hint
hint_by names referred name (Some advice) = Some (PassedOver name advice)
hint_by names referred name None = if is_meant names referred name then None else Some (UnknownName name)

abbrev pub name_hint : CommandNames → List Reference → PlacedAssignment → Option Hint
name_hint names referred p =
    if p.counts then hint_by names referred p.assignment.name (advice_in names.passed_over.now p.assignment.name) else Some (BelowQueue p.assignment.name)

-- the name is assigned above the queue line
abbrev pub has_name : List PlacedAssignment → List ℕ → Bool
has_name placed name = list_any (λ p. p.counts && is_same_word p.assignment.name name) placed

-- the same, or by a VARS line
abbrev pub is_macro_assigned : List PlacedAssignment → List Assignment → List ℕ → Bool
is_macro_assigned placed vars name = has_name placed name || list_any (λ a. is_same_word a.name name) vars

-- nothing stands for a reference
abbrev pub is_empty_reference : CommandNames → List PlacedAssignment → List Assignment → Reference → Bool
is_empty_reference names placed vars r = not ((r.has_default || is_word_listed names.given.now r.name) || is_macro_assigned placed vars r.name)

-- the findings of a line
abbrev pub findings_at : ℕ → Option Hint → List Finding
findings_at line None = []
findings_at line (Some hint) = record { line = line; hint = hint } ∷ []

abbrev pub macro_hint : CommandNames → List PlacedAssignment → List Assignment → Reference → Option Hint
macro_hint names placed vars r = if is_empty_reference names placed vars r then Some (Unassigned r.name) else None

abbrev pub macro_findings : CommandNames → List PlacedAssignment → List Assignment → ℕ → List Reference → List Finding
macro_findings names placed vars line [] = []
macro_findings names placed vars line (r ∷ rs) = findings_at line (macro_hint names placed vars r) ++ macro_findings names placed vars line rs

-- those of a value: one below the queue line has no effect
abbrev pub value_findings : CommandNames → List PlacedAssignment → List Assignment → PlacedAssignment → List Finding
value_findings names placed vars p = if p.counts then macro_findings names placed vars p.line (references p.assignment.value) else []

abbrev pub findings_of : CommandNames → List Reference → List PlacedAssignment → List Assignment → PlacedAssignment → List Finding
findings_of names referred placed vars p = findings_at p.line (name_hint names referred p) ++ value_findings names placed vars p

abbrev pub findings_from : CommandNames → List Reference → List PlacedAssignment → List Assignment → List PlacedAssignment → List Finding
findings_from names referred placed vars [] = []
findings_from names referred placed vars (p ∷ ps) = findings_of names referred placed vars p ++ findings_from names referred placed vars ps

-- the references of all values, of the file and of VARS lines
abbrev pub placed_references : List PlacedAssignment → List Reference
placed_references [] = []
placed_references (p ∷ ps) = references p.assignment.value ++ placed_references ps

abbrev pub assigned_references : List Assignment → List Reference
assigned_references [] = []
assigned_references (a ∷ more) = references a.value ++ assigned_references more

-- what is odd in a submit file, in the order of its lines
abbrev pub submit_findings : CommandNames → List PlacedAssignment → List Assignment → List Finding
submit_findings names placed vars = findings_from names (placed_references placed ++ assigned_references vars) placed vars placed
