-- The launcher of a run.
use Rattle.std.specs.Prelude.{◌≡◌, ℕ, Bool, true, false, List, [], ◌∷◌, Option, Some, None}
use Rattle.vars_macros.specs.ArgumentGrammar.{SpellsArguments}

-- words are there, and the first of them, a program's name, is empty
abbrev pub begins_empty : List (List ℕ) → Bool
begins_empty ([] ∷ rest) = true
begins_empty _ = false

-- The words of a launcher: those that its text spells as the arguments of a submit file do, with a program's name first; none where it is not given.
pub data IsLauncherOf : Option (List ℕ) → List (List ℕ) → Type 0 where
  not_given : IsLauncherOf None []
  given : (text : List ℕ) (words : List (List ℕ)) → SpellsArguments text words → begins_empty words ≡ false → IsLauncherOf (Some text) words

-- The text is no launcher: it spells no words, or words whose first is empty.
pub data IsNoLauncher (text : List ℕ) : Type 0 where
  unspelled : ((words : List (List ℕ)) → SpellsArguments text words → ⊥) → IsNoLauncher text
  nameless : (words : List (List ℕ)) → SpellsArguments text words → begins_empty words ≡ true → IsNoLauncher text

-- a text is given, and it is no launcher
abbrev pub HasNoLauncher : Option (List ℕ) → Type 0
HasNoLauncher launcher = (text : List ℕ) × (launcher ≡ Some text) × IsNoLauncher text
