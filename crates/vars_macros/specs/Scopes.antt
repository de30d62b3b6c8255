-- Scopes and meanings as the code has them.
use Rattle.std.specs.Prelude.{ℕ, List}
use Rattle.std.specs.Str.{IsUtf8}
use Rattle.vars_macros.specs.Texts.{AreTexts}
use Rattle.vars_macros.specs.Meaning as meaning
use Rattle.vars_macros.specs.NameTable.{HaveSameNumbers}
use Rattle.vars_macros.specs.Places.{macros_in}
use Rattle.vars_macros.specs.declared.numbering.Names.{Names}
use Rattle.vars_macros.specs.declared.part.Part.{Part}
use Rattle.vars_macros.specs.declared.scope.Scope.{Scope}
use Rattle.vars_macros.specs.declared.meaning.Meaning.{Meaning}
use Rattle.vars_macros.specs.declared.meaning.Meaning.TheVariants.{Fixed, Value}

-- a scope without where it lies in memory
abbrev pub scope_seen : Scope → meaning.MacroScope
scope_seen s = record { assigned = macros_in s.assigned.now; job = s.job.now; retry = s.retry.now; launch = s.launch.now }

-- all of its texts are UTF-8
pub record IsTextScope (s : meaning.MacroScope) : Type 0 where
  pub assigned : AreTexts s.assigned
  pub job : IsUtf8 s.job
  pub retry : IsUtf8 s.retry
  pub launch : IsUtf8 s.launch

abbrev pub meaning_of : Meaning → meaning.Meaning
meaning_of (Fixed whole text) = meaning.Fixed whole text.now
meaning_of (Value vars text) = meaning.Value vars text.bytes.now

-- the names of the text have the numbers of this table
abbrev pub HasNames : Names → Meaning → Type 0
HasNames names (Fixed whole text) = Unit {0}
HasNames names (Value vars text) = HaveSameNumbers text.names.now names

-- a part's text
abbrev pub text_of_part : Part → List ℕ
text_of_part p = p.bytes.now
