-- Double quotes in arguments of the old style.
use Rattle.std.specs.Prelude.{ℕ, Bool, true, false, not, ◌&&◌, ◌==◌, List, [], ◌∷◌, Option, Some, None, if◌then◌else◌}
use Rattle.dag_reader.specs.Keywords.{begins_with}
use Rattle.file_hints.specs.declared.hint.Hint.{Hint}
use Rattle.file_hints.specs.declared.hint.Hint.TheVariants.{BareQuote}

-- a double quote (34) is in a text that comes after this byte, with no backslash (92) before it
abbrev pub has_bare_quote : (before : ℕ) → List ℕ → Bool
has_bare_quote before [] = false
has_bare_quote before (b ∷ bs) = if b == 34 && not (before == 92) then true else has_bare_quote b bs

-- arguments that don't begin with a double quote are of the old style, in which such a quote is a letter; before the first byte is none (0)
abbrev pub quote_hint : List ℕ → Option Hint
quote_hint text = if begins_with 34 text then None else if has_bare_quote 0 text then Some BareQuote else None
