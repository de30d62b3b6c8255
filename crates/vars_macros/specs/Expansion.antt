-- The expansion of a text.
use Rattle.std.specs.Prelude.{ℕ, zero, suc, Bool, true, false, ◌||◌, ◌+◌, nat_lt, List, [], ◌∷◌, ◌++◌, map, length, Result, Ok, Err, if◌then◌else◌}
use Rattle.vars_macros.specs.Names.{is_reference_name, is_name_open}
use Rattle.vars_macros.specs.Cut.{Piece, End, Plain, Reference, Bad, first_piece, reference_name, default_of}
use Rattle.vars_macros.specs.Meaning.{MacroScope, Meaning, Fixed, Value, stands_for}
use Rattle.vars_macros.specs.declared.assignment.Macro.{Macro}
use Rattle.vars_macros.specs.declared.fault.MacroFault.{MacroFault}
use Rattle.vars_macros.specs.declared.fault.MacroFault.TheVariants.{Loop, TooLong, BadReference}

-- What is met when a text is expanded from the left: a byte of the result, a reference that is replaced (by what is
-- known in a whole run alone, or not), or what is refused.
pub data Event : Type 0 where
  Wrote : ℕ → Event
  Replaced : Bool → Event
  Refused : MacroFault → Event

-- a function that gives what is met in a text, given the names that are opened and whether the text is from a VARS line
abbrev pub Expander : Type 0
Expander = List (List ℕ) → Bool → List ℕ → List Event

-- The value of a name: refused within its own expansion, else expanded with the name opened.
abbrev pub value_events : Expander → List (List ℕ) → List ℕ → Bool → List ℕ → Bool → List Event
value_events expand opened name vars text true = Refused Loop ∷ []
value_events expand opened name vars text false = Replaced false ∷ expand (opened ++ name ∷ []) vars text

-- what a name stands for
abbrev pub meaning_events : Expander → List (List ℕ) → List ℕ → Meaning → List Event
meaning_events expand opened name (Fixed whole text) = Replaced whole ∷ map Wrote text
meaning_events expand opened name (Value vars text) = value_events expand opened name vars text (is_name_open opened name)

-- a reference to the name
abbrev pub reference_events : Expander → MacroScope → List (List ℕ) → Bool → List ℕ → List Event
reference_events expand s opened vars inside =
    if is_reference_name (reference_name inside) then meaning_events expand opened (reference_name inside) (stands_for s vars (reference_name inside) (default_of inside))
    else Refused BadReference ∷ []

-- What is met in a text that is cut at its first piece: the piece's, and what is met in the rest.
abbrev pub piece_events : Expander → MacroScope → List (List ℕ) → Bool → Piece → List Event
piece_events expand s opened vars End = []
piece_events expand s opened vars (Plain b rest) = Wrote b ∷ expand opened vars rest
piece_events expand s opened vars (Reference inside rest) = reference_events expand s opened vars inside ++ expand opened vars rest
piece_events expand s opened vars (Bad fault) = Refused fault ∷ []

-- what is met in a text, if expand gives what is met in shorter texts and in values of names that are not opened
abbrev pub one_cut : Expander → MacroScope → Expander
one_cut expand s opened vars text = piece_events expand s opened vars (first_piece text)

-- with at most this many cuts one after another
abbrev pub events_within : ℕ → MacroScope → Expander
events_within zero s opened vars text = []
events_within (suc cuts) s opened vars text = one_cut (events_within cuts s) s opened vars text

-- the lengths of the assignments whose names are not opened
abbrev pub room : List Macro → List (List ℕ) → ℕ
room [] opened = 0
room (m ∷ ms) opened = (if is_name_open opened m.name then 0 else length m.value + 1) + room ms opened

-- What is met in a text. There are always cuts enough (`laws::cuts_enough`).
unfoldable pub events : MacroScope → Expander
events s opened vars text = events_within (room s.assigned opened + length text) s opened vars text

-- what was written so far, how many references were replaced, and whether one of them is known in a whole run alone
pub record Tally : Type 0 where
  pub written : List ℕ
  pub replaced : ℕ
  pub whole : Bool

abbrev pub no_tally : Tally
no_tally = record { written = []; replaced = 0; whole = false }

pub record Expansion : Type 0 where
  pub text : List ℕ
  pub whole_run : Bool

abbrev pub finished : Tally → Expansion
finished t = record { text = t.written; whole_run = t.whole }

-- What is met, counted from the left: the result, or the first refusal. No more than 65,536 bytes are written, and no
-- more than 65,536 references replaced.
unfoldable pub counted : Tally → List Event → Result Expansion MacroFault
counted t [] = Ok (finished t)
counted t (Wrote b ∷ es) = if nat_lt (length t.written) 65536 then counted (record t { written = t.written ++ b ∷ [] }) es else Err TooLong
counted t (Replaced whole ∷ es) = if nat_lt t.replaced 65536 then counted (record t { replaced = t.replaced + 1; whole = t.whole || whole }) es else Err TooLong
counted t (Refused fault ∷ es) = Err fault

-- the expansion of a text, of a VARS line or of a submit file
abbrev pub expansion : MacroScope → Bool → List ℕ → Result Expansion MacroFault
expansion s vars text = counted no_tally (events s [] vars text)
