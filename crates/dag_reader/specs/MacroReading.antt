-- Reading the macros of a VARS line from left to right, with the first fault that is met.
use Rattle.std.specs.Prelude.{ℕ, zero, suc, ◌+◌, ◌-◌, Bool, true, false, min, List, [], ◌∷◌, length, take, drop, Option, Some, None, Result, Ok, Err, if◌then◌else◌, codes}
use Rattle.dag_reader.specs.declared.span.Span.{Span}
use Rattle.dag_reader.specs.declared.fault.LineFault.{LineFault}
use Rattle.dag_reader.specs.declared.fault.LineFault.TheVariants.{BadName, BadQuote}
use Rattle.dag_reader.specs.declared.command.Placement.{Placement}
use Rattle.dag_reader.specs.declared.command.Placement.TheVariants.{Prepend, Append}
use Rattle.dag_reader.specs.declared.command.Macro.{Macro}
use Rattle.dag_reader.specs.Word.{PlacedText, placed}
use Rattle.dag_reader.specs.Words.{is_blank}
use Rattle.dag_reader.specs.Keywords.{begins_with}
use Rattle.dag_reader.specs.Results.{◌>>=◌}
use Rattle.dag_reader.specs.Macros.{is_text, is_macro_name, unquoted, closing_quote, place_of, is_ink, ends_name}

-- the bytes of a line that are ahead, from a place on
pub record Ahead : Type 0 where
  pub line : ℕ
  pub at : ℕ
  pub bytes : List ℕ

abbrev pub ahead : ℕ → ℕ → List ℕ → Ahead
ahead line at bytes = record { line = line; at = at; bytes = bytes }

-- what comes after a word of a line
abbrev pub behind : Span → List ℕ → Ahead
behind word bytes = ahead word.line (min word.stop (length bytes)) (drop word.stop bytes)

abbrev pub advance : ℕ → Ahead → Ahead
advance n a = ahead a.line (a.at + n) (drop n a.bytes)

abbrev pub skip_blanks : Ahead → Ahead
skip_blanks a = advance (place_of is_ink a.bytes) a

abbrev pub has_bytes : List ℕ → Bool
has_bytes [] = false
has_bytes (b ∷ bs) = true

abbrev pub bytes_span : ℕ → ℕ → ℕ → Span
bytes_span line start stop = record { line = line; start = start; stop = stop }

-- the next byte's place, or none at the line's end
abbrev pub here_at : ℕ → ℕ → List ℕ → Span
here_at line at [] = bytes_span line at at
here_at line at (b ∷ bs) = bytes_span line at (at + 1)

abbrev pub here : Ahead → Span
here a = here_at a.line a.at a.bytes

-- the bytes up to a blank or an equals sign
abbrev pub run_of : Ahead → List ℕ
run_of a = take (place_of ends_name a.bytes) a.bytes

abbrev pub after_run : Ahead → Ahead
after_run a = advance (place_of ends_name a.bytes) a

-- an equals sign is next, after blanks or none
abbrev pub is_assigned : Ahead → Bool
is_assigned a = begins_with 61 (skip_blanks a).bytes

-- where the macros go, and what is ahead then
unfoldable pub placement_ahead : Ahead → Placement × Ahead
placement_ahead a =
    if is_assigned (after_run (skip_blanks a)) then (Prepend, a)
    else if is_text (codes "PREPEND") (run_of (skip_blanks a)) then (Prepend, after_run (skip_blanks a))
    else if is_text (codes "APPEND") (run_of (skip_blanks a)) then (Append, after_run (skip_blanks a))
    else (Prepend, a)

unfoldable pub name_ahead : Ahead → Result (PlacedText × Ahead) LineFault
name_ahead a =
    if is_macro_name (run_of a) then Ok (placed (run_of a) (bytes_span a.line a.at (after_run a).at), after_run a)
    else Err (BadName (bytes_span a.line a.at (after_run a).at))

unfoldable pub equals_ahead : Ahead → Result (Unit {0} × Ahead) LineFault
equals_ahead a = if is_assigned a then Ok (tt, advance 1 (skip_blanks a)) else Err (BadQuote (here (skip_blanks a)))

-- the text up to the closing quote, whose opening quote is next
abbrev pub closed_at : Option ℕ → Ahead → Result (PlacedText × Ahead) LineFault
closed_at None a = Err (BadQuote (here a))
closed_at (Some n) a = Ok (placed (take n (drop 1 a.bytes)) (bytes_span a.line a.at (a.at + 1 + n + 1)), advance (1 + n + 1) a)

abbrev pub opened_at : Ahead → Result (PlacedText × Ahead) LineFault
opened_at a = if begins_with 34 a.bytes then closed_at (closing_quote (drop 1 a.bytes)) a else Err (BadQuote (here a))

unfoldable pub quoted_ahead : Ahead → Result (PlacedText × Ahead) LineFault
quoted_ahead a = opened_at (skip_blanks a)

abbrev pub ends_pair : List ℕ → Bool
ends_pair [] = true
ends_pair (b ∷ bs) = is_blank b

unfoldable pub pair_end_ahead : Ahead → Result (Unit {0}) LineFault
pair_end_ahead a = if ends_pair a.bytes then Ok tt else Err (BadQuote (here a))

-- the macro of a name and of a text between quotes
abbrev pub macro_of : PlacedText → PlacedText → Macro
macro_of name quoted = record { name = name; text = placed (unquoted quoted.text) quoted.span }

unfoldable pub pair_ahead : Ahead → Result (Macro × Ahead) LineFault
pair_ahead a = do
  name ← name_ahead a
  equals ← equals_ahead name.1
  quoted ← quoted_ahead equals.1
  end ← pair_end_ahead quoted.1
  Ok (macro_of name.0 quoted.0, quoted.1)

-- The macros in these bytes, of which so many are passed over first.
unfoldable pub macros_at : ℕ → ℕ → ℕ → List ℕ → Result (List Macro) LineFault
macros_at line at passed [] = Ok []
macros_at line at (suc n) (b ∷ bs) = macros_at line (at + 1) n bs
macros_at line at zero (b ∷ bs) =
    if is_blank b then macros_at line (at + 1) 0 bs
    else (pair_ahead (ahead line at (b ∷ bs)) >>= λ pair. macros_at line (at + 1) (pair.1.at - (at + 1)) bs >>= λ others. Ok (pair.0 ∷ others))

abbrev pub macros_ahead : Ahead → Result (List Macro) LineFault
macros_ahead a = macros_at a.line a.at 0 a.bytes
