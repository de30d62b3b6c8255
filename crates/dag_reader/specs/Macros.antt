-- The words of a macro: names, and texts between quotes.
use Rattle.std.specs.Prelude.{ℕ, suc, Bool, false, not, ◌&&◌, ◌||◌, ◌==◌, nat_le, List, [], ◌∷◌, length, take, Option, Some, None, if◌then◌else◌, codes}
use Rattle.std.specs.List.{list_all}
use Rattle.std.specs.Option.{option_map}
use Rattle.std.specs.Char.{is_ascii_alphabetic, is_ascii_alphanumeric}
use Rattle.std.specs.Str.{str_eq_ignore_ascii_case}
use Rattle.dag_reader.specs.Words.{is_blank}

-- the bytes are this text, in any case
unfoldable pub is_text : List ℕ → List ℕ → Bool
is_text text bytes = str_eq_ignore_ascii_case bytes text

-- Names.
-- a letter, an underscore or a plus
abbrev pub is_macro_start : ℕ → Bool
is_macro_start b = is_ascii_alphabetic b || (b == 95 || b == 43)

-- a letter, a digit, an underscore or a full stop
abbrev pub is_macro_byte : ℕ → Bool
is_macro_byte b = is_ascii_alphanumeric b || (b == 95 || b == 46)

abbrev pub begins_with_queue : List ℕ → Bool
begins_with_queue name = nat_le 5 (length name) && is_text (codes "queue") (take 5 name)

-- A macro's name begins as is_macro_start says, goes on as is_macro_byte says, and doesn't begin with queue.
unfoldable pub is_macro_name : List ℕ → Bool
is_macro_name [] = false
is_macro_name (b ∷ bs) = is_macro_start b && (list_all is_macro_byte bs && not (begins_with_queue (b ∷ bs)))

-- Texts between quotes.
-- a backslash before a quote or a backslash
abbrev pub is_escape : ℕ → ℕ → Bool
is_escape b c = b == 92 && (c == 34 || c == 92)

abbrev pub begins_escape : List ℕ → Bool
begins_escape [] = false
begins_escape (b ∷ []) = false
begins_escape (b ∷ c ∷ bs) = is_escape b c

-- A backslash before a quote or a backslash is dropped; any other backslash is itself.
abbrev pub unquoted : List ℕ → List ℕ
unquoted [] = []
unquoted (b ∷ []) = b ∷ []
unquoted (b ∷ c ∷ bs) = if is_escape b c then c ∷ unquoted bs else b ∷ unquoted (c ∷ bs)

-- how many bytes come before the first quote that isn't escaped
abbrev pub closing_quote : List ℕ → Option ℕ
closing_quote [] = None
closing_quote (b ∷ []) = if b == 34 then Some 0 else None
closing_quote (b ∷ c ∷ bs) =
    if b == 34 then Some 0
    else if is_escape b c then option_map (λ n. suc (suc n)) (closing_quote bs)
    else option_map (λ n. suc n) (closing_quote (c ∷ bs))

-- Places.
-- the first place at which a test passes, or the length
abbrev pub place_of : (ℕ → Bool) → List ℕ → ℕ
place_of p [] = 0
place_of p (b ∷ bs) = if p b then 0 else suc (place_of p bs)

abbrev pub is_ink : ℕ → Bool
is_ink b = not (is_blank b)

-- a blank or an equals sign
abbrev pub ends_name : ℕ → Bool
ends_name b = is_blank b || b == 61

abbrev pub is_backslash : ℕ → Bool
is_backslash b = b == 92
