-- What number a text spells.
use Rattle.std.specs.Prelude.{ℕ, ◌-◌, ◌^◌, ℤ, pos, negsuc, Bool, false, ◌&&◌, ◌==◌, List, length, Option, Some, None, nat_le, nat_lt, if◌then◌else◌}
use Rattle.std.specs.Str.{all_ascii_digits}
use Rattle.std.specs.Str.Parse.{digits_value, without_leading_sign, starts_with_minus, signed_digits_value}

-- one decimal digit or more, after one sign or none, of a value from -2^31 to 2^31 - 1
abbrev pub is_i32 : List ℕ → Bool
is_i32 text =
    let digits = without_leading_sign text in
    let most = if starts_with_minus text then 2 ^ 31 else 2 ^ 31 - 1 in
    nat_lt 0 (length digits) && (all_ascii_digits digits && nat_le (digits_value 10 digits) most)

unfoldable pub integer : List ℕ → Option ℤ
integer text = if is_i32 text then Some (signed_digits_value 10 text) else None

abbrev pub up_to : ℕ → Option ℤ → Option ℕ
up_to most None = None
up_to most (Some (pos n)) = if nat_le n most then Some n else None
up_to most (Some (negsuc n)) = None

-- the number from 0 to most that a text spells
abbrev pub count : ℕ → List ℕ → Option ℕ
count most text = up_to most (integer text)

-- a number from this one on
abbrev pub at_least : ℕ → Option ℕ → Option ℕ
at_least least None = None
at_least least (Some n) = if nat_le least n then Some n else None

-- a number, but for 0
abbrev pub is_zero : ℤ → Bool
is_zero (pos n) = n == 0
is_zero (negsuc n) = false

abbrev pub nonzero : Option ℤ → Option ℤ
nonzero None = None
nonzero (Some v) = if is_zero v then None else Some v
