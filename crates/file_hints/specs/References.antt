-- The macros to which a text refers.
use Rattle.std.specs.Prelude.{ℕ, Bool, false, not, ◌||◌, ◌&&◌, ◌==◌, List, [], ◌∷◌, ◌++◌, length, drop, if◌then◌else◌}
use Rattle.std.specs.List.{take_while}
use Rattle.std.specs.Char.{is_ascii_alphanumeric}
pub use Rattle.dag_reader.specs.Keywords.{begins_with}
use Rattle.file_hints.specs.declared.macros.Reference.{Reference}

-- letters, digits, the underline (95) and the full stop (46)
abbrev pub is_reference_byte : ℕ → Bool
is_reference_byte b = is_ascii_alphanumeric b || b == 95 || b == 46

abbrev pub command_name : List ℕ → List ℕ
command_name text = take_while is_reference_byte text

-- what a name with this after it is: a reference with a default after a colon (58), one without where the parenthesis (41) closes it, or none
abbrev pub reference_by : (name after : List ℕ) → List Reference
reference_by name after =
    if begins_with 58 after || begins_with 41 after then record { name = name; has_default = begins_with 58 after } ∷ [] else []

-- the reference of which a text is what comes after the dollar sign: it begins with a parenthesis (40)
abbrev pub reference_in : List ℕ → List Reference
reference_in [] = []
reference_in (b ∷ bs) = if b == 40 then reference_by (command_name bs) (drop (length (command_name bs)) bs) else []

-- those of a text after a dollar sign, or after none, or a second one
abbrev pub references_from : (dollar : Bool) → List ℕ → List Reference
references_from dollar [] = []
references_from dollar (b ∷ bs) = (if dollar then reference_in (b ∷ bs) else []) ++ references_from (not dollar && b == 36) bs

-- the references of a text, in their order
unfoldable pub references : List ℕ → List Reference
references text = references_from false text
