-- The grammar of arguments, from the left: a relation has a text, the bytes that its front spells, and the rest of it.
use Rattle.std.specs.Prelude.{◌≡◌, ◌⊎◌, ℕ, Bool, true, false, ◌||◌, ◌&&◌, ◌==◌, List, [], ◌∷◌, ◌++◌, Result, Ok, Err}
use Rattle.vars_macros.specs.Cut.{begins_with}
use Rattle.vars_macros.specs.declared.fault.MacroFault.{MacroFault}
use Rattle.vars_macros.specs.declared.fault.MacroFault.TheVariants.{BadQuote, Memory}

-- a space or a tab
abbrev pub is_space_or_tab : ℕ → Bool
is_space_or_tab b = b == 32 || b == 9

-- a double (34) or a single (39) quote
abbrev pub is_quote : ℕ → Bool
is_quote b = b == 34 || b == 39

-- A group, after the single quote that opens it: bytes but quotes, two quotes of a kind for one of them, and at last
-- the single quote that closes it, which no further one follows.
pub data SpellsGroup : List ℕ → List ℕ → List ℕ → Type 0 where
  group_end : {rest : List ℕ} → begins_with 39 rest ≡ false → SpellsGroup (39 ∷ rest) [] rest
  group_byte : {text bytes rest : List ℕ} (b : ℕ) → is_quote b ≡ false → SpellsGroup text bytes rest → SpellsGroup (b ∷ text) (b ∷ bytes) rest
  group_double_quote : {text bytes rest : List ℕ} → SpellsGroup text bytes rest → SpellsGroup (34 ∷ 34 ∷ text) (34 ∷ bytes) rest
  group_single_quote : {text bytes rest : List ℕ} → SpellsGroup text bytes rest → SpellsGroup (39 ∷ 39 ∷ text) (39 ∷ bytes) rest

-- A part of a word in new style: a byte but a blank or a quote, two double quotes for one, or a group.
pub data SpellsNewPart : List ℕ → List ℕ → List ℕ → Type 0 where
  new_byte : {rest : List ℕ} (b : ℕ) → is_space_or_tab b ≡ false → is_quote b ≡ false → SpellsNewPart (b ∷ rest) (b ∷ []) rest
  new_double_quote : {rest : List ℕ} → SpellsNewPart (34 ∷ 34 ∷ rest) (34 ∷ []) rest
  new_group : {text bytes rest : List ℕ} → SpellsGroup text bytes rest → SpellsNewPart (39 ∷ text) bytes rest

-- A part of a word in old style: a backslash (92) and a double quote for a double quote, or any other byte but a blank.
pub data SpellsOldPart : List ℕ → List ℕ → List ℕ → Type 0 where
  old_double_quote : {rest : List ℕ} → SpellsOldPart (92 ∷ 34 ∷ rest) (34 ∷ []) rest
  old_byte : {rest : List ℕ} (b : ℕ) → is_space_or_tab b ≡ false → (b == 92 && begins_with 34 rest) ≡ false → SpellsOldPart (b ∷ rest) (b ∷ []) rest

-- A word: one part or more. Its bytes are those of its parts.
pub data SpellsWord (Part : List ℕ → List ℕ → List ℕ → Type 0) : List ℕ → List ℕ → List ℕ → Type 0 where
  last_part : {text bytes rest : List ℕ} → Part text bytes rest → SpellsWord Part text bytes rest
  part : {text bytes behind more rest : List ℕ} → Part text bytes behind → SpellsWord Part behind more rest → SpellsWord Part text (bytes ++ more) rest

-- a word is over at a blank and at the end
abbrev pub ends_word : List ℕ → Bool
ends_word [] = true
ends_word (b ∷ bs) = is_space_or_tab b

-- The words of a whole text, with blanks before, after and between: where a word ends is a blank, or the end.
pub data SpellsWords (Part : List ℕ → List ℕ → List ℕ → Type 0) : List ℕ → List (List ℕ) → Type 0 where
  end : SpellsWords Part [] []
  blank : {text : List ℕ} {words : List (List ℕ)} (b : ℕ) → is_space_or_tab b ≡ true → SpellsWords Part text words → SpellsWords Part (b ∷ text) words
  word : {text bytes rest : List ℕ} {words : List (List ℕ)} → SpellsWord Part text bytes rest → ends_word rest ≡ true →
      SpellsWords Part rest words → SpellsWords Part text (bytes ∷ words)

-- Arguments: new style is between two double quotes, old style begins with none.
pub data SpellsArguments : List ℕ → List (List ℕ) → Type 0 where
  new_style : {body : List ℕ} {words : List (List ℕ)} → SpellsWords SpellsNewPart body words → SpellsArguments (34 ∷ (body ++ 34 ∷ [])) words
  old_style : {text : List ℕ} {words : List (List ℕ)} → begins_with 34 text ≡ false → SpellsWords SpellsOldPart text words → SpellsArguments text words

-- What is answered of a text of such words: the words that it spells, or BadQuote where it spells none; or memory ran
-- out.
abbrev pub IsSplit : (List (List ℕ) → Type 0) → Result (List (List ℕ)) MacroFault → Type 0
IsSplit Spells (Ok words) = Spells words
IsSplit Spells (Err fault) = (fault ≡ Memory) ⊎ ((fault ≡ BadQuote) × ((words : List (List ℕ)) → Spells words → ⊥))
