-- What a word can be.
use Rattle.std.specs.Prelude.{ℕ, Bool, false, not, ◌||◌, ◌&&◌, ◌==◌, nat_le, List, [], ◌∷◌, length, codes}
use Rattle.std.specs.List.{list_any}
use Rattle.std.specs.Str.{str_eq_ignore_ascii_case}
use Rattle.dag_reader.specs.Word.{PlacedText}

-- the word is the keyword, in any case
unfoldable pub is_keyword : List ℕ → PlacedText → Bool
is_keyword keyword word = str_eq_ignore_ascii_case word.text keyword

-- the word is one of the keywords
abbrev pub is_one_of : List (List ℕ) → PlacedText → Bool
is_one_of keywords word = list_any (λ keyword. is_keyword keyword word) keywords

abbrev pub left_out_files : List (List ℕ)
left_out_files = codes "SUBDAG" ∷ codes "INCLUDE" ∷ codes "CONFIG" ∷ codes "ENV" ∷ codes "SUBMIT-DESCRIPTION" ∷ []

abbrev pub left_out_services : List (List ℕ)
left_out_services = codes "PROVISIONER" ∷ codes "SERVICE" ∷ codes "CONNECT" ∷ codes "PIN_IN" ∷ codes "PIN_OUT" ∷ []

abbrev pub left_out_settings : List (List ℕ)
left_out_settings = codes "SAVE_POINT_FILE" ∷ codes "REJECT" ∷ codes "DONE" ∷ []

-- the word is a command that this program leaves out
unfoldable pub is_left_out : PlacedText → Bool
is_left_out word = is_one_of left_out_files word || (is_one_of left_out_services word || is_one_of left_out_settings word)

abbrev pub ignored_keywords : List (List ℕ)
ignored_keywords = codes "DOT" ∷ codes "JOBSTATE_LOG" ∷ codes "NODE_STATUS_FILE" ∷ codes "SET_JOB_ATTR" ∷ []

-- a line that begins with the word is read and has no effect
unfoldable pub is_ignored : PlacedText → Bool
is_ignored word = is_one_of ignored_keywords word

abbrev pub left_out_scripts : List (List ℕ)
left_out_scripts = codes "HOLD" ∷ codes "DEFER" ∷ codes "DEBUG" ∷ []

-- the word is a kind of script that this program leaves out
unfoldable pub is_left_out_script : PlacedText → Bool
is_left_out_script word = is_one_of left_out_scripts word

-- a category has at most 255 bytes
unfoldable pub is_category : PlacedText → Bool
is_category word = nat_le (length word.text) 255

-- a full stop or a plus
abbrev pub joins_names : ℕ → Bool
joins_names b = b == 46 || b == 43

-- A name has at most 255 bytes, no full stop and no plus, and is none of these keywords.
unfoldable pub is_name : PlacedText → Bool
is_name word = nat_le (length word.text) 255 && (not (list_any joins_names word.text) && (not (is_keyword (codes "PARENT") word)
    && (not (is_keyword (codes "CHILD") word) && not (is_keyword (codes "ALL_NODES") word))))

-- a name, or the keyword for all nodes
unfoldable pub is_target : PlacedText → Bool
is_target word = is_name word || is_keyword (codes "ALL_NODES") word

-- the text begins with this byte
abbrev pub begins_with : ℕ → List ℕ → Bool
begins_with b [] = false
begins_with b (c ∷ cs) = c == b

-- A submit description within the line begins with a brace, or with an at sign and an equals sign.
abbrev pub is_inline_text : List ℕ → Bool
is_inline_text [] = false
is_inline_text (b ∷ bs) = b == 123 || (b == 64 && begins_with 61 bs)

unfoldable pub is_inline : PlacedText → Bool
is_inline word = is_inline_text word.text

-- a comment begins with a number sign
unfoldable pub is_comment : PlacedText → Bool
is_comment word = begins_with 35 word.text
