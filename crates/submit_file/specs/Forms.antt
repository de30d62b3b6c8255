-- What a line of a submit description says: a table of the forms of lines.
use Rattle.std.specs.Prelude.{ℕ, Bool, true, not, ◌||◌, ◌&&◌, ◌==◌, ◌+◌, nat_lt, List, [], ◌∷◌, length, drop, reverse, if◌then◌else◌, codes}
use Rattle.std.specs.List.{list_any, list_all, take_while}
use Rattle.std.specs.Char.{is_ascii_digit}
use Rattle.std.specs.Str.{str_eq_ignore_ascii_case}
use Rattle.submit_file.specs.Lines.{is_blank, trim_start, begins_with}
use Rattle.submit_file.specs.declared.fault.LineFault.{LineFault}
use Rattle.submit_file.specs.declared.fault.LineFault.TheVariants.{BadLine, QueueCount, Unsupported}

-- A line says nothing, assigns a value to a name, queues the job, or can't be read.
pub data Saying : Type 0 where
  Silent : Saying
  Assigns : List ℕ → List ℕ → Saying
  Queues : Saying
  Wrong : LineFault → Saying

-- a text without the blanks at its ends
abbrev pub trimmed : List ℕ → List ℕ
trimmed text = reverse (trim_start (reverse (trim_start text)))

-- the same word in any case of ASCII letters
unfoldable pub is_word : List ℕ → List ℕ → Bool
is_word word text = str_eq_ignore_ascii_case word text

-- the first word of a line that begins with one, and what follows it
abbrev pub word_and_rest : List ℕ → List ℕ
word_and_rest line = take_while (λ b. not (is_blank b)) line

abbrev pub behind_word : List ℕ → List ℕ
behind_word line = trimmed (drop (length (word_and_rest line)) line)

-- what is before the first equals sign (61) of a line, and what is after it
abbrev pub before_equals : List ℕ → List ℕ
before_equals line = take_while (λ b. not (b == 61)) line

abbrev pub name_before : List ℕ → List ℕ
name_before line = trimmed (before_equals line)

abbrev pub assigned_value : List ℕ → List ℕ
assigned_value line = trimmed (drop (length (before_equals line) + 1) line)

-- no word, or a comment (35)
abbrev pub is_silent : List ℕ → Bool
is_silent [] = true
is_silent (b ∷ bs) = b == 35

abbrev pub is_queue : List ℕ → Bool
is_queue line = is_word (word_and_rest line) (codes "queue")

-- no count, or digits whose value is 1
abbrev pub is_once : List ℕ → Bool
is_once [] = true
is_once (d ∷ []) = d == 49
is_once (d ∷ e ∷ ds) = d == 48 && is_once (e ∷ ds)

-- words that begin an unsupported statement
unfoldable pub begins_left_out : List ℕ → Bool
begins_left_out word = (is_word word (codes "if") || (is_word word (codes "elif") || is_word word (codes "else"))) || (is_word word (codes "endif") || is_word word (codes "include"))

-- A name is not empty and holds no blank.
abbrev pub is_assigned_name : List ℕ → Bool
is_assigned_name name = nat_lt 0 (length name) && not (list_any is_blank name)

abbrev pub is_assignment : List ℕ → Bool
is_assignment line = nat_lt (length (before_equals line)) (length line) && is_assigned_name (name_before line)

-- A form of the table: what a line looks like without the blanks at its front, and what it says.
pub record Form : Type 0 where
  pub looks : List ℕ → Bool
  pub says : List ℕ → Saying

abbrev a_form : (List ℕ → Bool) → (List ℕ → Saying) → Form
a_form looks says = record { looks = looks; says = says }

-- The table, where a queue line is above (queued) or none is. A line has the first form that it looks like: so U5
-- comes before U4, and U4 before U2, which is what a line of no form is.
abbrev pub forms : Bool → List Form
forms queued =
    -- no word, or a comment
    a_form is_silent (λ line. Silent)
    -- U5: queue with other words than a count, or an unsupported statement
    ∷ a_form (λ line. is_queue line && not (list_all is_ascii_digit (behind_word line))) (λ line. Wrong Unsupported)
    ∷ a_form (λ line. begins_left_out (word_and_rest line) && not (begins_with 61 (behind_word line))) (λ line. Wrong Unsupported)
    -- U4: queue once more, or with another count than 1
    ∷ a_form (λ line. is_queue line && (queued || not (is_once (behind_word line)))) (λ line. Wrong QueueCount)
    ∷ a_form is_queue (λ line. Queues)
    -- a name, an equals sign and a value; any other line is U2
    ∷ a_form is_assignment (λ line. Assigns (name_before line) (assigned_value line))
    ∷ []

abbrev pub first_form : List Form → List ℕ → Saying
first_form [] line = Wrong BadLine
first_form (form ∷ others) line = if form.looks line then form.says line else first_form others line

unfoldable pub line_says : Bool → List ℕ → Saying
line_says queued text = first_form (forms queued) (trim_start text)
