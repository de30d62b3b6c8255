-- How the result of a request is displayed on standard output and standard error (docs/MANUAL.md, "The command line").
use Rattle.std.specs.Prelude.{◌≡◌, ◌⊎◌, ℕ, Bool, true, List, ◌++◌, Result, Ok, Err, IsTrue, codes, string_bytes}
use Rattle.dag_main_check.specs.declared.fault.RunFault.{RunFault}
use Rattle.dag_main_check.specs.declared.warnings.Answer.{Answer}
use Rattle.dag_main_check.specs.Displayed.{run_fault_text}

-- what is on standard output and on standard error, whether standard output has refused a text, and whether standard error is a terminal
pub record Streams : Type 0 where
  pub printed : List ℕ
  pub warned : List ℕ
  pub refuses : Bool
  pub at_terminal : Bool

-- after what is on standard output, one more text
abbrev pub with_printed : Streams → List ℕ → Streams
with_printed streams text = record streams { printed = streams.printed ++ text }

-- after what is on standard error, one more text
abbrev pub with_warned : Streams → List ℕ → Streams
with_warned streams text = record streams { warned = streams.warned ++ text }

-- one more text is on standard error, and nothing else is changed
abbrev pub OnlyWarns : Streams → Streams → Type 0
OnlyWarns before after = (text : List ℕ) × (after ≡ with_warned before text)

-- nothing is changed, or one more text is on standard error, which is a terminal
abbrev pub OnlyWarnsAtTerminal : Streams → Streams → Type 0
OnlyWarnsAtTerminal before after = (after ≡ before) ⊎ ((before.at_terminal ≡ true) × OnlyWarns before after)

-- the exit status with which the result of a request is displayed: that of its answer, once this is printed; else 125
pub data IsExitStatusOf (result : Result Answer RunFault) : ℕ → Type 0 where
  printed : (answer : Answer) → result ≡ Ok answer → IsExitStatusOf result answer.status
  not_printed : IsExitStatusOf result 125

-- what is displayed where there is no memory for more
abbrev pub no_memory_line : List ℕ
no_memory_line = codes "dagrun: X1 Memory\n"

-- the line of a refusal: `dagrun: CODE Name detail`
abbrev pub refusal_line : RunFault → List ℕ
refusal_line fault = codes "dagrun: " ++ run_fault_text fault ++ codes "\n"

-- An answer is displayed: its warnings on standard error and its text on standard output, with its status; or standard output refuses
-- the text, which is displayed after its warnings, with status 125.
pub data IsDisplayed (answer : Answer) (before after : Streams) : ℕ → Type 0 where
  whole : after ≡ with_printed (with_warned before (string_bytes answer.warnings)) (string_bytes answer.text) → IsDisplayed answer before after answer.status
  output_refused : IsTrue after.refuses → (line : List ℕ) → after.warned ≡ (before.warned ++ string_bytes answer.warnings) ++ line →
      after.at_terminal ≡ before.at_terminal → IsDisplayed answer before after 125

-- The result of a request is displayed: an answer so; a refusal by its line on standard error, or by that of refused memory, with nothing
-- more on standard output, and with status 125.
pub data IsDisplayedAs (before after : Streams) : (result : Result Answer RunFault) → ℕ → Type 0 where
  answered : (answer : Answer) (status : ℕ) → IsDisplayed answer before after status → IsDisplayedAs before after (Ok answer) status
  refused : (fault : RunFault) → (after ≡ with_warned before (refusal_line fault)) ⊎ (after ≡ with_warned before no_memory_line) →
      IsDisplayedAs before after (Err fault) 125
