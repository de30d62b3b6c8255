-- What is displayed after the line of a refusal.
use Rattle.std.specs.Prelude.{◌≡◌, ◌||◌, ℕ, Bool, true, false, List, [], ◌++◌, Option, Some, None, find, codes, option_map, if◌then◌else◌}
use Rattle.std.specs.Str.{bytes_eq}
use Rattle.fault_guide.specs.Codes.{AreAllFaults}
use Rattle.fault_guide.specs.Guide.{has_code}
use Rattle.fault_guide.specs.declared.guide.Fault.{Fault}
use Rattle.std.specs.Borrow.{Bor}

-- what the system said, after four blanks; nothing where it said nothing
abbrev pub reason_line : Option (List ℕ) → List ℕ
reason_line None = []
reason_line (Some reason) = codes "    " ++ (reason ++ codes "\n")

-- a fault of which one wants to know at once what to write instead
abbrev pub tells_what_to_write : List ℕ → Bool
tells_what_to_write code =
    bytes_eq code (codes "L3") || bytes_eq code (codes "U4") || bytes_eq code (codes "U5") || bytes_eq code (codes "V2") || bytes_eq code (codes "V4")
    || bytes_eq code (codes "P1") || bytes_eq code (codes "P4") || bytes_eq code (codes "J5") || bytes_eq code (codes "H1")

-- what the guide says of the fault of a code: all of what to do, or where that is to be found; nothing of a fault that it doesn't have
abbrev pub guide_text : List ℕ → Option Fault → List ℕ
guide_text code None = []
guide_text code (Some fault) =
    if tells_what_to_write code then fault.advice.now else codes "    dagrun explain " ++ (code ++ codes " says more\n")

-- what the guide, which has all faults, says of the fault of this code comes after a text
pub record IsGuideText (code before now : List ℕ) : Type 0 where
  pub guide : List (Bor Fault)
  pub has_all : AreAllFaults guide
  pub added : now ≡ before ++ guide_text code (option_map (λ f. f.now) (find (λ f. has_code code f.now) guide))

-- What is said of what to do about a fault: what the guide says of it; or, of a word of DAGMan's that is left out and that the file has at that place, what
-- to write in place of this very word.
pub data IsAdvice (code : List ℕ) (has_source : Bool) (before now : List ℕ) : Type 0 where
  of_guide : IsGuideText code before now → IsAdvice code has_source before now
  of_word : bytes_eq code (codes "L3") ≡ true → has_source ≡ true → (instead : List ℕ) →
      now ≡ before ++ (instead ++ codes "    docs/FROM_DAGMAN.md has an example.\n") → IsAdvice code has_source before now

-- What is displayed of a refusal of this code, where the system said this or nothing: what is said of the place that it names, which is
-- nothing where the file of it isn't known; what the system said; and what to do.
pub record IsHint (code : List ℕ) (reason : Option (List ℕ)) (has_source : Bool) (text : List ℕ) : Type 0 where
  pub about : List ℕ
  pub nothing_about : has_source ≡ false → about ≡ []
  pub text_is : IsAdvice code has_source (about ++ reason_line reason) text
