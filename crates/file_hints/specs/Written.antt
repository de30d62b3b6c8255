-- Files that no job should write.
use Rattle.std.specs.Prelude.{ℕ, Bool, true, false, ◌&&◌, ◌||◌, List, [], ◌∷◌, take, drop, Option, Some, None, codes}
use Rattle.std.specs.Char.{is_ascii_digit}
use Rattle.std.specs.Str.{bytes_eq}
use Rattle.file_hints.specs.declared.hint.Hint.{Hint}
use Rattle.file_hints.specs.declared.hint.Hint.TheVariants.{OwnFile, InputWritten}

-- a file that a job writes: one of the DAG itself, or else maybe the input of the job
abbrev pub written_hint : List ℕ → (is_of_dag is_input : Bool) → Option Hint
written_hint path true is_input = Some (OwnFile path)
written_hint path false true = Some (InputWritten path)
written_hint path false false = None

-- what the names of dagrun's own files have after that of the DAG file, which has nothing there itself; rescue files have a number
abbrev pub is_unnumbered_ending : List ℕ → Bool
is_unnumbered_ending ending =
    bytes_eq ending (codes "") || bytes_eq ending (codes ".journal") || bytes_eq ending (codes ".journal.old") || bytes_eq ending (codes ".lock")
    || bytes_eq ending (codes ".round") || bytes_eq ending (codes ".round.new") || bytes_eq ending (codes ".children") || bytes_eq ending (codes ".inputs")
    || bytes_eq ending (codes ".inputs.new") || bytes_eq ending (codes ".begun") || bytes_eq ending (codes ".begun.new") || bytes_eq ending (codes ".log")
    || bytes_eq ending (codes ".log.old") || bytes_eq ending (codes ".halt") || bytes_eq ending (codes ".scripts")

-- The number of a rescue file as its name has it, in three digits; the names of a draft and of one that was put away go on after it.
abbrev pub is_rescue_number : List ℕ → Bool
is_rescue_number [] = false
is_rescue_number (hundreds ∷ []) = false
is_rescue_number (hundreds ∷ tens ∷ []) = false
is_rescue_number (hundreds ∷ tens ∷ units ∷ rest) =
    is_ascii_digit hundreds && is_ascii_digit tens && is_ascii_digit units && (bytes_eq rest (codes "") || bytes_eq rest (codes ".new") || bytes_eq rest (codes ".old"))

-- a rescue file: its number comes after seven characters
abbrev pub is_rescue_ending : List ℕ → Bool
is_rescue_ending ending = bytes_eq (take 7 ending) (codes ".rescue") && is_rescue_number (drop 7 ending)

abbrev pub is_own_ending : List ℕ → Bool
is_own_ending ending = is_unnumbered_ending ending || is_rescue_ending ending
