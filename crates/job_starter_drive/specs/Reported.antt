-- The endings that children were reported to have, and those of them that a run recorded.
use Rattle.std.specs.Prelude.{◌≡◌, ◌≤◌, List, [], ◌∷◌, ◌++◌, length}
use Rattle.node_machine.specs.declared.Record.{Record}
use Rattle.node_machine.specs.declared.Record.TheVariants.{End}
use Rattle.job_starter_drive.specs.declared.Call.{Call}
use Rattle.job_starter_drive.specs.declared.Call.TheVariants as calls
use Rattle.job_starter_drive.specs.Drives.{most_at_once}

-- the endings that these calls report, as they are recorded, the newest first
abbrev pub endings_in : List Call → List Record
endings_in [] = []
endings_in (calls.Ended key outcome ∷ call_log) = End key outcome ∷ endings_in call_log
endings_in (_ ∷ call_log) = endings_in call_log

-- the elements of one list are elements of another, in the same order
pub data IsSubsequence {A : Type 0} : List A → List A → Type 0 where
  nothing : {xs : List A} → IsSubsequence [] xs
  passed_over : {x : A} {xs ys : List A} → IsSubsequence xs ys → IsSubsequence xs (x ∷ ys)
  taken : {x : A} {xs ys : List A} → IsSubsequence xs ys → IsSubsequence (x ∷ xs) (x ∷ ys)

-- From these records and calls on, each ending that a child was reported to have was recorded, in the order of the reports.
pub record RecordsEach (begun held : List Record) (call_log later_log : List Call) : Type 0 where
  pub own : List Record
  pub are : held ≡ own ++ begun
  pub met : List Record
  pub endings : endings_in later_log ≡ met ++ endings_in call_log
  pub recorded : IsSubsequence met own

-- The same, but perhaps for the newest, which were to be recorded together.
pub record RecordsEachButNewest (begun held : List Record) (call_log later_log : List Call) : Type 0 where
  pub own : List Record
  pub are : held ≡ own ++ begun
  pub met : List Record
  pub newest : List Record
  pub few : length newest ≤ most_at_once
  pub endings : endings_in later_log ≡ newest ++ (met ++ endings_in call_log)
  pub recorded : IsSubsequence met own
