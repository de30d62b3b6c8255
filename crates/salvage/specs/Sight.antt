-- By what files a round is judged.
use Rattle.std.specs.Prelude.{◌≡◌, ◌⊎◌, ℕ, Bool, false, List, Option, Some, None}
use Rattle.splices_flat.specs.Opening.{Files}
use Rattle.splices_flat.specs.declared.file_set.FileSet.{FileSet}
use Rattle.rescue_file.specs.Numbered.{rescue_name_of}
use Rattle.dag_main_check.specs.declared.fault.RunFault.{RunFault}
use Rattle.dag_main_files.specs.Beside.{IsRefusalOf, IsRefusalHeld}
use Rattle.dag_main_files.specs.Folder.{IsReadFrom}
use Rattle.round_inputs.specs.Inputs.{inputs_name_of, inputs_text_of}
use Rattle.round_inputs.specs.declared.inputs.Listed.{Listed}

-- What is known of files: that the one of a path has these bytes, that none has that path, that the one of a path is refused with a fault, and that these are the
-- DAG files.
pub record Sight : Type 1 where
  pub has : (path bytes : List ℕ) → Type 0
  pub lacks : (path : List ℕ) → Type 0
  pub refuses : (path : List ℕ) → RunFault → Type 0
  pub read : FileSet → Type 0

-- nothing is known but the path of a file that is refused
abbrev pub any_files : Sight
any_files = record { has = λ path bytes. Unit {0}; lacks = λ path. Unit {0}; refuses = λ path fault. IsRefusalOf path fault; read = λ files. Unit {0} }

-- They are those that are held, where these paths are there, and the DAG files are read from this path on; one that is refused isn't held.
abbrev pub held_files : Files → (there : List ℕ → Bool) → (top : List ℕ) → Sight
held_files holds there top = record {
  has = λ path bytes. holds path ≡ Some bytes;
  lacks = λ path. (holds path ≡ None) ⊎ (there path ≡ false);
  refuses = λ path fault. IsRefusalHeld holds path fault;
  read = λ files. IsReadFrom holds top files;
}

-- the same, where a premise holds: that a folder is honest
abbrev pub held_files_if : (Honest : Type 0) → Files → (there : List ℕ → Bool) → (top : List ℕ) → Sight
held_files_if Honest holds there top = record {
  has = λ path bytes. Honest → (held_files holds there top).has path bytes;
  lacks = λ path. Honest → (held_files holds there top).lacks path;
  refuses = λ path fault. IsRefusalOf path fault × (Honest → IsRefusalHeld holds path fault);
  read = λ files. Honest → (held_files holds there top).read files;
}

-- the bytes of the rescue file of this number; none where the number is 0, and where there is no such file
abbrev pub IsRescueSeen : Sight → (top : List ℕ) → (used : ℕ) → Option (List ℕ) → Type 0
IsRescueSeen sight top used None = (used ≡ 0) ⊎ sight.lacks (rescue_name_of top used)
IsRescueSeen sight top used (Some bytes) = sight.has (rescue_name_of top used) bytes

-- the list of what the round of this digest was begun with; and the DAG files
pub record IsListSeen (sight : Sight) (top digest : List ℕ) (listed : List Listed) (files : FileSet) : Type 0 where
  pub listed_are : sight.has (inputs_name_of top) (inputs_text_of digest listed)
  pub files_are : sight.read files
