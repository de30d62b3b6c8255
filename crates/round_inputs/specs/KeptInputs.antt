-- What is kept beside a DAG file of a round that begins.
use Rattle.std.specs.Prelude.{ℕ, Bool, true, false, nat_lt, ◌&&◌, List, [], ◌∷◌, ◌++◌, map, Option, Some, None, if◌then◌else◌}
use Rattle.rescue_file.specs.Numbered.{rescue_name_of}
use Rattle.dag_main_files.specs.declared.changes.Change.TheVariants.{Written, Removed}
use Rattle.dag_main_files.specs.Changes.{FileChange}
use Rattle.round_inputs.specs.Inputs.{listed_of, rescue_entry, inputs_text_of, inputs_name_of}
use Rattle.round_inputs.specs.Begun.{begun_text_of, begun_name_of}

-- a number from 1 to 999, which a rescue file can have
abbrev pub is_file_number : ℕ → Bool
is_file_number number = nat_lt 0 number && nat_lt number 1000

-- the path and the bytes of the rescue file that a round reads by this number, if it reads one
abbrev pub rescue_read : List ℕ → ℕ → Option (List ℕ) → Option (List ℕ × List ℕ)
rescue_read top used None = None
rescue_read top used (Some bytes) = if is_file_number used then Some (rescue_name_of top used, bytes) else None

-- the sums of all files that the round reads, in `top.inputs`
abbrev pub keeps_sums : (top digest : List ℕ) → (files : List (List ℕ × List ℕ)) → ℕ → Option (List ℕ) → List FileChange
keeps_sums top digest files used rescue =
    (inputs_name_of top, Written (inputs_text_of digest (map listed_of (files ++ rescue_entry (rescue_read top used rescue))))) ∷ []

-- these files themselves, as `top.begun` has them
abbrev pub begun_of_round : (top digest : List ℕ) → (files : List (List ℕ × List ℕ)) → ℕ → Option (List ℕ) → List ℕ
begun_of_round top digest files used rescue = begun_text_of digest files (rescue_read top used rescue)

-- They are kept there; where they are left out, as too large, those of the round before are removed.
abbrev pub keeps_files : (is_kept : Bool) → (top digest : List ℕ) → (files : List (List ℕ × List ℕ)) → ℕ → Option (List ℕ) → List FileChange
keeps_files true top digest files used rescue = (begun_name_of top, Written (begun_of_round top digest files used rescue)) ∷ []
keeps_files false top digest files used rescue = (begun_name_of top, Removed) ∷ []
