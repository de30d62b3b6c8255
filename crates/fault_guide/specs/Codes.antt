-- The codes of all faults.
use Rattle.std.specs.Prelude.{◌≡◌, ℕ, Bool, List, [], ◌∷◌, ◌++◌, map, codes}
use Rattle.std.specs.Borrow.{Bor}
use Rattle.std.specs.Char.{to_ascii_lowercase}
use Rattle.std.specs.List.{list_any}
use Rattle.std.specs.Str.{bytes_eq}
use Rattle.fault_guide.specs.declared.guide.Fault.{Fault}

-- Faults that commands tell, as docs/MANUAL.md has them in "Faults": of lines of a DAG file,
abbrev pub line_codes : List (List ℕ)
line_codes =
    codes "L1" ∷ codes "L2" ∷ codes "L3" ∷ codes "L4" ∷ codes "L5" ∷ codes "L6" ∷ codes "L7" ∷ codes "L8" ∷ codes "L9" ∷ []

-- of its files and its graph,
abbrev pub file_codes : List (List ℕ)
file_codes =
    codes "S1" ∷ codes "S3" ∷ codes "S4" ∷ codes "S5" ∷ codes "S6" ∷ codes "S7" ∷ codes "S8" ∷ codes "S9" ∷ codes "S10" ∷ codes "S11"
    ∷ codes "G1" ∷ []

-- of submit files and the texts of jobs,
abbrev pub job_codes : List (List ℕ)
job_codes =
    codes "U1" ∷ codes "U2" ∷ codes "U3" ∷ codes "U4" ∷ codes "U5" ∷ codes "V1" ∷ codes "V2" ∷ codes "V3" ∷ codes "V4" ∷ codes "V5"
    ∷ codes "P1" ∷ codes "P4" ∷ codes "P5" ∷ []

-- of tables of outcomes, rescue files and journals,
abbrev pub round_codes : List (List ℕ)
round_codes =
    codes "N3" ∷ codes "E1" ∷ codes "E2" ∷ codes "E3" ∷ codes "E4" ∷ codes "E6" ∷ codes "J1" ∷ codes "J3" ∷ codes "J4" ∷ codes "J5"
    ∷ codes "J6" ∷ codes "J9" ∷ codes "J10" ∷ codes "M2" ∷ codes "R1" ∷ codes "R2" ∷ codes "R3" ∷ codes "R4" ∷ codes "R5" ∷ codes "R6"
    ∷ codes "R7" ∷ []

-- of children and of the system, and the answers of an audit.
abbrev pub running_codes : List (List ℕ)
running_codes =
    codes "A1" ∷ codes "A2" ∷ codes "F1" ∷ codes "F2" ∷ codes "F3" ∷ codes "F5" ∷ codes "H1" ∷ codes "X1" ∷ codes "X2" ∷ []

-- Faults that no command tells by their own code: of the files of a DAG, of the parts of a run, and of whole runs.
abbrev pub inner_file_codes : List (List ℕ)
inner_file_codes =
    codes "L10" ∷ codes "S2" ∷ codes "S12" ∷ codes "G2" ∷ codes "U6" ∷ codes "V6" ∷ codes "P2" ∷ codes "P3" ∷ codes "P6" ∷ codes "P7"
    ∷ codes "N1" ∷ []

abbrev pub inner_part_codes : List (List ℕ)
inner_part_codes =
    codes "N2" ∷ codes "N4" ∷ codes "E5" ∷ codes "Q1" ∷ codes "Q2" ∷ codes "Q3" ∷ codes "H2" ∷ codes "H3" ∷ codes "C1" ∷ codes "C2" ∷ []

abbrev pub inner_run_codes : List (List ℕ)
inner_run_codes =
    codes "C3" ∷ codes "J2" ∷ codes "J7" ∷ codes "J8" ∷ codes "M1" ∷ codes "M3" ∷ codes "M4" ∷ codes "M5" ∷ codes "A3" ∷ codes "A4"
    ∷ codes "A5" ∷ codes "F4" ∷ []

-- the codes of all faults, in the order in which they are listed
abbrev pub all_codes : List (List ℕ)
all_codes =
    line_codes ++ (file_codes ++ (job_codes ++ (round_codes ++ (running_codes ++ (inner_file_codes ++ (inner_part_codes ++ inner_run_codes))))))

abbrev pub code_of_fault : Fault → List ℕ
code_of_fault fault = fault.code.now

-- the codes of faults that are lent
abbrev pub lent_codes : List (Bor Fault) → List (List ℕ)
lent_codes faults = map (λ (fault : Bor Fault). fault.now.code.now) faults

-- These are all faults: they have those codes, in that order.
abbrev pub AreAllFaults : List (Bor Fault) → Type 0
AreAllFaults faults = lent_codes faults ≡ all_codes

-- two codes are the same; letters have no case
abbrev pub is_same_code : List ℕ → List ℕ → Bool
is_same_code code other = bytes_eq (map to_ascii_lowercase other) (map to_ascii_lowercase code)

-- a fault has this code
abbrev pub is_code : List ℕ → Bool
is_code code = list_any (is_same_code code) all_codes
