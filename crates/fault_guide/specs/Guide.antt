-- What is displayed of a fault.
use Rattle.std.specs.Prelude.{ℕ, Bool, ◌==◌, List, [], ◌++◌, length, map, codes, if◌then◌else◌}
use Rattle.std.specs.Char.{to_ascii_lowercase}
use Rattle.std.specs.List.{flat_map}
use Rattle.std.specs.Str.{bytes_eq}
use Rattle.fault_guide.specs.declared.guide.Fault.{Fault}

-- the fault has this code; letters have no case
abbrev pub has_code : List ℕ → Fault → Bool
has_code code fault = bytes_eq (map to_ascii_lowercase fault.code.now) (map to_ascii_lowercase code)

-- a part after its heading, where there is one
abbrev pub part_text : (heading part : List ℕ) → List ℕ
part_text heading part = if length part == 0 then [] else codes "\n" ++ (heading ++ (codes ":\n" ++ part))

-- what comes after a fault's name
abbrev pub detail_text : List ℕ → List ℕ
detail_text detail = if length detail == 0 then [] else codes " " ++ detail

-- What is displayed of a fault: what is printed of it and when it comes, an example, and what to do.
abbrev pub page_text : Fault → List ℕ
page_text fault =
    fault.code.now ++ (codes " " ++ (fault.name.now ++ (detail_text fault.detail.now ++ (codes "\n    " ++ (fault.when.now ++ (codes "\n"
    ++ (part_text (codes "Example") fault.example.now ++ part_text (codes "What to do") fault.advice.now)))))))

-- the line of a fault
abbrev pub list_line : Fault → List ℕ
list_line fault = fault.code.now ++ (codes " " ++ (fault.name.now ++ (codes ": " ++ (fault.when.now ++ codes "\n"))))

-- a line for each of these faults
abbrev pub list_text : List Fault → List ℕ
list_text faults = flat_map list_line faults
