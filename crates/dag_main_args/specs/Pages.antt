-- The pages of faults.
use Rattle.std.specs.Prelude.{◌≡◌, ℕ, List, Option, Some, None, false, map, find}
use Rattle.std.specs.Borrow.{Bor}
use Rattle.fault_guide.specs.declared.guide.Fault.{Fault}
use Rattle.fault_guide.specs.Codes.{AreAllFaults, is_code}
use Rattle.fault_guide.specs.Guide.{has_code, page_text, list_text}

-- What is displayed of a code: the page of the fault that has it; without a code, a line for each of all faults.
pub data IsExplained : Option (List ℕ) → List ℕ → Type 0 where
  all : (faults : List (Bor Fault)) → AreAllFaults faults → IsExplained None (list_text (map (λ f. f.now) faults))
  one : (faults : List (Bor Fault)) (code : List ℕ) (fault : Bor Fault) → AreAllFaults faults → find (λ f. has_code code f.now) faults ≡ Some fault
      → IsExplained (Some code) (page_text fault.now)

-- No page is displayed for a code that no fault has.
pub data IsUnexplained : Option (List ℕ) → Type 0 where
  no_fault : (code : List ℕ) → is_code code ≡ false → IsUnexplained (Some code)
