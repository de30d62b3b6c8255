-- A list of faults that goes on.
use Rattle.std.proofs.Common.{◌≡◌, ℕ, suc, ◌+◌, ◌-◌, ◌≤◌, Bool, true, false, ◌&&◌, List, [], ◌∷◌, ◌++◌, length, Option, Some, ap, ◌∙◌, subst, sym, append_assoc, arith}
use Rattle.std.proofs.lemmas.List.{append-nil, length-append}
use Rattle.splices_flat.specs.FileSet.{bytes_of}
use Rattle.splices_flat.specs.declared.file_set.FileSet.{FileSet}
use Rattle.dag_main_check.specs.declared.fault.RunFault.{RunFault}
use Rattle.fault_list.specs.FaultPlaces.{listed_place, is_of_names}
use Rattle.fault_list.specs.LineFaults.{AreLineFaults, enough, no_more, one_more, IsCheckedTo, EndsList, IsEmptiedAt, most_faults}

module _ (path : List ℕ) (whole : FileSet) where
  -- what was found begins the list, whatever others follow from these files
  abbrev pub Begins : Bool → FileSet → List RunFault → Type 0
  Begins names files found = (left : ℕ) (others : List RunFault) → left + length found ≡ most_faults → AreLineFaults path names left files others
      → AreLineFaults path true most_faults whole (found ++ others)

  module _ (names : Bool) (files : FileSet) (found : List RunFault) (begins : Begins names files found) (few : length found ≤ most_faults) where
    pub none-more : (next : Option RunFault) → IsCheckedTo (bytes_of files) path next → EndsList names next → AreLineFaults path true most_faults whole found
    none-more next checked ends =
        subst (AreLineFaults path true most_faults whole) (append-nil found)
        (begins (most_faults - length found) [] (omega arith) (no_more names (most_faults - length found) files next checked ends))

    pub all-found : most_faults ≤ length found → AreLineFaults path true most_faults whole found
    all-found many = subst (AreLineFaults path true most_faults whole) (append-nil found) (begins 0 [] (omega arith) (enough names files))

  pub one-found : (names after_names : Bool) (files after : FileSet) (found more : List RunFault) (fault : RunFault) (place : List ℕ × ℕ) → Begins names files found
      → more ≡ found ++ fault ∷ [] → IsCheckedTo (bytes_of files) path (Some fault) → listed_place names fault ≡ Some place → IsEmptiedAt files place after
      → after_names ≡ (names && is_of_names fault) → Begins after_names after more
  one-found names after_names files after found more fault place begins is checked listed emptied named left others sum rest =
      let size : suc left + length found ≡ most_faults = omega (arith, ap length is, length-append found (fault ∷ [])) in
      subst (AreLineFaults path true most_faults whole) (sym (append_assoc found (fault ∷ []) others) ∙ ap (λ (list : List RunFault). list ++ others) (sym is))
      (begins (suc left) (fault ∷ others) size
      (one_more names left files after fault place others checked listed emptied (subst (λ (b : Bool). AreLineFaults path b left after others) named rest)))

-- whether faults of names still count
pub named-still : (names counted : Bool) (fault : RunFault) → names ≡ true → counted ≡ is_of_names fault → counted ≡ (names && is_of_names fault)
named-still names counted fault count is = is ∙ sym (ap (λ (b : Bool). b && is_of_names fault) count)

pub named-no-more : (names counted : Bool) (fault : RunFault) → names ≡ false → counted ≡ names → counted ≡ (names && is_of_names fault)
named-no-more names counted fault ended is = is ∙ ended ∙ sym (ap (λ (b : Bool). b && is_of_names fault) ended)
