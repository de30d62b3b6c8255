use Rattle.std.proofs.Common.{◌≡◌, ℕ, ◌+◌, ◌-◌, ◌≤◌, List, ◌++◌, length, Some, true, is_some}
use Rattle.splices_flat.specs.FileSet.{bytes_of}
use Rattle.dag_main_check.specs.declared.fault.RunFault.{RunFault}
use Rattle.fault_list.specs.FaultPlaces.{listed_place}
use Rattle.fault_list.specs.LineFaults.{AreLineFaults, IsCheckedTo, most_faults}
use Rattle.fault_list.proofs.faults.line_faults.Given as goal

-- what is listed begins the list, whatever others follow from here; the fault is the next
abbrev pub invariant-loop-alloc : goal.invariant-loop-alloc
invariant-loop-alloc l = record {
  begins : (left : ℕ) (others : List RunFault) → left + length l.faults.items ≡ most_faults → AreLineFaults l.path l.names_count left l.files others
      → AreLineFaults l.path true most_faults l.fn.files (l.faults.items ++ others);
  next : IsCheckedTo (bytes_of l.files) l.path (Some l.fault);
  some : length l.faults.items ≡ 0 → is_some (listed_place l.names_count l.fault) ≡ true;
  few : length l.faults.items ≤ most_faults;
}

abbrev pub decreases-loop-alloc : goal.decreases-loop-alloc
decreases-loop-alloc l = most_faults - length l.faults.items
