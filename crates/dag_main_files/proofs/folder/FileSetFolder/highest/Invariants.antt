use Rattle.std.proofs.Common.{◌≡◌, ◌<◌, ◌≤◌, ℕ, false}
use Rattle.std.specs.Prelude.{is_some}
use Rattle.splices_flat.specs.FileSet.{bytes_of}
use Rattle.rescue_file.specs.Numbered.{rescue_name_of}
use Rattle.dag_main_files.proofs.folder.FileSetFolder.highest.Given as goal

abbrev pub invariant-loop-number : goal.invariant-loop-number
invariant-loop-number l =
    (l.number ≤ 999) × ((number : ℕ) → l.number < number → number ≤ 999 → is_some (bytes_of l.self (rescue_name_of l.top number)) ≡ false)

abbrev pub decreases-loop-number : goal.decreases-loop-number
decreases-loop-number l = l.number
