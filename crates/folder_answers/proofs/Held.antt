-- What is said of files that are read where they are held is said of those that are held.
use Rattle.std.proofs.Common.{◌≡◌, ℕ, Bool, List, Option, Some, None}
use Rattle.splices_flat.specs.Opening.{Files}
use Rattle.splices_flat.specs.FileSet.{bytes_of}
use Rattle.splices_flat.specs.declared.file_set.FileSet.{FileSet}
use Rattle.throttles.specs.declared.Limits.{Limits}
use Rattle.dag_main_check.specs.Checked.{IsCheckFault, checking_had_no_memory}
use Rattle.dag_main_check.specs.Missing.{missing_in}
use Rattle.dag_main_check.specs.declared.fault.RunFault.{RunFault}
use Rattle.dag_main_check.specs.declared.fault.RunFault.TheVariants.{Memory}
use Rattle.dag_main_check.proofs.HeldFiles.{found-dag, graph-refused, refused}
use Rattle.dag_main_files.specs.Folder.{IsReadFrom}
use Rattle.dag_main_files.specs.Opened.{IsStill, still_missing, asking_had_no_memory}
use Rattle.dag_main_rehearse.specs.Rehearsed.{IsRehearsalOf, IsRehearsalFault, has_no_graph, has_no_table, is_too_long, rehearsing_had_no_memory}
use Rattle.folder_answers.specs.Answered.{IsCheckRefusalFrom, held_not_checked, IsRehearsalRefusalFrom, held_not_rehearsed}

module _ (set holds : Files) (held : (path bytes : List ℕ) → set path ≡ Some bytes → holds path ≡ Some bytes) where
  pub rehearsed : (always_post : Bool) (top : List ℕ) (table : Option (List ℕ)) (limits : Limits) (text warnings : List ℕ) (status : ℕ)
      → IsRehearsalOf always_post set top table limits text warnings status → IsRehearsalOf always_post holds top table limits text warnings status
  rehearsed always_post top table limits text warnings status is = record {
    dag = is.dag;
    order = is.order;
    entries = is.entries;
    past = is.past;
    is_dag = found-dag set holds held top is.dag is.is_dag;
    is_order = is.is_order;
    has_entries = is.has_entries;
    run = is.run;
    text_is = is.text_is;
    status_is = is.status_is;
    warnings_are = is.warnings_are;
  }

  rehearsal-refused : (always_post : Bool) (top : List ℕ) (table : Option (List ℕ)) (limits : Limits) (fault : RunFault) → ((path : List ℕ) → missing_in fault ≡ Some path → holds path ≡ None)
      → IsRehearsalFault always_post set top table limits fault → IsRehearsalFault always_post holds top table limits fault
  rehearsal-refused always_post top table limits fault none (has_no_graph why is) = has_no_graph why (graph-refused set holds held top why none is)
  rehearsal-refused always_post top table limits fault none (has_no_table dag why is acyclic bad) = has_no_table dag why (found-dag set holds held top dag is) acyclic bad
  rehearsal-refused always_post top table limits fault none (is_too_long dag order entries is ordered has long) = is_too_long dag order entries (found-dag set holds held top dag is) ordered has long
  rehearsal-refused always_post top table limits fault none rehearsing_had_no_memory = rehearsing_had_no_memory

-- a refusal whose fault stays where files are asked for once more
pub still-refused : (holds : Files) (top : List ℕ) (files : FileSet) → IsReadFrom holds top files → (fault told : RunFault) → IsCheckFault (bytes_of files) top fault
    → IsStill holds fault told → IsCheckRefusalFrom holds top told
still-refused holds top files read fault told why (still_missing none) = held_not_checked fault (refused (bytes_of files) holds read.held top fault none why)
still-refused holds top files read fault told why asking_had_no_memory = held_not_checked Memory checking_had_no_memory

pub refused-of-some : (top : List ℕ) (files : FileSet) (fault told : RunFault) → IsCheckFault (bytes_of files) top fault → IsStill (λ _. None) fault told
    → (holds : Files) × IsCheckRefusalFrom holds top told
refused-of-some top files fault told why (still_missing none) = (bytes_of files, held_not_checked fault why)
refused-of-some top files fault told why asking_had_no_memory = (bytes_of files, held_not_checked Memory checking_had_no_memory)

pub still-not-rehearsed : (always_post : Bool) (holds : Files) (top : List ℕ) (table : Option (List ℕ)) (limits : Limits) (files : FileSet) → IsReadFrom holds top files → (fault told : RunFault)
    → IsRehearsalFault always_post (bytes_of files) top table limits fault → IsStill holds fault told → IsRehearsalRefusalFrom always_post holds top table limits told
still-not-rehearsed always_post holds top table limits files read fault told why (still_missing none) =
    held_not_rehearsed fault (rehearsal-refused (bytes_of files) holds read.held always_post top table limits fault none why)
still-not-rehearsed always_post holds top table limits files read fault told why asking_had_no_memory = held_not_rehearsed Memory rehearsing_had_no_memory

pub not-rehearsed-of-some : (always_post : Bool) (top : List ℕ) (table : Option (List ℕ)) (limits : Limits) (files : FileSet) (fault told : RunFault)
    → IsRehearsalFault always_post (bytes_of files) top table limits fault → IsStill (λ _. None) fault told
    → (holds : Files) × IsRehearsalRefusalFrom always_post holds top table limits told
not-rehearsed-of-some always_post top table limits files fault told why (still_missing none) = (bytes_of files, held_not_rehearsed fault why)
not-rehearsed-of-some always_post top table limits files fault told why asking_had_no_memory = (bytes_of files, held_not_rehearsed Memory rehearsing_had_no_memory)
