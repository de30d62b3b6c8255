-- What is known of files by one sight is known by another.
use Rattle.std.proofs.Common.{◌≡◌, inl, inr, ℕ, zero, suc, Bool, List, Option, Some, None, refl, sym}
use Rattle.splices_flat.specs.Opening.{Files}
use Rattle.splices_flat.specs.declared.file_set.FileSet.{FileSet}
use Rattle.dag_main_check.specs.declared.fault.RunFault.{RunFault}
use Rattle.dag_main_files.specs.Folder.{rescue_in}
use Rattle.round_inputs.specs.declared.inputs.Listed.{Listed}
use Rattle.salvage.specs.Sight.{Sight, any_files, held_files, held_files_if, IsRescueSeen, IsListSeen}
use Rattle.salvage.specs.Others.{IsOtherRescue, rescue_missing, rescue_changed, rescue_refused, IsOther, other_file, other_marks}
use Rattle.salvage.specs.Refused.{IsNoRound, has_no_journal, journal_refused, not_left, IsNoInputs, has_no_inputs, inputs_refused, not_spelled, of_another_round, IsCutShortFault, no_inputs, other_files, other_rescue, no_plan, not_of_plan, keeping_refused, no_new_graph, not_of_begun, IsSalvageFault, no_round, rescue_is_written, round_refused, file_in_the_way, another_is_at_work, no_standard_input, rescue_not_written, journal_not_put_away, making_had_no_memory}
use Rattle.salvage.specs.declared.fault.SalvageFault.{SalvageFault}

module _ (from to : Sight) (top : List ℕ) (has : (path bytes : List ℕ) → from.has path bytes → to.has path bytes)
    (lacks : (path : List ℕ) → from.lacks path → to.lacks path) (refuses : (path : List ℕ) (fault : RunFault) → from.refuses path fault → to.refuses path fault)
    (read : (files : FileSet) → from.read files → to.read files) where
  list-seen : (digest : List ℕ) (listed : List Listed) (files : FileSet) → IsListSeen from top digest listed files → IsListSeen to top digest listed files
  list-seen digest listed files seen = record { listed_are = has _ _ seen.listed_are; files_are = read files seen.files_are }

  rescue-by : (used : ℕ) (rescue : Option (List ℕ)) → IsRescueSeen from top used rescue → IsRescueSeen to top used rescue
  rescue-by used None (inl none) = inl none
  rescue-by used None (inr missing) = inr (lacks _ missing)
  rescue-by used (Some bytes) is = has _ bytes is

  other-rescue : (listed : List Listed) (used : ℕ) (fault : SalvageFault) → IsOtherRescue from listed top used fault → IsOtherRescue to listed top used fault
  other-rescue listed used _ (rescue_missing sum some missing is) = rescue_missing sum some (lacks _ missing) is
  other-rescue listed used _ (rescue_changed bytes fault some is other) = rescue_changed bytes fault some (has _ bytes is) other
  other-rescue listed used _ (rescue_refused fault why) = rescue_refused fault (refuses _ fault why)

  pub other-by : (listed : List Listed) (used : ℕ) (files : FileSet) (fault : SalvageFault) → IsOther from listed top used files fault → IsOther to listed top used files fault
  other-by listed used files _ (other_file fault first) = other_file fault first
  other-by listed used files _ (other_marks fault same other) = other_marks fault same (other-rescue listed used fault other)

  no-inputs : (digest : List ℕ) (fault : SalvageFault) → IsNoInputs from top digest fault → IsNoInputs to top digest fault
  no-inputs digest _ (has_no_inputs missing) = has_no_inputs (lacks _ missing)
  no-inputs digest _ (inputs_refused fault why) = inputs_refused fault (refuses _ fault why)
  no-inputs digest _ (not_spelled bytes is) = not_spelled bytes (has _ bytes is)
  no-inputs digest _ (of_another_round other listed is differs) = of_another_round other listed (has _ _ is) differs

  no-round : (too : Bool) (fault : SalvageFault) → IsNoRound too from top fault → IsNoRound too to top fault
  no-round too _ (has_no_journal missing) = has_no_journal (lacks _ missing)
  no-round too _ (journal_refused fault why) = journal_refused fault (refuses _ fault why)
  no-round too _ (not_left journal fault is why) = not_left journal fault (has _ journal is) why

  cut-short-by : (journal digest : List ℕ) (used : ℕ) (always_post : Bool) (fault : SalvageFault) → IsCutShortFault from top journal digest used always_post fault
      → IsCutShortFault to top journal digest used always_post fault
  cut-short-by journal digest used always_post _ (no_inputs fault why) = no_inputs fault (no-inputs digest fault why)
  cut-short-by journal digest used always_post _ (other_files listed files fault seen why) = other_files listed files fault (list-seen digest listed files seen) why
  cut-short-by journal digest used always_post _ (other_rescue listed files fault seen same why) =
      other_rescue listed files fault (list-seen digest listed files seen) same (other-rescue listed used fault why)
  cut-short-by journal digest used always_post _ (no_plan listed files rescue fault seen same marks is why) =
      no_plan listed files rescue fault (list-seen digest listed files seen) same (rescue-by used rescue marks) is why
  cut-short-by journal digest used always_post _ (not_of_plan listed files rescue plan fault seen same marks is planned why) =
      not_of_plan listed files rescue plan fault (list-seen digest listed files seen) same (rescue-by used rescue marks) is planned why
  cut-short-by journal digest used always_post _ (keeping_refused listed files other fault seen is why) =
      keeping_refused listed files other fault (list-seen digest listed files seen) (other-by listed used files other is) (refuses _ fault why)
  cut-short-by journal digest used always_post _ (no_new_graph listed files other fault seen is why) =
      no_new_graph listed files other fault (list-seen digest listed files seen) (other-by listed used files other is) why
  cut-short-by journal digest used always_post _ (not_of_begun listed files other begun old fault seen is kept planned why) =
      not_of_begun listed files other begun old fault (list-seen digest listed files seen) (other-by listed used files other is) (has _ begun kept) planned why

  fault-by : (too : Bool) (fault : SalvageFault) → IsSalvageFault too from top fault → IsSalvageFault too to top fault
  fault-by too _ (no_round fault why) = no_round fault (no-round too fault why)
  fault-by too _ (rescue_is_written journal found bytes is reads ended written) = rescue_is_written journal found bytes (has _ journal is) reads ended (has _ bytes written)
  fault-by too _ (round_refused ended journal digest used next always_post fault is cut why) =
      round_refused ended journal digest used next always_post fault (has _ journal is) cut (cut-short-by journal digest used always_post fault why)
  fault-by too _ (file_in_the_way fault why) = file_in_the_way fault why
  fault-by too _ (another_is_at_work fault why) = another_is_at_work fault why
  fault-by too _ (no_standard_input fault why) = no_standard_input fault why
  fault-by too _ (rescue_not_written ended journal digest used next always_post fault is cut why) =
      rescue_not_written ended journal digest used next always_post fault (has _ journal is) cut why
  fault-by too _ (journal_not_put_away ended journal digest used next always_post fault is cut why) =
      journal_not_put_away ended journal digest used next always_post fault (has _ journal is) cut why
  fault-by too _ making_had_no_memory = making_had_no_memory

-- by the files that are held where a premise holds: something is so of any files, and where the premise holds of those that are held
module _ (Honest : Type 0) (holds : Files) (there : List ℕ → Bool) (top : List ℕ) where
  pub fault-of-any : (too : Bool) (fault : SalvageFault) → IsSalvageFault too (held_files_if Honest holds there top) top fault → IsSalvageFault too any_files top fault
  fault-of-any = fault-by (held_files_if Honest holds there top) any_files top (λ path bytes is. tt) (λ path is. tt) (λ path fault is. is.0) (λ files is. tt)

  pub other-of-any : (listed : List Listed) (used : ℕ) (files : FileSet) (fault : SalvageFault) → IsOther (held_files_if Honest holds there top) listed top used files fault
      → IsOther any_files listed top used files fault
  other-of-any = other-by (held_files_if Honest holds there top) any_files top (λ path bytes is. tt) (λ path is. tt) (λ path fault is. is.0) (λ files is. tt)

  pub fault-of-held : Honest → (too : Bool) (fault : SalvageFault) → IsSalvageFault too (held_files_if Honest holds there top) top fault → IsSalvageFault too (held_files holds there top) top fault
  fault-of-held honest = fault-by (held_files_if Honest holds there top) (held_files holds there top) top (λ path bytes is. is honest) (λ path is. is honest) (λ path fault is. is.1 honest)
      (λ files is. is honest)

  -- the rescue file that a round read
  pub rescue-seen : (used : ℕ) (rescue : Option (List ℕ)) → (Honest → rescue ≡ rescue_in holds top used) → IsRescueSeen (held_files_if Honest holds there top) top used rescue
  rescue-seen zero None is = inl refl
  rescue-seen zero (Some bytes) is = λ honest. let none = is honest in absurd cc
  rescue-seen (suc n) None is = inr (λ honest. inl (sym (is honest)))
  rescue-seen (suc n) (Some bytes) is = λ honest. sym (is honest)
