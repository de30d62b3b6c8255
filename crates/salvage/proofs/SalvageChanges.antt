-- What `salvage` changes.
use Rattle.std.proofs.Common.{◌≡◌, ◌∙◌, ℕ, List, [], ◌++◌, Result, Ok, Err, IfErr, refl, sym, ap, append_assoc, append-nil}
use Rattle.std.specs.Prelude.{IsErrAnd, IsTrue, is_some}
use Rattle.dag_main_files.specs.Changes.{FileChange, writes_rescue, locks, unlocks, under_lock}
use Rattle.dag_main_files.proofs.Makes.{made-after}
use Rattle.salvage.specs.Faults.{fault_text}
use Rattle.salvage.specs.Changes.{SalvagesInPart, nothing_written, rescue_alone_written, LeavesSalvage, salvage_not_begun, salvage_broken_off, WritesNothing, without_lock, under_lock_nothing}
use Rattle.salvage.specs.declared.fault.SalvageFault.{SalvageFault}

-- it is made under the lock
pub under-its-lock : (top : List ℕ) (whole before locked made now : List FileChange) → locked ≡ before ++ locks top → made ≡ locked ++ whole → now ≡ made ++ unlocks
    → now ≡ before ++ under_lock top whole
under-its-lock top whole before locked made now lock is unlock =
    made-after (locks top) (whole ++ unlocks) before locked now lock (made-after whole unlocks locked made now is unlock)

module _ (IsMade : ℕ → List ℕ → Type 0) (top : List ℕ) where
  -- a call that is refused has written nothing; and it has taken no lock
  pub salvage-unwritten : {A : Type 0} (Q : SalvageFault → Type 0) (result : Result A SalvageFault) → IsErrAnd result Q → (before now : List FileChange) → now ≡ before
      → IfErr result (λ fault. SalvagesInPart IsMade top fault before now)
  salvage-unwritten Q (Ok value) bad before now same = absurd bad
  salvage-unwritten Q (Err fault) refused before now same = nothing_written fault before now same

  pub salvage-not-begun : {A : Type 0} (Q : SalvageFault → Type 0) (result : Result A SalvageFault) → IsErrAnd result Q → (before now : List FileChange) → now ≡ before
      → IfErr result (λ fault. LeavesSalvage IsMade top fault before now)
  salvage-not-begun Q (Ok value) bad before now same = absurd bad
  salvage-not-begun Q (Err fault) refused before now same = salvage_not_begun same

  -- what is made is so much more
  part-more : (fault : SalvageFault) (before now : List FileChange) → SalvagesInPart IsMade top fault before now
      → (made : List FileChange) × SalvagesInPart IsMade top fault [] made × (now ≡ before ++ made)
  part-more fault before now (nothing_written _ _ _ same) = ([], nothing_written fault [] [] refl, same ∙ sym (append-nil before))
  part-more _ before now (rescue_alone_written fault next text _ _ refused made begun) = (
    writes_rescue top next text ++ begun.done,
    rescue_alone_written fault next text [] _ refused made (record { done = begun.done; rest = begun.rest; whole_is = begun.whole_is; made = refl }),
    begun.made ∙ append_assoc before (writes_rescue top next text) begun.done,
  )

  -- it is made under the lock
  pub broken-off-under-lock : (fault : SalvageFault) (before locked made now : List FileChange) → locked ≡ before ++ locks top → SalvagesInPart IsMade top fault locked made
      → now ≡ made ++ unlocks → LeavesSalvage IsMade top fault before now
  broken-off-under-lock fault before locked made now lock part unlock =
      let all = part-more fault locked made part in
      salvage_broken_off all.0 all.1 (under-its-lock top all.0 before locked made now lock all.2 unlock)

  -- where the cause is one that no other command has, nothing is written
  unwritten : (fault : SalvageFault) → IsTrue (is_some (fault_text fault)) → (before now : List FileChange) → SalvagesInPart IsMade top fault before now → now ≡ before
  unwritten fault own before now (nothing_written _ _ _ same) = same
  unwritten _ own before now (rescue_alone_written fault next text _ _ refused made begun) = absurd cc

  pub own-writes-nothing : (fault : SalvageFault) → IsTrue (is_some (fault_text fault)) → (before now : List FileChange) → LeavesSalvage IsMade top fault before now
      → WritesNothing top before now
  own-writes-nothing fault own before now (salvage_not_begun same) = without_lock same
  own-writes-nothing fault own before now (salvage_broken_off made part is) =
      under_lock_nothing (is ∙ ap (λ (m : List FileChange). before ++ under_lock top m) (unwritten fault own [] made part))

  -- and where nothing is written, that may be for any cause
  pub nothing-for-any : (fault : SalvageFault) (before now : List FileChange) → WritesNothing top before now → LeavesSalvage IsMade top fault before now
  nothing-for-any fault before now (without_lock same) = salvage_not_begun same
  nothing-for-any fault before now (under_lock_nothing is) = salvage_broken_off [] (nothing_written fault [] [] refl) is

-- the same where less is known of the rescue file
module _ (IsMade Other : ℕ → List ℕ → Type 0) (less : (next : ℕ) (text : List ℕ) → IsMade next text → Other next text) (top : List ℕ) where
  part-as : (fault : SalvageFault) (before now : List FileChange) → SalvagesInPart IsMade top fault before now → SalvagesInPart Other top fault before now
  part-as fault before now (nothing_written _ _ _ same) = nothing_written fault before now same
  part-as _ before now (rescue_alone_written fault next text _ _ refused made begun) =
      rescue_alone_written fault next text before now refused (less next text made) begun

  pub leaves-as : (fault : SalvageFault) (before now : List FileChange) → LeavesSalvage IsMade top fault before now → LeavesSalvage Other top fault before now
  leaves-as fault before now (salvage_not_begun same) = salvage_not_begun same
  leaves-as fault before now (salvage_broken_off made part is) = salvage_broken_off made (part-as fault [] made part) is
