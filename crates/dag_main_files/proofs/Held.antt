-- What is held.
use Rattle.std.proofs.Common.{◌≡◌, ◌≢◌, ℕ, zero, suc, List, Some, None, refl, sym, ap, ◌∙◌, ⊎_elim}
use Rattle.std.proofs.lemmas.Bool.{cases_Bool, both_ways}
use Rattle.std.proofs.lemmas.Slice.Eq.{bytes_eq-Decides}
use Rattle.std.specs.Str.{bytes_eq}
use Rattle.splices_flat.specs.Opening.{Files}
use Rattle.splices_flat.specs.FileSet.{bytes_of}
use Rattle.splices_flat.specs.declared.file_set.FileSet.{FileSet}
use Rattle.rescue_file.specs.Numbered.{rescue_name_of}
use Rattle.dag_main_files.specs.Folder.{AreHeld, KeepsFiles, IsReadFrom, rescue_in}

module _ (old new : FileSet) (name bytes : List ℕ) (added : bytes_of new name ≡ Some bytes)
    (others : (other : List ℕ) → other ≢ name → bytes_of new other ≡ bytes_of old other) where
  pub held-added : (holds : Files) → holds name ≡ Some bytes → AreHeld holds old → AreHeld holds new
  held-added holds is before path found at = ⊎_elim
      (λ same.
      let here : path ≡ name = (bytes_eq-Decides path name).0 same in
      ap holds here ∙ is ∙ sym added ∙ ap (bytes_of new) (sym here) ∙ at)
      (λ differs. before path found (sym (others path (λ here. both_ways (bytes_eq path name) differs ((bytes_eq-Decides path name).1 here))) ∙ at))
      (cases_Bool (bytes_eq path name))

  pub read-added : (holds : Files) → holds name ≡ Some bytes → (top : List ℕ) → IsReadFrom holds top old → IsReadFrom holds top new
  read-added holds is top before = record {
    held = held-added holds is before.held;
    has_top = ⊎_elim
        (λ same.
        let here : top ≡ name = (bytes_eq-Decides top name).0 same in
        ap (bytes_of new) here ∙ added ∙ sym is ∙ ap holds (sym here))
        (λ differs. others top (λ here. both_ways (bytes_eq top name) differs ((bytes_eq-Decides top name).1 here)) ∙ before.has_top)
        (cases_Bool (bytes_eq top name));
  }

  pub kept-added : bytes_of old name ≡ None → KeepsFiles old new
  kept-added missing path found at = ⊎_elim
      (λ same.
      let here : path ≡ name = (bytes_eq-Decides path name).0 same in
      let none : bytes_of old path ≡ None = ap (bytes_of old) here ∙ missing in
      absurd cc)
      (λ differs. others path (λ here. both_ways (bytes_eq path name) differs ((bytes_eq-Decides path name).1 here)) ∙ at)
      (cases_Bool (bytes_eq path name))

-- the rescue file of a number that is not 0
pub rescue-held : (holds : Files) (top : List ℕ) (used : ℕ) → used ≢ 0 → rescue_in holds top used ≡ holds (rescue_name_of top used)
rescue-held holds top zero some = absurd (some refl)
rescue-held holds top (suc n) some = refl
