-- The files by which a manager goes, or into which it writes.
use Rattle.std.proofs.Common.{◌≡◌, ◌++◌, ◌<◌, ℕ, List, [], Bor, length, map, get_or, subst, sym}
use Rattle.std.specs.Prelude.{Contains}
use Rattle.std.proofs.lemmas.List.{get_or-map, length-map}
use Rattle.std.proofs.lemmas.List.Elements.{Contains-get_or}
use Rattle.dag_main_check.specs.declared.fault.RunFault.{RunFault}
use Rattle.dag_main_files.specs.Beside.{IsRefusalOf}
use Rattle.dag_main_run.specs.InTheWay.{own_endings, IsOwnerFault, not_own}

-- the texts that these point to
abbrev pub texts : List (Bor (List ℕ)) → List (List ℕ)
texts items = map (λ (item : Bor (List ℕ)). item.now) items

-- these are the ends of the names of all of them
pub record AreOwnEndings (items : List (Bor (List ℕ))) : Type 0 where
  pub named : texts items ≡ own_endings

-- a file of this end may be another user's
pub own-ending : (items : List (Bor (List ℕ))) (index : ℕ) (past : Bor (List ℕ)) (top path : List ℕ) (fault : RunFault) → AreOwnEndings items → index < length items
    → path ≡ top ++ (get_or items index past).now → IsRefusalOf path fault → IsOwnerFault top fault
own-ending items index past top path fault own within is refusal =
    let there : Contains (texts items) (get_or (texts items) index []) =
    Contains-get_or (texts items) index [] (subst (λ n. index < n) (sym (length-map items (λ (item : Bor (List ℕ)). item.now))) within) in
    let same : get_or (texts items) index [] ≡ (get_or items index past).now = get_or-map (λ (item : Bor (List ℕ)). item.now) items index past [] within in
    not_own (get_or items index past).now fault
    (subst (λ endings. Contains endings (get_or items index past).now) own.named (subst (λ ending. Contains (texts items) ending) same there))
    (subst (λ p. IsRefusalOf p fault) is refusal)
