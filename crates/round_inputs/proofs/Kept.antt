-- What is kept of a round, and what isn't.
use Rattle.std.proofs.Common.{◌≡◌, ◌∙◌, ℕ, List, Option, Some, None, Result, Ok, Err, ap, sym, subst}
use Rattle.std.specs.Global.{Global}
use Rattle.std.specs.Prelude.{String, IfErr, IsErrAnd}
use Rattle.splices_flat.specs.Opening.{Files}
use Rattle.dag_main_check.specs.declared.fault.RunFault.{RunFault}
use Rattle.dag_main_check.specs.declared.fault.RunFault.TheVariants.{FileRefused, Memory}
use Rattle.dag_main_files.specs.Beside.{journal_name_of, IsRefusalOf, path_refused, refusing_had_no_memory, IsRefusalHeld, unheld_refused, refusing_unheld_had_no_memory}
use Rattle.dag_main_files.specs.Folder.{IsJournalFaultHeld, journal_unheld, journal_unread}
use Rattle.round_inputs.specs.declared.begun.Begun.{Begun}
use Rattle.round_inputs.specs.declared.as_begun.NotKnown.{NotKnown}
use Rattle.round_inputs.specs.declared.as_begun.NotKnown.TheVariants.{Refused}
use Rattle.round_inputs.specs.Begun.{begun_name_of}
use Rattle.round_inputs.specs.AsBegun.{first_there, kept_in, as_begun, IsFileOf, file_of, IsNotOf, of_another_round, of_another_kind, not_as_written, spelling_had_no_memory, IsNotKnown, not_of_it, looking_had_no_memory, cause_of, IsNotBegun, begun_refused, begun_of_another_round}

-- a cause that is handed on
pub by-why : {A : Type 0} (P : NotKnown → Type 0) (given : NotKnown) → P given → (r : Result A NotKnown) → IsErrAnd r (λ why. why ≡ given) → IfErr r P
by-why P given is (Ok x) same = absurd same
by-why P given is (Err why) same = subst P (sym same) is

-- a file that is refused isn't held
pub refused-unheld : (holds : Files) (path : List ℕ) (file : String Global) → IsRefusalHeld holds path (FileRefused file) → holds path ≡ None
refused-unheld holds path file (unheld_refused _ named unheld) = unheld

-- nor as a round saw it, where it isn't kept
pub refused-unkept : {A : Type 0} (begun : Option Begun) (holds : Files) (path : List ℕ) → None ≡ kept_in begun path → (r : Result A RunFault)
    → IfErr r (IsRefusalHeld holds path) → IfErr r (IsRefusalHeld (as_begun begun holds) path)
refused-unkept begun holds path none (Ok x) why = tt
refused-unkept begun holds path none (Err _) (unheld_refused file named unheld) =
    unheld_refused file named (ap (λ (kept : Option (List ℕ)). first_there kept (holds path)) (sym none) ∙ unheld)
refused-unkept begun holds path none (Err _) refusing_unheld_had_no_memory = refusing_unheld_had_no_memory

-- nor a journal that is refused
pub journal-unkept : {A : Type 0} (begun : Option Begun) (holds : Files) (top : List ℕ) → None ≡ kept_in begun (journal_name_of top) → (r : Result A RunFault)
    → IfErr r (IsJournalFaultHeld holds top) → IfErr r (IsJournalFaultHeld (as_begun begun holds) top)
journal-unkept begun holds top none (Ok x) why = tt
journal-unkept begun holds top none (Err fault) (journal_unheld _ why) =
    journal_unheld fault (refused-unkept {A = Unit {0}} begun holds (journal_name_of top) none (Err fault) why)
journal-unkept begun holds top none (Err fault) (journal_unread bytes _ held why) =
    journal_unread bytes fault (ap (λ (kept : Option (List ℕ)). first_there kept (holds (journal_name_of top))) (sym none) ∙ held) why

-- a file by which nothing is gone is refused
pub file-refusal : (path : List ℕ) (fault : RunFault) → IsFileOf path fault → IsRefusalOf path fault
file-refusal path _ (file_of file named) = path_refused file named

-- memory ran out
pub unknown-memory : {A : Type 0} (holds : Files) (path : List ℕ) (given : RunFault) → given ≡ Memory → (r : Result A NotKnown)
    → IsErrAnd r (λ why. why ≡ Refused given) → IfErr r (IsNotKnown holds path)
unknown-memory holds path given is r same =
    by-why (IsNotKnown holds path) (Refused given) (subst (λ (fault : RunFault). IsNotKnown holds path (Refused fault)) (sym is) looking_had_no_memory) r same

pub unbegun-memory : {A : Type 0} (path : List ℕ) (given : RunFault) → given ≡ Memory → (r : Result A NotKnown)
    → IsErrAnd r (λ why. why ≡ Refused given) → IfErr r (λ why. IsNotBegun path (cause_of why))
unbegun-memory path given is r same =
    by-why (λ (why : NotKnown). IsNotBegun path (cause_of why)) (Refused given)
    (subst (IsNotBegun path) (sym is) (begun_refused Memory refusing_had_no_memory)) r same

-- what isn't of this round
pub unknown-bytes : {A : Type 0} (holds : Files) (path name journal bytes : List ℕ) → name ≡ begun_name_of path → holds (journal_name_of path) ≡ Some journal
    → holds name ≡ Some bytes → (r : Result A NotKnown) → IfErr r (IsNotOf name journal bytes) → IfErr r (IsNotKnown holds path)
unknown-bytes holds path name journal bytes named has keeps (Ok x) why = tt
unknown-bytes holds path name journal bytes named has keeps (Err why) not =
    not_of_it journal bytes why has (ap holds (sym named) ∙ keeps) (subst (λ (n : List ℕ). IsNotOf n journal bytes why) named not)

not-begun : (path journal bytes : List ℕ) (why : NotKnown) → IsNotOf (begun_name_of path) journal bytes why → IsNotBegun path (cause_of why)
not-begun path journal bytes _ (of_another_round begun spelled differs) = begun_of_another_round
not-begun path journal bytes _ (of_another_kind fault is begins) = begun_refused fault (file-refusal (begun_name_of path) fault is)
not-begun path journal bytes _ (not_as_written fault is begins) = begun_refused fault (file-refusal (begun_name_of path) fault is)
not-begun path journal bytes _ spelling_had_no_memory = begun_refused Memory refusing_had_no_memory

pub unbegun-bytes : {A : Type 0} (path name journal bytes : List ℕ) → name ≡ begun_name_of path → (r : Result A NotKnown) → IfErr r (IsNotOf name journal bytes)
    → IfErr r (λ why. IsNotBegun path (cause_of why))
unbegun-bytes path name journal bytes named (Ok x) why = tt
unbegun-bytes path name journal bytes named (Err why) not = not-begun path journal bytes why (subst (λ (n : List ℕ). IsNotOf n journal bytes why) named not)
