-- What commands change, by what is known of the files.
use Rattle.std.proofs.Common.{◌≡◌, ℕ, Bool, true, false, List, [], Option, Result, Ok, Err, refl, sym, subst, append-nil}
use Rattle.std.specs.Prelude.{IsErr, IsErrAnd, IfOk, IsTrue, is_some}
use Rattle.splices_flat.specs.Opening.{Files}
use Rattle.splices_flat.specs.declared.file_set.FileSet.{FileSet}
use Rattle.dag_main_args.specs.Requests.{Asked, runs, salvages, redoes, checks, rehearses, views, shows}
use Rattle.dag_main_args.specs.declared.request.RunOptions.{RunOptions}
use Rattle.dag_main_check.specs.declared.warnings.Answer.{Answer}
use Rattle.dag_main_check.specs.declared.fault.RunFault.{RunFault}
use Rattle.dag_main_files.specs.declared.rounds.Round.{Round}
use Rattle.dag_main_files.specs.Folder.{IsReadFrom, IsRoundFrom, these_paths, rescue_in}
use Rattle.round_inputs.specs.declared.begun.Begun.{Begun}
use Rattle.round_inputs.specs.declared.as_begun.ByFiles.{ByFiles}
use Rattle.round_inputs.specs.AsBegun.{as_begun, IsSeenBy}
use Rattle.dag_main_files.specs.Opened.{fixed}
use Rattle.dag_main_files.specs.Changes.{FileChange}
use Rattle.dag_main_run.specs.Sites.{Rounds}
use Rattle.dag_main_run.specs.RunChanges.{found_where, no_looks, left_unlocked}
use Rattle.dag_main_run.proofs.RunChanges.{MakesAs, ok-as-ok, is-refused, run-as}
use Rattle.salvage.specs.Changes.{IsRescueMade, IsRescueMadeIf, LeavesSalvage, salvage_not_begun}
use Rattle.salvage.specs.Faults.{fault_text}
use Rattle.salvage.specs.declared.fault.SalvageFault.{SalvageFault}
use Rattle.salvage.specs.declared.fault.SalvageFault.TheVariants.{Refused}
use Rattle.salvage.proofs.SalvageChanges.{own-writes-nothing, nothing-for-any, leaves-as}
use Rattle.redo.specs.Changes.{MakesRedo, redo_not_begun}
use Rattle.dagrun.specs.Answered.{files_asked, is_beside}
use Rattle.dagrun.proofs.Worlds.{AreToldAs}
use Rattle.dagrun.specs.Changes.{RunKnowledge, RedoKnowledge, ChangesKnown, IsMadeByFiles, made_by_files, nothing_made, MakesRedoWhere, known_where, ChangesOfRun, only_reported, ran, ran_untold, ChangesOfSalvage, salvage_left, salvage_refused, ChangesAs}

-- it is known by other words
abbrev pub KnowsAs : RunKnowledge → RunKnowledge → Type 0
KnowsAs Found Other = (top : List ℕ) (options : RunOptions) (files : FileSet) (round : Round) (rescue : Option (List ℕ)) → Found top options files round rescue
    → Other top options files round rescue

-- what a folder holds is what its host holds
pub found-at : (Here Host : Type 0) (holds other : Files) (has others : List ℕ → Bool) → (Host → Here) → (Host → holds ≡ other) → (Host → has ≡ others)
    → KnowsAs (found_where Here holds has) (found_where Host other others)
found-at Here Host holds other has others honest held there top options files round rescue found = λ host.
    subst (λ (f : Files). IsReadFrom f top files × IsRoundFrom f others top options.autorescue options.dorescuefrom options.always_post round × (rescue ≡ rescue_in f top round.used)) (held host)
    (subst (λ (h : List ℕ → Bool). IsReadFrom holds top files × IsRoundFrom holds h top options.autorescue options.dorescuefrom options.always_post round × (rescue ≡ rescue_in holds top round.used)) (there host)
    (found (honest host)))

-- a run by another result, known by other words
run-of : (result other : Result Answer RunFault) (Found Other : RunKnowledge) → KnowsAs Found Other → (rounds others : Rounds) → AreToldAs rounds others → MakesAs result other
    → (IsErr result → IsErr other) → (top : List ℕ) (options : RunOptions) (before now : List FileChange)
    → ChangesOfRun Found rounds top options result before now → ChangesOfRun Other others top options other before now
run-of result other Found Other knows rounds others told makes err top options before now (only_reported asked same) = only_reported asked same
run-of result other Found Other knows rounds others told makes err top options before now (ran changes) =
    ran (run-as result other (Found top options) (Other top options) rounds others (knows top options) told.stopped makes err top options before now changes)
run-of result other Found Other knows rounds others told makes err top options before now (ran_untold answer asked refused changes) =
    ran_untold answer asked (err refused)
    (run-as {A = Answer} {B = Answer} (Ok answer) (Ok answer) (Found top options) (Other top options) rounds others (knows top options) told.stopped (ok-as-ok answer answer) (λ e. e) top options before now changes)

-- what is told of rounds is told of them
told-same : (rounds : Rounds) → AreToldAs rounds rounds
told-same rounds = record {
  led = λ top limits launcher plan round text status is. is;
  stopped = λ top limits launcher plan round fault is. is;
  deaf = λ is. is;
}

same-known : (Found : RunKnowledge) → KnowsAs Found Found
same-known Found top options files round rescue found = found

same-made : (result : Result Answer RunFault) → MakesAs result result
same-made result top digest files rescue round steps Stopped made is = is

-- what `redo` makes is known by other words
abbrev pub MakesRedoAs : RedoKnowledge → RedoKnowledge → Type 0
MakesRedoAs Makes Other = (path : List ℕ) (nodes : List (List ℕ)) (only begun : Bool) (result : Result Answer RunFault) (before now : List FileChange)
    → Makes path nodes only begun result before now → Other path nodes only begun result before now

pub redone-at : (Here Host : Type 0) (holds other : Files) (has others : List ℕ → Bool) → (Host → Here) → (Host → holds ≡ other) → (Host → has ≡ others)
    → MakesRedoAs (MakesRedoWhere Here holds has) (MakesRedoWhere Host other others)
redone-at Here Host holds other has others honest held there path nodes only begun result before now made = record {
  some = made.some;
  held = λ host.
      subst (λ (f : Files). IsMadeByFiles (files_asked begun) f path (λ files. MakesRedo (fixed files) (these_paths others) path nodes only) result before now) (held host)
      (subst (λ (h : List ℕ → Bool). IsMadeByFiles (files_asked begun) holds path (λ files. MakesRedo (fixed files) (these_paths h) path nodes only) result before now) (there host)
      (made.held (honest host)));
}

-- what a command changes, known by other words
pub known-as : (known other : ChangesKnown) (rounds others : Rounds) → KnowsAs known.found other.found → MakesRedoAs known.redone other.redone → AreToldAs rounds others → (asked : Asked)
    (result : Result Answer RunFault) (before now : List FileChange) → ChangesAs known rounds asked result before now → ChangesAs other others asked result before now
known-as known other rounds others knows makes told (runs path options) result before now changes =
    run-of result result known.found other.found knows rounds others told (same-made result) (λ e. e) path options before now changes
known-as known other rounds others knows makes told (salvages path ended trust_owner) result before now changes = changes
known-as known other rounds others knows makes told (redoes path nodes only begun trust_owner) result before now changes = makes path nodes only begun result before now changes
known-as known other rounds others knows makes told (checks path all json hinted) result before now changes = changes
known-as known other rounds others knows makes told (rehearses path outcomes limits always_post) result before now changes = changes
known-as known other rounds others knows makes told (views path shown begun trust_owner) result before now changes = changes
known-as known other rounds others knows makes told (shows page) result before now changes = changes

-- what is not beside a DAG file is not changed, whatever is known
pub known-of-input : (Found Other : ChangesKnown) (rounds others : Rounds) (asked : Asked) → is_beside asked ≡ false → (result : Result Answer RunFault) (before now : List FileChange)
    → ChangesAs Found rounds asked result before now → ChangesAs Other others asked result before now
known-of-input Found Other rounds others (runs path options) isnt result before now changes = cc
known-of-input Found Other rounds others (salvages path ended trust_owner) isnt result before now changes = changes
known-of-input Found Other rounds others (redoes path nodes only begun trust_owner) isnt result before now changes = cc
known-of-input Found Other rounds others (checks path all json hinted) isnt result before now changes = changes
known-of-input Found Other rounds others (rehearses path outcomes limits always_post) isnt result before now changes = changes
known-of-input Found Other rounds others (views path shown begun trust_owner) isnt result before now changes = changes
known-of-input Found Other rounds others (shows page) isnt result before now changes = changes

-- a run that is refused before anything is changed
run-unchanged : (Found : RunKnowledge) (rounds : Rounds) (top : List ℕ) (options : RunOptions) (result : Result Answer RunFault) → IsErr result → (before : List FileChange)
    → ChangesOfRun Found rounds top options result before before
run-unchanged Found rounds top options result refused before = ran ([], no_looks, left_unlocked refused (sym (append-nil before)))

-- a `redo` that is refused before it looks at the round
pub refused-unchanged : (Q : RunFault → Type 0) (Honest : Type 0) (holds : Files) (has : List ℕ → Bool) (path : List ℕ) (nodes : List (List ℕ)) (only begun : Bool) (result : Result Answer RunFault)
    → IsErrAnd result Q → (before : List FileChange) → MakesRedoWhere Honest holds has path nodes only begun result before before
refused-unchanged Q Honest holds has path nodes only begun (Ok answer) refused before = absurd refused
refused-unchanged Q Honest holds has path nodes only begun (Err fault) refused before = record {
  some = redo_not_begun fault before before refl;
  held = λ honest. nothing_made fault before before refl;
}

-- what is made of a round, by the files by which it is looked at
pub held-made : (path : List ℕ) (by asked : ByFiles) → by ≡ asked → (holds : Files) (kept : Option Begun) → IsSeenBy holds path by kept → (held : Files) → held ≡ holds
    → (Makes : Files → Result Answer RunFault → (before now : List FileChange) → Type 0) (result : Result Answer RunFault) (before now : List FileChange)
    → Makes (as_begun kept held) result before now → IsMadeByFiles asked holds path Makes result before now
held-made path by asked same holds kept seen held is_held Makes result before now made = made_by_files result before now record {
  begun = kept;
  seen = subst (λ (b : ByFiles). IsSeenBy holds path b kept) same seen;
  so = subst (λ (files : Files). Makes (as_begun kept files) result before now) is_held made;
}

-- a command that is refused at once changes nothing
pub nothing-changed : (Q : RunFault → Type 0) (Honest : Type 0) (holds : Files) (has : List ℕ → Bool) (rounds : Rounds) (asked : Asked) (result : Result Answer RunFault) → IsErrAnd result Q
    → (before : List FileChange) → ChangesAs (known_where Honest holds has) rounds asked result before before
nothing-changed Q Honest holds has rounds asked (Ok answer) refused before = absurd refused
nothing-changed Q Honest holds has rounds (runs path options) (Err fault) refused before = run-unchanged (found_where Honest holds has) rounds path options (Err fault) refl before
nothing-changed Q Honest holds has rounds (salvages path ended trust_owner) (Err fault) refused before =
    salvage_refused fault before before (salvage_not_begun refl)
nothing-changed Q Honest holds has rounds (redoes path nodes only begun trust_owner) (Err fault) refused before =
    refused-unchanged Q Honest holds has path nodes only begun (Err fault) refused before
nothing-changed Q Honest holds has rounds (checks path all json hinted) (Err fault) refused before = refl
nothing-changed Q Honest holds has rounds (rehearses path outcomes limits always_post) (Err fault) refused before = refl
nothing-changed Q Honest holds has rounds (views path shown begun trust_owner) (Err fault) refused before = refl
nothing-changed Q Honest holds has rounds (shows page) (Err fault) refused before = refl

-- a run that is refused, handed on
handed-on : (given : RunFault) (result : Result Answer RunFault) → IsErrAnd result (λ fault. fault ≡ given) → (P : Result Answer RunFault → Type 0) → P (Err given) → P result
handed-on given (Ok answer) bad P is = absurd bad
handed-on given (Err fault) same P is = subst (λ (f : RunFault). P (Err f)) (sym same) is

pub run-handed-on : (given : RunFault) (result : Result Answer RunFault) → IsErrAnd result (λ fault. fault ≡ given) → (Found : RunKnowledge) (rounds : Rounds) (top : List ℕ) (options : RunOptions)
    (before now : List FileChange) → ChangesOfRun Found rounds top options (Err given) before now → ChangesOfRun Found rounds top options result before now
run-handed-on given result refused Found rounds top options before now changes =
    handed-on given result refused (λ (r : Result Answer RunFault). ChangesOfRun Found rounds top options r before now) changes

-- a run whose answer is another one
pub run-answered : (Found : RunKnowledge) (rounds : Rounds) (top : List ℕ) (options : RunOptions) (answer other : Answer) (before now : List FileChange)
    → ChangesOfRun Found rounds top options (Ok answer) before now → ChangesOfRun Found rounds top options (Ok other) before now
run-answered Found rounds top options answer other before now changes =
    run-of (Ok answer) (Ok other) Found Found (same-known Found) rounds rounds (told-same rounds) (ok-as-ok answer other) (λ e. e) top options before now changes

-- a run that was led to its end, and it isn't known where each node is
pub run-untold : (Q : RunFault → Type 0) (result : Result Answer RunFault) → IsErrAnd result Q → (Found : RunKnowledge) (rounds : Rounds) (top : List ℕ) (options : RunOptions)
    → options.json ≡ true → (answer : Answer) (before now : List FileChange) → ChangesOfRun Found rounds top options (Ok answer) before now
    → ChangesOfRun Found rounds top options result before now
run-untold Q result refused Found rounds top options json answer before now (only_reported asked same) = only_reported asked same
run-untold Q result refused Found rounds top options json answer before now (ran changes) = ran_untold answer json (is-refused Q result refused) changes
run-untold Q result refused Found rounds top options json answer before now (ran_untold other asked bad changes) = ran_untold other asked (is-refused Q result refused) changes

-- what is known of the rescue file of a round whatever is known of its folder
some-made : (Honest : Type 0) (ended : Bool) (holds : Files) (top : List ℕ) (next : ℕ) (text : List ℕ) → IsRescueMadeIf Honest ended holds top next text → IsRescueMade ended top next text
some-made Honest ended holds top next text is = is.0

-- nothing is salvaged: for a cause that other commands have, too
pub salvage-refused : (Honest : Type 0) (holds : Files) (top : List ℕ) (ended : Bool) (fault : SalvageFault) (given : RunFault) → fault ≡ Refused given
    → (result : Result Answer RunFault) → IsErrAnd result (λ f. f ≡ given) → (before now : List FileChange)
    → LeavesSalvage (IsRescueMadeIf Honest ended holds top) top fault before now → ChangesOfSalvage top ended result before now
salvage-refused Honest holds top ended fault given is (Ok answer) bad before now leaves = absurd bad
salvage-refused Honest holds top ended fault given is (Err other) same before now leaves =
    salvage_refused other before now
    (subst (λ (f : RunFault). LeavesSalvage (IsRescueMade ended top) top (Refused f) before now) (sym same)
    (subst (λ (f : SalvageFault). LeavesSalvage (IsRescueMade ended top) top f before now) is
    (leaves-as (IsRescueMadeIf Honest ended holds top) (IsRescueMade ended top) (some-made Honest ended holds top) top fault before now leaves)))

-- or for one of its own
pub salvage-left : (Honest : Type 0) (holds : Files) (top : List ℕ) (ended : Bool) (fault own : SalvageFault) → own ≡ fault → IsTrue (is_some (fault_text own))
    → (result : Result Answer RunFault) → IfOk result (λ answer. answer.status ≡ 125) → (before now : List FileChange)
    → LeavesSalvage (IsRescueMadeIf Honest ended holds top) top fault before now → ChangesOfSalvage top ended result before now
salvage-left Honest holds top ended fault own same is (Ok answer) status before now leaves =
    salvage_left answer before now status (own-writes-nothing (IsRescueMadeIf Honest ended holds top) top own is before now
    (subst (λ (f : SalvageFault). LeavesSalvage (IsRescueMadeIf Honest ended holds top) top f before now) (sym same) leaves))
salvage-left Honest holds top ended fault own same is (Err other) status before now leaves =
    salvage_refused other before now (nothing-for-any (IsRescueMade ended top) top (Refused other) before now
    (own-writes-nothing (IsRescueMadeIf Honest ended holds top) top own is before now
    (subst (λ (f : SalvageFault). LeavesSalvage (IsRescueMadeIf Honest ended holds top) top f before now) (sym same) leaves)))
