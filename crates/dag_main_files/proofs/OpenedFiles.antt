-- What is said of the files that were read is said of those that are held.
use Rattle.std.proofs.Common.{◌≡◌, ℕ, Bool, List, Option, Some, None, refl, sym, ap, ◌∙◌}
use Rattle.std.specs.Option.{option_map}
use Rattle.splices_flat.specs.Opening.{Files}
use Rattle.splices_flat.specs.FileSet.{bytes_of, entries_of}
use Rattle.splices_flat.specs.declared.file_set.FileSet.{FileSet}
use Rattle.run_plan.specs.Plan.{Plan}
use Rattle.dag_main_check.specs.Missing.{missing_in}
use Rattle.dag_main_check.specs.Planned.{IsPlanOf, IsGraphFault, opening_had_no_memory, IsPlanWith, IsPlanWithFault, has_no_graph}
use Rattle.dag_main_check.specs.declared.fault.RunFault.{RunFault}
use Rattle.dag_main_check.specs.declared.fault.RunFault.TheVariants.{Memory}
use Rattle.dag_main_check.proofs.HeldFiles.{bare-held, graph-refused, planned-held, planned-refused}
use Rattle.dag_main_files.specs.Beside.{IsRefusalOf, path_refused, refusing_had_no_memory, IsRefusalHeld, unheld_refused, refusing_unheld_had_no_memory}
use Rattle.dag_main_files.specs.Folder.{IsReadFrom}
use Rattle.dag_main_files.specs.Opened.{IsStill, still_missing, asking_had_no_memory, Holding, changing, fixed, IsReadAs, IsUnreadable, IsOfFiles, IsRefusedFor, for_files, HasBarePlan, HasNoGraph, HasPlan, HasNoPlan}

-- a set is read where it is itself what is held
pub own-files : (set : FileSet) (path : List ℕ) → IsReadFrom (bytes_of set) path set
own-files set path = record { held = λ file bytes at. at; has_top = refl }

-- a plan of files that were read is that of the files that are held
pub bare-plan : (holds : Files) (path : List ℕ) (files : FileSet) → IsReadFrom holds path files → (always : Bool) (plan : Plan) → IsPlanOf always (bytes_of files) path plan
    → IsOfFiles (fixed holds) path (HasBarePlan always path plan)
bare-plan holds path files read always plan is = record { holds = holds; held = refl; files = files; read = read; says = bare-held (bytes_of files) holds read.held always path plan is }

pub full-plan : (holds : Files) (path : List ℕ) (files : FileSet) → IsReadFrom holds path files → (always : Bool) (rescue : Option (List ℕ)) (plan : Plan)
    → IsPlanWith always (bytes_of files) (entries_of files) path rescue plan → IsOfFiles (fixed holds) path (HasPlan always path rescue plan)
full-plan holds path files read always rescue plan is =
    record { holds = holds; held = refl; files = files; read = read; says = planned-held (bytes_of files) holds read.held always (entries_of files) path rescue plan is }

-- what is refused for files that were read, of which none is missing that is held
pub no-graph : (holds : Files) (path : List ℕ) (files : FileSet) → IsReadFrom holds path files → (fault told : RunFault) → IsGraphFault (bytes_of files) path fault → IsStill holds fault told
    → IsRefusedFor (fixed holds) path (HasNoGraph path) told
no-graph holds path files read fault told why (still_missing none) =
    for_files fault (record { holds = holds; held = refl; files = files; read = read; says = graph-refused (bytes_of files) holds read.held path fault none why })
no-graph holds path files read fault told why asking_had_no_memory =
    for_files Memory (record { holds = holds; held = refl; files = files; read = read; says = opening_had_no_memory })

pub no-plan : (holds : Files) (path : List ℕ) (rescue : Option (List ℕ)) (files : FileSet) → IsReadFrom holds path files → (fault told : RunFault)
    → IsPlanWithFault (bytes_of files) (entries_of files) path rescue fault → IsStill holds fault told → IsRefusedFor (fixed holds) path (HasNoPlan path rescue) told
no-plan holds path rescue files read fault told why (still_missing none) =
    for_files fault (record { holds = holds; held = refl; files = files; read = read; says = planned-refused (bytes_of files) holds read.held (entries_of files) path rescue fault none why })
no-plan holds path rescue files read fault told why asking_had_no_memory =
    for_files Memory (record { holds = holds; held = refl; files = files; read = read; says = has_no_graph Memory opening_had_no_memory })

-- the same of some files: nothing is known of what a folder holds
pub no-graph-of-some : (path : List ℕ) (files : FileSet) (fault told : RunFault) → IsGraphFault (bytes_of files) path fault → IsStill (λ _. None) fault told
    → IsRefusedFor changing path (HasNoGraph path) told
no-graph-of-some path files fault told why (still_missing none) = for_files fault (record { holds = bytes_of files; held = tt; files = files; read = own-files files path; says = why })
no-graph-of-some path files fault told why asking_had_no_memory = for_files Memory (record { holds = bytes_of files; held = tt; files = files; read = own-files files path; says = opening_had_no_memory })

pub no-plan-of-some : (path : List ℕ) (rescue : Option (List ℕ)) (files : FileSet) (fault told : RunFault) → IsPlanWithFault (bytes_of files) (entries_of files) path rescue fault
    → IsStill (λ _. None) fault told → IsRefusedFor changing path (HasNoPlan path rescue) told
no-plan-of-some path rescue files fault told why (still_missing none) = for_files fault (record { holds = bytes_of files; held = tt; files = files; read = own-files files path; says = why })
no-plan-of-some path rescue files fault told why asking_had_no_memory =
    for_files Memory (record { holds = bytes_of files; held = tt; files = files; read = own-files files path; says = has_no_graph Memory opening_had_no_memory })

-- a fault that tells of no file as missing
pub none-missing : {A : Type 0} (spelled : A → List ℕ) (found : Option A) (fault : RunFault) → option_map spelled found ≡ missing_in fault → found ≡ None → (holds : Files)
    → (path : List ℕ) → missing_in fault ≡ Some path → holds path ≡ None
none-missing spelled found fault is none holds path at =
    let no : missing_in fault ≡ None = sym is ∙ ap (option_map spelled) none in
    absurd cc

abbrev some : {A : Type 0} → A → Option A
some x = Some x

some-is : {A : Type 0} (x y : A) → some x ≡ some y → x ≡ y
some-is x y is = cc

-- the file that it tells of
pub one-missing : {A : Type 0} (spelled : A → List ℕ) (found : Option A) (fault : RunFault) (one : A) → option_map spelled found ≡ missing_in fault → found ≡ Some one → missing_in fault ≡ Some (spelled one)
one-missing spelled found fault one is at = sym is ∙ ap (option_map spelled) at

-- it is not held
pub not-held : {A : Type 0} (spelled : A → List ℕ) (found : Option A) (fault : RunFault) (one : A) → option_map spelled found ≡ missing_in fault → found ≡ Some one
    → (holds : Files) → holds (spelled one) ≡ None → (path : List ℕ) → missing_in fault ≡ Some path → holds path ≡ None
not-held spelled found fault one is at holds none path tells =
    ap holds (some-is path (spelled one) (sym tells ∙ one-missing spelled found fault one is at)) ∙ none

-- what follows from what is said of files
pub said-more : (may_hold : Holding) (path : List ℕ) (P Q : Files → List (List ℕ × List ℕ) → Type 0) → ((files : Files) (entries : List (List ℕ × List ℕ)) → P files entries → Q files entries)
    → IsOfFiles may_hold path P → IsOfFiles may_hold path Q
said-more may_hold path P Q more is =
    record { holds = is.holds; held = is.held; files = is.files; read = is.read; says = more is.holds (entries_of is.files) is.says }

-- a file beside the DAG file: whatever is known of it; and where these files are held
pub read-some : (path : List ℕ) (bytes : Option (List ℕ)) → IsReadAs changing path bytes
read-some path bytes = record { holds = λ p. bytes; held = tt; bytes_are = refl }

pub read-held : (holds : Files) (path : List ℕ) (bytes : Option (List ℕ)) → bytes ≡ holds path → IsReadAs (fixed holds) path bytes
read-held holds path bytes is = record { holds = holds; held = refl; bytes_are = is }

pub unreadable-some : (path : List ℕ) (fault : RunFault) → IsRefusalOf path fault → IsUnreadable changing path fault
unreadable-some path _ (path_refused file is) = record { holds = λ p. None; held = tt; refused = unheld_refused file is refl }
unreadable-some path _ refusing_had_no_memory = record { holds = λ p. None; held = tt; refused = refusing_unheld_had_no_memory }

pub unreadable-held : (holds : Files) (path : List ℕ) (fault : RunFault) → IsRefusalHeld holds path fault → IsUnreadable (fixed holds) path fault
unreadable-held holds path fault why = record { holds = holds; held = refl; refused = why }
