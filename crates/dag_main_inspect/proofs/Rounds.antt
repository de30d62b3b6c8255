-- What is said of the last round.
use Rattle.std.proofs.Common.{◌≡◌, ◌∙◌, ◌⊎◌, ◌<◌, inl, inr, ℕ, Bool, false, List, Option, Some, None, Result, Ok, Err, IfOk, IsTrue, string_bytes, sym, ap, subst}
use Rattle.std.specs.Prelude.{IfSome, IfNone}
use Rattle.splices_flat.specs.Opening.{Files}
use Rattle.node_machine.specs.declared.Record.{Record}
use Rattle.run_plan.specs.Plan.{Plan}
use Rattle.sched_core.specs.Run.{chronological, is_lawful}
use Rattle.sched_core.specs.Core.{Progress}
use Rattle.dag_main_check.specs.Planned.{in_line, named_by, opening_had_no_memory}
use Rattle.dag_main_check.specs.Warnings.{warning_lines}
use Rattle.graph_text.specs.Picture.{unknown}
use Rattle.dag_main_check.specs.declared.fault.RunFault.{RunFault}
use Rattle.dag_main_check.specs.declared.fault.RunFault.TheVariants.{NotThere, Memory}
use Rattle.dag_main_check.specs.declared.warnings.Answer.{Answer}
use Rattle.dag_main_files.specs.Beside.{journal_name_of}
use Rattle.dag_main_files.specs.Opened.{Holding, changing, fixed, IsReadAs, IsUnreadable, IsOfFiles, IsRefusedFor, for_files, HasPlan, HasNoPlan, HasBarePlan, HasNoGraph}
use Rattle.dag_main_files.proofs.OpenedFiles.{read-some, read-held}
use Rattle.dag_main_inspect.specs.Statused.{journal_bytes, flag_by, records_in_bytes, reading_had_no_memory}
use Rattle.dag_main_inspect.specs.LastRound.{used_by, used_name, IsNamedFile, IsLastRound, IsNoLastRound, no_such_rescue, rescue_refused, looking_had_no_memory, IsOpenedRound, IsNotOpenedRound, has_no_plan, IsOfLastRound, IsRefusedOfLastRound, refused_by_round}
use Rattle.dag_main_inspect.specs.Drawn.{IsDrawnText, IsBareDrawn}
use Rattle.dag_main_inspect.specs.declared.graphs.Shape.{Shape}
use Rattle.dag_main_inspect.specs.Asked.{IsOfRecords, TellsOfNoRun, IsNoStatus}

-- the file that is named, whatever is known; and where these files are held
named-some : (path name rescue : Option (List ℕ)) → (name ≡ None → rescue ≡ None) → path ≡ name → IsNamedFile changing path rescue
named-some None name rescue none is = none (sym is)
named-some (Some path) name rescue none is = read-some path rescue

named-held : (holds : Files) (path name rescue : Option (List ℕ)) → (name ≡ None → rescue ≡ None) → ((text : List ℕ) → name ≡ Some text → rescue ≡ holds text) → path ≡ name
    → IsNamedFile (fixed holds) path rescue
named-held holds None name rescue none some is = none (sym is)
named-held holds (Some path) name rescue none some is = read-held holds path rescue (some path (sym is))

module _ (path : List ℕ) (journal rescue name : Option (List ℕ)) (used : ℕ) (used_is : used ≡ used_by journal) (name_is : name ≡ used_name path used) (none : name ≡ None → rescue ≡ None) where
  pub last-some : IsLastRound changing path journal rescue
  last-some = record {
    journal_is = read-some (journal_name_of path) journal;
    rescue_is = named-some (used_name path (used_by journal)) name rescue none (sym (name_is ∙ ap (used_name path) used_is));
  }

  pub last-held : (holds : Files) → journal ≡ holds (journal_name_of path) → ((text : List ℕ) → name ≡ Some text → rescue ≡ holds text) → IsLastRound (fixed holds) path journal rescue
  last-held holds held some = record {
    journal_is = read-held holds (journal_name_of path) journal held;
    rescue_is = named-held holds (used_name path (used_by journal)) name rescue none some (sym (name_is ∙ ap (used_name path) used_is));
  }

-- where there is no journal
pub without-journal : (may_hold : Holding) (path : List ℕ) (journal rescue : Option (List ℕ)) → IsLastRound may_hold path journal rescue → journal ≡ None
    → IsReadAs may_hold (journal_name_of path) None
without-journal may_hold path journal rescue last none = subst (IsReadAs may_hold (journal_name_of path)) none last.journal_is

-- a number that no rescue file has; and a rescue file that is refused
module _ (may_hold : Holding) (path : List ℕ) (journal : Option (List ℕ)) (read : IsReadAs may_hold (journal_name_of path) journal) (used : ℕ) (used_is : used ≡ used_by journal) where
  pub bad-number : (fault : RunFault) → (fault ≡ Memory) ⊎ ((999 < used) × (fault ≡ NotThere used)) → IsNoLastRound may_hold path fault
  bad-number fault (inl memory) = subst (IsNoLastRound may_hold path) (sym memory) looking_had_no_memory
  bad-number fault (inr (high, is)) =
      subst (IsNoLastRound may_hold path) (sym (is ∙ ap (λ (number : ℕ). NotThere number) used_is)) (no_such_rescue journal read (subst (λ (number : ℕ). 999 < number) used_is high))

  pub bad-rescue : (name : Option (List ℕ)) (text : List ℕ) (fault : RunFault) → name ≡ used_name path used → name ≡ Some text → IsUnreadable may_hold text fault → IsNoLastRound may_hold path fault
  bad-rescue name text fault name_is some why = rescue_refused journal text fault read (sym (name_is ∙ ap (used_name path) used_is) ∙ some) why

-- the round is opened, or not
module _ (may_hold : Holding) (path : List ℕ) (journal rescue given : Option (List ℕ)) (given_is : given ≡ rescue) (last : IsLastRound may_hold path journal rescue) where
  pub opened-so : (flag : Bool) → flag ≡ flag_by journal → (plan : Plan) → IsOfFiles may_hold path (HasPlan flag path given plan) → IsOpenedRound may_hold path plan journal
  opened-so flag flag_is plan planned = record {
    rescue = rescue;
    last = last;
    planned = subst (λ (r : Option (List ℕ)). IsOfFiles may_hold path (HasPlan (flag_by journal) path r plan)) given_is
        (subst (λ (b : Bool). IsOfFiles may_hold path (HasPlan b path given plan)) flag_is planned);
  }

  pub not-opened-so : (name : Option (List ℕ)) → name ≡ used_name path (used_by journal) → (fault told : RunFault) → IsRefusedFor may_hold path (HasNoPlan path given) fault
      → told ≡ named_by (in_line fault) name fault → IsNotOpenedRound may_hold path told
  not-opened-so name name_is fault told why is =
      subst (IsNotOpenedRound may_hold path) (sym (is ∙ ap (λ (n : Option (List ℕ)). named_by (in_line fault) n fault) name_is))
      (has_no_plan journal rescue fault last (subst (λ (r : Option (List ℕ)). IsRefusedFor may_hold path (HasNoPlan path r) fault) given_is why))

-- what is said of a round that was opened
module _ (may_hold : Holding) (path : List ℕ) (plan : Plan) (journal : Option (List ℕ)) (opened : IsOpenedRound may_hold path plan journal) where
  pub of-round : (Says : Answer → Plan → Option (List ℕ) → Type 0) (r : Result Answer RunFault) → IfOk r (λ a. Says a plan journal) → IfOk r (λ a. IsOfLastRound may_hold path (Says a))
  of-round Says (Ok a) is = record { plan = plan; journal = journal; opened = opened; says = is }
  of-round Says (Err fault) is = tt

  pub refused-of-round : (Refused : Plan → Option (List ℕ) → RunFault → Type 0) (fault : RunFault) → Refused plan journal fault → IsRefusedOfLastRound may_hold path Refused fault
  refused-of-round Refused fault why = refused_by_round fault (record { plan = plan; journal = journal; opened = opened; says = why })

  pub no-memory : (fault : RunFault) → fault ≡ Memory → IsNoStatus may_hold path fault
  no-memory fault is = refused-of-round TellsOfNoRun fault (subst (TellsOfNoRun plan journal) (sym is) reading_had_no_memory)

  -- what is said of the records of its journal
  pub of-records : (core : Progress) → core.plan ≡ plan → records_in_bytes plan (journal_bytes journal) ≡ Some (chronological core.past) → IsTrue (is_lawful core.plan core.past)
      → (Says : Plan → Option (List ℕ) → List Record → Type 0) → Says core.plan journal core.past
      → IsOfLastRound may_hold path (λ plan journal. IsOfRecords plan journal (Says plan journal))
  of-records core same are lawful Says is = record {
    plan = plan;
    journal = journal;
    opened = opened;
    says = record {
      past = core.past;
      are_records = are;
      lawful = subst (λ (p : Plan). IsTrue (is_lawful p core.past)) same lawful;
      says = subst (λ (p : Plan). Says p journal core.past) same is;
    };
  }

-- the picture of the DAG files alone
module _ (may_hold : Holding) (path : List ℕ) (plan : Plan) (planned : IsOfFiles may_hold path (HasBarePlan false path plan)) where
  pub bare-picture : (shape : Shape) (answer : Result Answer RunFault) → IfOk answer (λ (a : Answer). IsDrawnText shape plan unknown (string_bytes a.text))
      → IfOk answer (λ (a : Answer). string_bytes a.warnings ≡ warning_lines plan.graph.dag.warnings) → IfOk answer (λ (a : Answer). a.status ≡ 0)
      → IfOk answer (λ (a : Answer). IsOfFiles may_hold path (λ files entries. IsBareDrawn shape files path (string_bytes a.text) (string_bytes a.warnings) a.status))
  bare-picture shape (Ok a) text warnings status =
      record { holds = planned.holds; held = planned.held; files = planned.files; read = planned.read; says = ((plan, planned.says, text, warnings), status) }
  bare-picture shape (Err fault) text warnings status = tt

  pub memory-no-graph : (fault : RunFault) → fault ≡ Memory → IsRefusedFor may_hold path (HasNoGraph path) fault
  memory-no-graph fault is = subst (IsRefusedFor may_hold path (HasNoGraph path)) (sym is)
      (for_files Memory (record { holds = planned.holds; held = planned.held; files = planned.files; read = planned.read; says = opening_had_no_memory }))

pub if-some : {A : Type 0} (P Q : A → Type 0) (o : Option A) → ((x : A) → P x → Q x) → IfSome o P → IfSome o Q
if-some P Q None f h = tt
if-some P Q (Some x) f h = f x h

pub if-none : {A : Type 0} (o : Option A) (P Q : Type 0) → (P → Q) → IfNone o P → IfNone o Q
if-none None P Q f h = f h
if-none (Some x) P Q f h = tt
