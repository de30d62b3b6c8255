-- The program's table, as `clap` reads words by it.
use Rattle.std.proofs.Common.{◌≡◌, ◌∙◌, ◌∷◌, [], inl, inr, Bool, List, Option, Some, None, true, false, refl, sym, ap, subst, Bor, is_some}
use Rattle.std.specs.Prelude.{find, option_map}
use Rattle.std.specs.Option.{option_map_or}
use Rattle.std.specs.List.{list_all}
use Rattle.std.specs.Prelude.{Err}
use Rattle.clap.specs.Words.{App, FailsBy, HasKind, Kinds, kind_of, Row, Shape, Text, fault_of, is_simple, is_simple_and_free, subcommand_of, subcommand_rows_of, HasMatchesOf, IsParsedFrom, app_of, takes, built}
use Rattle.clap.specs.declared.Command.{Command}
use Rattle.clap.proofs.CallerLemmas.{subcommand_required}
use Rattle.dag_main_args.proofs.Tables.{no_globals}
use Rattle.clap.specs.Simple.{entered, label_of, rows_at}
use Rattle.clap.specs.Walk.{answers_to}
use Rattle.clap.specs.declared.ArgMatches.{ArgMatches}
use Rattle.clap.specs.declared.Error.{Error}
use Rattle.clap.specs.declared.error.ErrorKind.TheVariants.{OutOfMemory}
use Rattle.clap.proofs.WalkLemmas.{both}
use Rattle.clap.proofs.OnLiterals.{clap_on_literals}
use Rattle.dag_main_args.specs.declared.request.Request.{Request}
use Rattle.dag_main_args.specs.Matched.{AsksFor, command_names, is_text_among}
use Rattle.dag_main_args.specs.Table.{IsDagrunApp, dagrun_app}
use Rattle.dag_main_args.specs.Answered.{AsksNothing, IsAskedFor, IsInVain, IsRefused, clashes}

simple_table : (orphans progress : Bor (List (Bor Text))) → is_simple (dagrun_app false orphans progress) ≡ true
unfolding clap_on_literals
simple_table orphans progress = refl

free_table : (orphans progress : Bor (List (Bor Text))) → is_simple_and_free (dagrun_app false orphans progress) ≡ true
unfolding clap_on_literals
free_table orphans progress = refl

pub simple_app : (app : App) → IsDagrunApp false app → is_simple app ≡ true
simple_app app t = ap is_simple t.table ∙ simple_table t.orphans t.progress

pub free_app : (app : App) → IsDagrunApp false app → is_simple_and_free app ≡ true
free_app app t = ap is_simple_and_free t.table ∙ free_table t.orphans t.progress

-- each command of the built program has a name that is known
known_table : (orphans progress : Bor (List (Bor Text))) → list_all (λ s. is_text_among command_names s.name) (built (dagrun_app false orphans progress)).subs ≡ true
unfolding clap_on_literals
known_table orphans progress = refl

abbrev known : Option (Text × List Row) → Bool
known matched = option_map_or (λ p. is_text_among command_names p.0) matched true

found_known : (test : Shape → Bool) (words : List Text) (subs : List Shape) → list_all (λ s. is_text_among command_names s.name) subs ≡ true
    → known (option_map (λ s. rows_at s words) (find test subs)) ≡ true
found_known test words [] e = refl
found_known test words (s ∷ subs) e = go (test s) refl (λ rest. found_known test words subs rest)
  where
    parts : (is_text_among command_names s.name ≡ true) × (list_all (λ s. is_text_among command_names s.name) subs ≡ true)
    parts = both _ _ e

    go : (b : Bool) → test s ≡ b
        → (list_all (λ s. is_text_among command_names s.name) subs ≡ true → known (option_map (λ s. rows_at s words) (find test subs)) ≡ true)
        → known (option_map (λ s. rows_at s words) (find test (s ∷ subs))) ≡ true
    go true is rest = rw is parts.0
    go false is rest = rw is (rest parts.1)

entered_known : (app : App) (stop : Option (Text × List Text)) → list_all (λ s. is_text_among command_names s.name) app.subs ≡ true → known (entered app stop) ≡ true
entered_known app None e = refl
entered_known app (Some p) e = found_known (λ s. answers_to p.0 (label_of s)) p.1 app.subs e

known_app : (app : App) (words : List Text) → IsDagrunApp false app → known (subcommand_of app words) ≡ true
known_app app words t =
    entered_known (built app) _ (ap (λ (a : App). list_all (λ s. is_text_among command_names s.name) (built a).subs) t.table ∙ known_table t.orphans t.progress)

some_mapped : {X Y : Type 0} (f : X → Y) (o : Option X) → is_some (option_map f o) ≡ is_some o
some_mapped f None = refl
some_mapped f (Some x) = refl

-- words that clap takes name a command
command_met : (command : Command) (m : ArgMatches) → IsParsedFrom command m → IsDagrunApp false (app_of command) → is_some (subcommand_rows_of m) ≡ true
command_met command m parsed t = some_mapped _ _
    ∙ subcommand_required command m parsed (no_globals _ _ _ _ (ap (λ (a : App). a.top.is_plain) t.table)) (ap (λ (a : App). a.top.subcommand_required) t.table)

pub request_asked_for : (command : Command) (words : List Text) (m : ArgMatches) (request : Request) → IsDagrunApp false (app_of command)
    → IsParsedFrom command m → HasMatchesOf (app_of command) words m → fault_of (app_of command) words ≡ [] → clashes (subcommand_rows_of m) ≡ false
    → (known (subcommand_rows_of m) ≡ true → AsksFor (subcommand_rows_of m) request) → IsAskedFor words request
request_asked_for command words m request t parsed has faultless alone asked =
    let app = app_of command in
    let same = (has (simple_app app t)).1 in
    go (subcommand_of app words) refl (ap is_some (sym same) ∙ command_met command m parsed t) (ap clashes (sym same) ∙ alone)
    (subst (λ (o : Option (Text × List Row)). AsksFor o request) same (asked (ap known same ∙ known_app app words t)))
  where
    go : (o : Option (Text × List Row)) → subcommand_of (app_of command) words ≡ o → is_some o ≡ true → clashes o ≡ false → AsksFor o request
        → IsAskedFor words request
    go None is some alone asked = cc
    go (Some p) is some alone asked = record {
      app = app_of command;
      table = t;
      faultless = faultless;
      command = p.0;
      rows = p.1;
      matches = is;
      alone = alone;
      asked = asked;
    }

in_vain : (app : App) (words : List Text) → IsDagrunApp false app → IsInVain (subcommand_of app words) → IsRefused words
in_vain app words t vain = record { app = app; table = t; faultless = λ _. vain; taken = λ _. vain }

pub clash_refused : (app : App) (words : List Text) (m : ArgMatches) → IsDagrunApp false app → HasMatchesOf app words m
    → clashes (subcommand_rows_of m) ≡ true → IsRefused words
clash_refused app words m t has clash = in_vain app words t (inl (ap clashes (sym (has (simple_app app t)).1) ∙ clash))

pub nothing_refused : (app : App) (words : List Text) (m : ArgMatches) → IsDagrunApp false app → HasMatchesOf app words m
    → AsksNothing (subcommand_rows_of m) → IsRefused words
nothing_refused app words m t has nothing = in_vain app words t (inr (subst AsksNothing (has (simple_app app t)).1 nothing))

-- what clap refuses, but for lack of memory, has a fault, and it doesn't take it
pub fault_refused : (app : App) (words : List Text) (e : Error) → IsDagrunApp false app → FailsBy {T = ArgMatches} (fault_of app words) (Err e)
    → (takes app words ≡ true → kind_of e ≡ OutOfMemory) → (kind_of e ≡ OutOfMemory → ⊥) → IsRefused words
fault_refused app words e t fails passes other = record {
  app = app;
  table = t;
  faultless = λ none. elim (subst (λ (kinds : Kinds). HasKind kinds e) none fails) [ inl memory ↦ absurd (other memory) | inr among ↦ absurd among ];
  taken = λ taken. absurd (other (passes taken));
}
