-- The table of the command line: the commands with their arguments, as `clap` reads them.
use Rattle.std.specs.Prelude.{◌≡◌, Bool, true, not, pos, List, [], ◌∷◌, Some, map, codes}
use Rattle.std.specs.Borrow.{Bor}
use Rattle.clap.specs.Lexer.{usize_max}
use Rattle.clap.specs.Walk.{Rule, Text, is_empty, texts}
use Rattle.clap.specs.Simple.{App, Shape, new_rule, new_shape}
use Rattle.clap.specs.declared.builder.action.ArgAction.TheVariants.{Set, Append, SetTrue}
use Rattle.clap.specs.declared.builder.value_parser.ValueParser.TheVariants.{Names, Signed}
use Rattle.dag_main_args.specs.declared.commands.Kind.{Kind}
use Rattle.dag_main_args.specs.declared.commands.Kind.TheVariants.{Needed, Optional, Many, Number, Switch, Flag, FlagWithout, FlagWithoutEach, Words, Path, Choice}
use Rattle.dag_main_args.specs.declared.commands.ArgumentRow.{ArgumentRow}
use Rattle.dag_main_args.specs.declared.commands.CommandRow.{CommandRow}

-- a word that may be there, one that has to be, and any number of words
abbrev pub optional : Text → Rule
optional name = record (new_rule name) { action = Some Set }

abbrev pub needed : Text → Rule
needed name = record (optional name) { required = true }

abbrev pub many : Text → Rule
many name = record (new_rule name) { action = Some Append; range = Some (record { start_inclusive = 0; end_inclusive = usize_max }) }

-- an option of a name
abbrev pub option : Text → Rule
option name = record (optional name) { long = Some name }

-- an option with a text; with a number of 16 bits; with 0 or 1; with one of these words: help calls the value by a name of its own
abbrev pub text_option : Text → Rule
text_option name = record (option name) { value_names = 1 }

abbrev pub number : Text → Rule
number name = record (text_option name) { parser = Some (Signed (pos 0) (pos 65535)) }

abbrev pub switch : Text → Rule
switch name = record (text_option name) { parser = Some (Signed (pos 0) (pos 1)) }

abbrev pub choice : Text → Bor (List (Bor Text)) → Rule
choice name words = record (text_option name) { parser = Some (Names words) }

-- an option with no value; and one that clap refuses beside another option, where `is_tied`
abbrev pub flag : Text → Rule
flag name = record (option name) { action = Some SetTrue }

abbrev pub tied_flag : (is_tied : Bool) → Text → Rule
tied_flag is_tied name = record (flag name) { is_free = not is_tied }

-- a command with its arguments
abbrev pub command : Text → List Rule → Shape
command name rules = record (new_shape name) { rules = rules }

-- the program with these commands, one of which has to be there
abbrev pub program : List Shape → App
program all = record {
  top = record (new_shape (codes "dagrun")) { is_leaf = is_empty all; subcommand_required = true; disable_help_subcommand = true };
  subs = all;
}

-- the path of the DAG file, and whether the owner of the files beside it is trusted
abbrev pub dag : Rule
dag = needed (codes "DAG")

abbrev pub trust_owner : Rule
trust_owner = flag (codes "trust-owner")

abbrev pub as_it_began : Rule
as_it_began = flag (codes "as-begun")

-- whether the answer is for other programs
abbrev pub json : Rule
json = flag (codes "json")

-- what a run may be given
abbrev pub run_rules : (is_tied : Bool) → (orphans progress : Bor (List (Bor Text))) → List Rule
run_rules is_tied orphans progress = dag ∷ number (codes "maxjobs") ∷ number (codes "maxpre") ∷ number (codes "maxpost") ∷ switch (codes "autorescue")
    ∷ number (codes "dorescuefrom") ∷ flag (codes "always-run-post") ∷ flag (codes "stop-at-first-error") ∷ switch (codes "sync-output") ∷ switch (codes "script-output") ∷ number (codes "log-limit")
    ∷ text_option (codes "status-file") ∷ number (codes "status-every") ∷ text_option (codes "launcher")
    ∷ flag (codes "launcher-final") ∷ number (codes "launcher-grace") ∷ choice (codes "orphans") orphans ∷ choice (codes "progress") progress
    ∷ tied_flag is_tied (codes "resume") ∷ json ∷ trust_owner ∷ []

-- what a rehearsal may be given
abbrev pub rehearsal_rules : List Rule
rehearsal_rules = dag ∷ optional (codes "OUTCOMES") ∷ number (codes "maxjobs") ∷ number (codes "maxpre") ∷ number (codes "maxpost")
    ∷ flag (codes "always-run-post") ∷ []

-- the commands of the program, each with what it may be given
abbrev pub commands : (is_tied : Bool) → (orphans progress : Bor (List (Bor Text))) → List Shape
commands is_tied orphans progress = command (codes "run") (run_rules is_tied orphans progress)
    ∷ command (codes "status") (dag ∷ json ∷ as_it_began ∷ trust_owner ∷ [])
    ∷ command (codes "why") (dag ∷ many (codes "NODE") ∷ flag (codes "all") ∷ json ∷ as_it_began ∷ trust_owner ∷ [])
    ∷ command (codes "times") (dag ∷ tied_flag is_tied (codes "svg") ∷ tied_flag is_tied (codes "json") ∷ tied_flag is_tied (codes "summary") ∷ tied_flag is_tied (codes "rounds") ∷ as_it_began ∷ trust_owner ∷ [])
    ∷ command (codes "report") (dag ∷ flag (codes "reload") ∷ as_it_began ∷ trust_owner ∷ [])
    ∷ command (codes "salvage") (dag ∷ flag (codes "ended") ∷ trust_owner ∷ [])
    ∷ command (codes "redo") (dag ∷ many (codes "NODE") ∷ flag (codes "only") ∷ as_it_began ∷ trust_owner ∷ [])
    ∷ command (codes "audit") (dag ∷ json ∷ as_it_began ∷ trust_owner ∷ [])
    ∷ command (codes "check") (dag ∷ flag (codes "all") ∷ json ∷ flag (codes "hints") ∷ flag (codes "condor") ∷ [])
    ∷ command (codes "rehearse") rehearsal_rules
    ∷ command (codes "graph") (dag ∷ flag (codes "fold") ∷ tied_flag is_tied (codes "no-fold") ∷ tied_flag is_tied (codes "as-is") ∷ as_it_began ∷ trust_owner ∷ [])
    ∷ command (codes "explain") (optional (codes "CODE") ∷ [])
    ∷ command (codes "help") (optional (codes "COMMAND") ∷ [])
    ∷ command (codes "version") (json ∷ [])
    ∷ []

abbrev pub dagrun_app : (is_tied : Bool) → (orphans progress : Bor (List (Bor Text))) → App
dagrun_app is_tied orphans progress = program (commands is_tied orphans progress)

-- the program's table; where in memory the words of its two choices stand plays no part
pub record IsDagrunApp (is_tied : Bool) (app : App) : Type 0 where
  pub orphans : Bor (List (Bor Text))
  pub progress : Bor (List (Bor Text))
  pub orphan_words : texts orphans.now ≡ codes "kill" ∷ codes "wait" ∷ codes "leave" ∷ []
  pub progress_words : texts progress.now ≡ codes "auto" ∷ codes "always" ∷ codes "never" ∷ []
  pub table : app ≡ dagrun_app is_tied orphans progress

-- the rule that a row of the program's own table stands for; and the table of such rows
abbrev pub rule_of_kind : (is_tied : Bool) → Text → Kind → Rule
rule_of_kind is_tied name Needed = needed name
rule_of_kind is_tied name Optional = optional name
rule_of_kind is_tied name Many = many name
rule_of_kind is_tied name Number = number name
rule_of_kind is_tied name Switch = switch name
rule_of_kind is_tied name Flag = flag name
rule_of_kind is_tied name (FlagWithout other) = tied_flag is_tied name
rule_of_kind is_tied name (FlagWithoutEach one other third) = tied_flag is_tied name
rule_of_kind is_tied name Words = text_option name
rule_of_kind is_tied name Path = text_option name
rule_of_kind is_tied name (Choice words) = choice name words

abbrev pub rule_by : (is_tied : Bool) → ArgumentRow → Rule
rule_by is_tied row = rule_of_kind is_tied row.name.now row.kind

abbrev pub shape_by : (is_tied : Bool) → CommandRow → Shape
shape_by is_tied row = command row.name.now (map (rule_by is_tied) row.arguments.now)

abbrev pub app_by : (is_tied : Bool) → List CommandRow → App
app_by is_tied rows = program (map (shape_by is_tied) rows)
