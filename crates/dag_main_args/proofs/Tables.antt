-- The table of the command line, row by row.
use Rattle.std.proofs.Common.{◌≡◌, ◌∙◌, ◌∷◌, [], ◌<◌, ◌≤◌, ◌+◌, ◌&&◌, ◌++◌, ℕ, Bool, List, Option, Some, None, true, false, refl, sym, ap, ap₂, not, length, map, take, codes, Bor, if◌then◌else◌, arith, is_some}
use Rattle.std.proofs.lemmas.Bool.{ne_eqb}
use Rattle.clap.specs.Walk.{is_empty}
use Rattle.clap.specs.Simple.{new_shape}
use Rattle.std.specs.Str.{bytes_eq}
use Rattle.std.proofs.Math.ListN.{get_or}
use Rattle.std.proofs.Math.Seq.{take_all}
use Rattle.std.proofs.lemmas.List.{map-append, take_more}
use Rattle.clap.specs.Words.{AddsArg, App, Rule, Shape, Text, app_of, rule_of, with_rule, with_subcommand}
use Rattle.clap.specs.Walk.{texts}
use Rattle.clap.specs.declared.Arg.{Arg}
use Rattle.clap.specs.declared.Command.{Command}
use Rattle.clap.specs.declared.builder.ValueParser.{ValueParser}
use Rattle.clap.specs.declared.builder.ValueParser.TheVariants.{Names}
use Rattle.clap.proofs.WalkLemmas.{both}
use Rattle.dag_main_args.specs.declared.commands.Kind.{Kind}
use Rattle.dag_main_args.specs.declared.commands.Kind.TheVariants.{Needed, Optional, Many, Number, Switch, Flag, FlagWithout, FlagWithoutEach, Words, Path, Choice}
use Rattle.dag_main_args.specs.declared.commands.ArgumentRow.{ArgumentRow}
use Rattle.dag_main_args.specs.declared.commands.CommandRow.{CommandRow}
use Rattle.dag_main_args.specs.Table.{IsDagrunApp, app_by, command, dagrun_app, program, rule_by, rule_of_kind, shape_by}

off : (b : Bool) → not b ≡ true → b ≡ false
off true e = sym e
off false e = refl

-- a plain command has no global argument
pub no_globals : (a b h r : Bool) → (a && (not b && (not h && r))) ≡ true → h ≡ false
no_globals a b h r e = off h (both _ _ (both _ _ (both _ _ e).1).1).0

-- and a simple argument is not global
not_global : (a b c d e f g h i j : Bool) → (a && (b && (c && (not d && (not e && (not f && (not g && (not h && (not i && not j))))))))) ≡ true → j ≡ false
not_global a b c d e f g h i j is =
    let after_a = (both a _ is).1 in
    let after_b = (both b _ after_a).1 in
    let after_c = (both c _ after_b).1 in
    let after_d = (both (not d) _ after_c).1 in
    let after_e = (both (not e) _ after_d).1 in
    let after_f = (both (not f) _ after_e).1 in
    let after_g = (both (not g) _ after_f).1 in
    let after_h = (both (not h) _ after_g).1 in
    off j (both (not i) _ after_h).1

is_local : (a : Arg) → (rule_of a).is_simple ≡ true → a.global ≡ false
is_local a is = not_global (is_empty a.overrides.items) (is_empty a.default_vals_ifs.items) (is_empty a.groups.items) (is_some a.val_delim)
    (is_some a.terminator) a.allow_hyphen_values a.allow_negative_numbers a.require_equals a.last a.global is

simple_kind : (is_tied : Bool) (name : Text) (kind : Kind) → (rule_of_kind is_tied name kind).is_simple ≡ true
simple_kind is_tied name Needed = refl
simple_kind is_tied name Optional = refl
simple_kind is_tied name Many = refl
simple_kind is_tied name Number = refl
simple_kind is_tied name Switch = refl
simple_kind is_tied name Flag = refl
simple_kind is_tied name (FlagWithout other) = refl
simple_kind is_tied name (FlagWithoutEach one other third) = refl
simple_kind is_tied name Words = refl
simple_kind is_tied name Path = refl
simple_kind is_tied name (Choice words) = refl

-- one row more, of the rows up to a place
mapped_more : {X Y : Type 0} (f : X → Y) (xs : List X) (i : ℕ) (d : X) → i < length xs → map f (take (i + 1) xs) ≡ map f (take i xs) ++ f (get_or xs i d) ∷ []
mapped_more f xs i d lt = ap (map f) (take_more xs i d lt) ∙ map-append f (take i xs) (get_or xs i d ∷ [])

pub argument_added : (is_tied : Bool) (name : Text) (rows : List ArgumentRow) (i : ℕ) (d : ArgumentRow) (old new : Command) (a : Arg) → i < length rows
    → AddsArg old a new → rule_of a ≡ rule_by is_tied (get_or rows i d)
    → app_of old ≡ record { top = command name (map (rule_by is_tied) (take i rows)); subs = [] }
    → app_of new ≡ record { top = command name (map (rule_by is_tied) (take (i + 1) rows)); subs = [] }
argument_added is_tied name rows i d old new a lt added is was =
    let row = get_or rows i d in
    added.shape (is_local a (ap (λ (r : Rule). r.is_simple) is ∙ simple_kind is_tied row.name.now row.kind))
    ∙ (ap₂ with_rule was is ∙ ap (λ (rules : List Rule). record { top = command name rules; subs = [] }) (sym (mapped_more (rule_by is_tied) rows i d lt)))

more_commands : (commands : List Shape) (s : Shape) → with_subcommand (program commands) s ≡ program (commands ++ s ∷ [])
more_commands [] s = refl
more_commands (x ∷ xs) s =
    let some : is_empty ((x ∷ xs) ++ s ∷ []) ≡ false = ne_eqb _ _ (λ none. absurd (omega (arith, none))) in
    ap (λ (leaf : Bool). record {
      top = record (new_shape (codes "dagrun")) { is_leaf = leaf; subcommand_required = true; disable_help_subcommand = true };
      subs = (x ∷ xs) ++ s ∷ [];
    }) (sym some)

pub command_added : (is_tied : Bool) (rows : List CommandRow) (i : ℕ) (d : CommandRow) (old new : App) → i < length rows
    → new ≡ with_subcommand old (shape_by is_tied (get_or rows i d)) → old ≡ app_by is_tied (take i rows) → new ≡ app_by is_tied (take (i + 1) rows)
command_added is_tied rows i d old new lt is was =
    is ∙ (ap (λ (a : App). with_subcommand a (shape_by is_tied (get_or rows i d))) was
    ∙ (more_commands (map (shape_by is_tied) (take i rows)) (shape_by is_tied (get_or rows i d))
    ∙ ap program (sym (mapped_more (shape_by is_tied) rows i d lt))))

-- the words of a choice, where the first row has it
abbrev words_at : Option ValueParser → Bor (List (Bor Text))
words_at (Some (Names words)) = words
words_at _ = record { ref_ptr = (0, 0); now = [] }

abbrev parser_at : Text → List Rule → Option ValueParser
parser_at name [] = None
parser_at name (rule ∷ rules) = if bytes_eq rule.id name then rule.parser else parser_at name rules

abbrev pub choice_in : Text → List Shape → Bor (List (Bor Text))
choice_in name [] = record { ref_ptr = (0, 0); now = [] }
choice_in name (s ∷ rest) = words_at (parser_at name s.rules)

abbrev pub orphans_in : Bool → List CommandRow → Bor (List (Bor Text))
orphans_in is_tied rows = choice_in (codes "orphans") (map (shape_by is_tied) rows)

abbrev pub progress_in : Bool → List CommandRow → Bor (List (Bor Text))
progress_in is_tied rows = choice_in (codes "progress") (map (shape_by is_tied) rows)

-- the program with all of its rows is that of the table
pub whole_table : (is_tied : Bool) (rows : List CommandRow) (i : ℕ) (app : App) → app ≡ app_by is_tied (take i rows) → length rows ≤ i
    → texts (orphans_in is_tied rows).now ≡ codes "kill" ∷ codes "wait" ∷ codes "leave" ∷ []
    → texts (progress_in is_tied rows).now ≡ codes "auto" ∷ codes "always" ∷ codes "never" ∷ []
    → app_by is_tied rows ≡ dagrun_app is_tied (orphans_in is_tied rows) (progress_in is_tied rows) → IsDagrunApp is_tied app
whole_table is_tied rows i app is le orphans progress table = record {
  orphans = orphans_in is_tied rows;
  progress = progress_in is_tied rows;
  orphan_words = orphans;
  progress_words = progress;
  table = is ∙ (ap (app_by is_tied) (take_all i rows le) ∙ table);
}
