-- What words ask for, worked out.
use Rattle.std.proofs.Common.{Bool, ◌≡◌, ◌∙◌, ◌∷◌, [], ℕ, List, Option, Some, None, true, false, refl, sym, ap, ap₂, subst, codes, Bor, inl, inr}
use Rattle.std.specs.Str.{bytes_eq}
use Rattle.std.proofs.lemmas.Slice.Eq.{bytes_eq-Decides}
use Rattle.clap.specs.Words.{App, Row, Text, first_of, subcommand_of, takes}
use Rattle.throttles.specs.declared.Limits.{Limits}
use Rattle.clap.proofs.OnLiterals.{clap_on_literals}
use Rattle.dag_main_args.specs.declared.request.RunOptions.{RunOptions}
use Rattle.dag_main_args.specs.declared.request.Request.{Request}
use Rattle.dag_main_args.specs.declared.request.Request.TheVariants.{Check, Run, Show, Rehearse, Salvage, Redo, Page}
use Rattle.dag_main_args.specs.declared.request.View.{View}
use Rattle.dag_main_args.specs.declared.request.View.TheVariants.{Status, Audit, Graph, Why, Times, Report}
use Rattle.dag_main_args.specs.Launchers.{IsLauncherOf, given, not_given}
use Rattle.dag_main_args.specs.Requests.{Asked, asked_by, no_limits, rehearses, runs, shown_by, shows, the_reasons, views}
use Rattle.dag_main_args.specs.Matched.{AreOptionsOf, AsksFor, IsRequestOf, IsViewOf, dag_path, is_on, is_set, is_text_among, limits_asked, nodes_asked, number_asked, orphan_rule_of, progress_of, trusts_owner, version_asked, version_text}
use Rattle.dag_main_args.specs.Table.{dagrun_app}
use Rattle.dag_main_args.specs.Answered.{clashes}
use Rattle.dag_main_args.specs.Examples.{AskForAlone, AskInVain, plain_options}

differ : (a b : Text) → bytes_eq a b ≡ false → a ≡ b → ⊥
differ a b unlike e =
    let like = (bytes_eq-Decides a b).1 e in
    cc

unlaunched : (text : Option (List ℕ)) (words : List (List ℕ)) → IsLauncherOf text words → text ≡ None → words ≡ []
unlaunched None words not_given e = refl
unlaunched (Some text) words (given t ws spelled named) e = cc

-- rows that ask for a run with these options, and for no launcher
record AsksRun (rows : List Row) (options : RunOptions) : Type 0 where
  limits : limits_asked rows ≡ options.limits
  autorescue : is_on (codes "autorescue") rows ≡ options.autorescue
  dorescuefrom : number_asked 16 (codes "dorescuefrom") rows ≡ options.dorescuefrom
  orphans : orphan_rule_of rows ≡ options.orphans
  always_post : is_set (codes "always-run-post") rows ≡ options.always_post
  stop_at_first_error : is_set (codes "stop-at-first-error") rows ≡ options.stop_at_first_error
  sync_output : is_on (codes "sync-output") rows ≡ options.sync_output
  script_output : is_on (codes "script-output") rows ≡ options.script_output
  log_limit : number_asked 16 (codes "log-limit") rows ≡ options.log_limit
  status_file : first_of (codes "status-file") rows ≡ options.status_file
  status_every : number_asked 16 (codes "status-every") rows ≡ options.status_every
  launcher : first_of (codes "launcher") rows ≡ None
  none : options.launcher ≡ []
  launcher_grace : number_asked 16 (codes "launcher-grace") rows ≡ options.launcher_grace
  launcher_final : is_set (codes "launcher-final") rows ≡ options.launcher_final
  progress : progress_of rows ≡ options.progress
  resume : is_set (codes "resume") rows ≡ options.resume
  json : is_set (codes "json") rows ≡ options.json
  trust_owner : is_set (codes "trust-owner") rows ≡ options.trust_owner

same_options : (rows : List Row) (options plain : RunOptions) → AreOptionsOf rows options → AsksRun rows plain → options ≡ plain
same_options rows options plain a b = λ i. record {
  limits = (a.limits ∙ b.limits) i;
  autorescue = (a.autorescue ∙ b.autorescue) i;
  dorescuefrom = (a.dorescuefrom ∙ b.dorescuefrom) i;
  orphans = (a.orphans ∙ b.orphans) i;
  always_post = (a.always_post ∙ b.always_post) i;
  stop_at_first_error = (a.stop_at_first_error ∙ b.stop_at_first_error) i;
  sync_output = (a.sync_output ∙ b.sync_output) i;
  script_output = (a.script_output ∙ b.script_output) i;
  log_limit = (a.log_limit ∙ b.log_limit) i;
  status_file = (a.status_file ∙ b.status_file) i;
  status_every = (a.status_every ∙ b.status_every) i;
  launcher = (unlaunched _ _ a.launcher b.launcher ∙ sym b.none) i;
  launcher_grace = (a.launcher_grace ∙ b.launcher_grace) i;
  launcher_final = (a.launcher_final ∙ b.launcher_final) i;
  progress = (a.progress ∙ b.progress) i;
  resume = (a.resume ∙ b.resume) i;
  json = (a.json ∙ b.json) i;
  trust_owner = (a.trust_owner ∙ b.trust_owner) i;
}

-- the commands that show something of a round
abbrev shown_names : List Text
shown_names = codes "status" ∷ codes "audit" ∷ codes "graph" ∷ codes "why" ∷ codes "times" ∷ codes "report" ∷ []

none_of_them : (command name : Text) → is_text_among shown_names command ≡ false → is_text_among shown_names name ≡ true → command ≡ name → ⊥
none_of_them command name other known same =
    let none = subst (λ (c : Text). is_text_among shown_names c ≡ false) same other in
    cc

-- another command has no view
unshown : {P : Type 0} (command : Text) (rows : List Row) (view : View) → is_text_among shown_names command ≡ false → IsViewOf command rows view → P
unshown command rows (Status json) other h = absurd (none_of_them _ _ other refl h.0)
unshown command rows (Audit json) other h = absurd (none_of_them _ _ other refl h.0)
unshown command rows (Graph fold as_is) other h = absurd (none_of_them _ _ other refl h.0)
unshown command rows (Why nodes all json) other h = absurd (none_of_them _ _ other refl h.0)
unshown command rows (Times svg json summary rounds) other h = absurd (none_of_them _ _ other refl h.0)
unshown command rows (Report reload) other h = absurd (none_of_them _ _ other refl h.0)

-- what `why` shows
why_shown : (rows : List Row) (nodes : List Text) (view : View) → IsViewOf (codes "why") rows view → nodes_asked rows ≡ nodes
    → is_set (codes "all") rows ≡ false → is_set (codes "json") rows ≡ false → shown_by view ≡ the_reasons nodes false false
why_shown rows nodes (Why names all json) h asks grouped plain = λ i. the_reasons ((h.1 ∙ asks) i) ((h.2 ∙ grouped) i) ((h.3 ∙ plain) i)
why_shown rows nodes (Status json) h asks grouped plain = absurd (differ _ _ refl h.0)
why_shown rows nodes (Audit json) h asks grouped plain = absurd (differ _ _ refl h.0)
why_shown rows nodes (Graph fold as_is) h asks grouped plain = absurd (differ _ _ refl h.0)
why_shown rows nodes (Times svg json summary rounds) h asks grouped plain = absurd (differ _ _ refl h.0)
why_shown rows nodes (Report reload) h asks grouped plain = absurd (differ _ _ refl h.0)

run_alone : (rows : List Row) (dag : Text) (plain : RunOptions) (request : Request) → IsRequestOf (codes "run") rows request → dag_path rows ≡ dag
    → AsksRun rows plain → asked_by request ≡ runs dag plain
run_alone rows dag plain (Run path options) h is asks = ap₂ runs (h.1 ∙ is) (same_options rows options plain h.2 asks)
run_alone rows dag plain (Check path all json hints condor) h is asks = absurd (differ _ _ refl h.0)
run_alone rows dag plain (Show round view) h is asks = unshown (codes "run") rows view refl h.0
run_alone rows dag plain (Rehearse path outcomes limits always_post) h is asks = absurd (differ _ _ refl h.0)
run_alone rows dag plain (Salvage path ended owned) h is asks = absurd (differ _ _ refl h.0)
run_alone rows dag plain (Redo path names only as_begun owned) h is asks = absurd (differ _ _ refl h.0)
run_alone rows dag plain (Page text) (inl h) is asks = absurd (differ _ _ refl h.0)
run_alone rows dag plain (Page text) (inr (inl h)) is asks = absurd (differ _ _ refl h)
run_alone rows dag plain (Page text) (inr (inr h)) is asks = absurd (differ _ _ refl h.0)

why_alone : (rows : List Row) (dag : Text) (nodes : List Text) (request : Request) → IsRequestOf (codes "why") rows request → dag_path rows ≡ dag
    → nodes_asked rows ≡ nodes → is_set (codes "all") rows ≡ false → is_set (codes "json") rows ≡ false → is_set (codes "as-begun") rows ≡ false
    → trusts_owner rows ≡ false → asked_by request ≡ views dag (the_reasons nodes false false) false false
why_alone rows dag nodes (Show round view) h is asks grouped plain now distrusts = λ i.
    views ((h.1.path ∙ is) i) (why_shown rows nodes view h.0 asks grouped plain i) ((h.1.as_begun ∙ now) i) ((h.1.trust_owner ∙ distrusts) i)
why_alone rows dag nodes (Run path options) h is asks grouped plain now distrusts = absurd (differ _ _ refl h.0)
why_alone rows dag nodes (Check path all json hints condor) h is asks grouped plain now distrusts = absurd (differ _ _ refl h.0)
why_alone rows dag nodes (Rehearse path outcomes limits always_post) h is asks grouped plain now distrusts = absurd (differ _ _ refl h.0)
why_alone rows dag nodes (Salvage path ended owned) h is asks grouped plain now distrusts = absurd (differ _ _ refl h.0)
why_alone rows dag nodes (Redo path names only as_begun owned) h is asks grouped plain now distrusts = absurd (differ _ _ refl h.0)
why_alone rows dag nodes (Page text) (inl h) is asks grouped plain now distrusts = absurd (differ _ _ refl h.0)
why_alone rows dag nodes (Page text) (inr (inl h)) is asks grouped plain now distrusts = absurd (differ _ _ refl h)
why_alone rows dag nodes (Page text) (inr (inr h)) is asks grouped plain now distrusts = absurd (differ _ _ refl h.0)

rehearsal_alone : (rows : List Row) (dag : Text) (outcomes : Option Text) (plain : Limits) (post : Bool) (request : Request)
    → IsRequestOf (codes "rehearse") rows request → dag_path rows ≡ dag → first_of (codes "OUTCOMES") rows ≡ outcomes → limits_asked rows ≡ plain
    → is_set (codes "always-run-post") rows ≡ post → asked_by request ≡ rehearses dag outcomes plain post
rehearsal_alone rows dag outcomes plain post (Rehearse path table limits always_post) h is asks most posts = λ i.
    rehearses ((h.1 ∙ is) i) ((h.2 ∙ asks) i) ((h.3 ∙ most) i) ((h.4 ∙ posts) i)
rehearsal_alone rows dag outcomes plain post (Run path options) h is asks most posts = absurd (differ _ _ refl h.0)
rehearsal_alone rows dag outcomes plain post (Check path all json hints condor) h is asks most posts = absurd (differ _ _ refl h.0)
rehearsal_alone rows dag outcomes plain post (Show round view) h is asks most posts = unshown (codes "rehearse") rows view refl h.0
rehearsal_alone rows dag outcomes plain post (Salvage path ended owned) h is asks most posts = absurd (differ _ _ refl h.0)
rehearsal_alone rows dag outcomes plain post (Redo path names only as_begun owned) h is asks most posts = absurd (differ _ _ refl h.0)
rehearsal_alone rows dag outcomes plain post (Page text) (inl h) is asks most posts = absurd (differ _ _ refl h.0)
rehearsal_alone rows dag outcomes plain post (Page text) (inr (inl h)) is asks most posts = absurd (differ _ _ refl h)
rehearsal_alone rows dag outcomes plain post (Page text) (inr (inr h)) is asks most posts = absurd (differ _ _ refl h.0)

version_alone : (rows : List Row) (request : Request) → IsRequestOf (codes "version") rows request → is_set (codes "json") rows ≡ false
    → asked_by request ≡ shows version_text
version_alone rows (Run path options) h plain = absurd (differ _ _ refl h.0)
version_alone rows (Check path all json hints condor) h plain = absurd (differ _ _ refl h.0)
version_alone rows (Show round view) h plain = unshown (codes "version") rows view refl h.0
version_alone rows (Rehearse path outcomes limits always_post) h plain = absurd (differ _ _ refl h.0)
version_alone rows (Salvage path ended owned) h plain = absurd (differ _ _ refl h.0)
version_alone rows (Redo path names only as_begun owned) h plain = absurd (differ _ _ refl h.0)
version_alone rows (Page text) (inl h) plain = absurd (differ _ _ refl h.0)
version_alone rows (Page text) (inr (inl h)) plain = absurd (differ _ _ refl h)
version_alone rows (Page text) (inr (inr h)) plain = ap shows (h.1 ∙ ap version_asked plain)

abbrev rows_in : Option (Text × List Row) → List Row
rows_in None = []
rows_in (Some matched) = matched.1

-- what holds by the table as it is written out holds by the program's
by_table : (words : List Text) (asked : Asked) → ((orphans progress : Bor (List (Bor Text))) → takes (dagrun_app false orphans progress) words ≡ true)
    → ((orphans progress : Bor (List (Bor Text))) (request : Request) → AsksFor (subcommand_of (dagrun_app false orphans progress) words) request
    → asked_by request ≡ asked) → AskForAlone words asked
by_table words asked taken only = record {
  taken = λ app t. ap (λ (a : App). takes a words) t.table ∙ taken t.orphans t.progress;
  only = λ request is. only is.table.orphans is.table.progress request
      (subst (λ (a : App). AsksFor (subcommand_of a words) request) is.table.table
      (subst (λ (o : Option (Text × List Row)). AsksFor o request) (sym is.matches) is.asked));
}

abbrev four_words : List Text
four_words = codes "dagrun" ∷ codes "run" ∷ codes "--maxjobs" ∷ codes "4" ∷ codes "x.dag" ∷ []

four_taken : (orphans progress : Bor (List (Bor Text))) → takes (dagrun_app false orphans progress) four_words ≡ true
unfolding clap_on_literals
four_taken orphans progress = refl

four_only : (orphans progress : Bor (List (Bor Text))) (request : Request) → AsksFor (subcommand_of (dagrun_app false orphans progress) four_words) request
    → asked_by request ≡ runs (codes "x.dag") (record plain_options { limits = record no_limits { jobs = 4 } })
unfolding clap_on_literals
four_only orphans progress request h = run_alone (rows_in (subcommand_of (dagrun_app false orphans progress) four_words)) (codes "x.dag") _ request h refl (record {
  limits = refl;
  autorescue = refl;
  dorescuefrom = refl;
  orphans = refl;
  always_post = refl;
  stop_at_first_error = refl;
  sync_output = refl;
  script_output = refl;
  log_limit = refl;
  status_file = refl;
  status_every = refl;
  launcher = refl;
  none = refl;
  launcher_grace = refl;
  launcher_final = refl;
  progress = refl;
  resume = refl;
  json = refl;
  trust_owner = refl;
})

pub four_jobs : AskForAlone four_words (runs (codes "x.dag") (record plain_options { limits = record no_limits { jobs = 4 } }))
four_jobs = by_table four_words _ four_taken four_only

abbrev fresh_words : List Text
fresh_words = codes "dagrun" ∷ codes "run" ∷ codes "--autorescue" ∷ codes "0" ∷ codes "x.dag" ∷ []

fresh_taken : (orphans progress : Bor (List (Bor Text))) → takes (dagrun_app false orphans progress) fresh_words ≡ true
unfolding clap_on_literals
fresh_taken orphans progress = refl

fresh_only : (orphans progress : Bor (List (Bor Text))) (request : Request) → AsksFor (subcommand_of (dagrun_app false orphans progress) fresh_words) request
    → asked_by request ≡ runs (codes "x.dag") (record plain_options { autorescue = false })
unfolding clap_on_literals
fresh_only orphans progress request h = run_alone (rows_in (subcommand_of (dagrun_app false orphans progress) fresh_words)) (codes "x.dag") _ request h refl (record {
  limits = refl;
  autorescue = refl;
  dorescuefrom = refl;
  orphans = refl;
  always_post = refl;
  stop_at_first_error = refl;
  sync_output = refl;
  script_output = refl;
  log_limit = refl;
  status_file = refl;
  status_every = refl;
  launcher = refl;
  none = refl;
  launcher_grace = refl;
  launcher_final = refl;
  progress = refl;
  resume = refl;
  json = refl;
  trust_owner = refl;
})

pub no_rescue_file : AskForAlone fresh_words (runs (codes "x.dag") (record plain_options { autorescue = false }))
no_rescue_file = by_table fresh_words _ fresh_taken fresh_only

abbrev why_words : List Text
why_words = codes "dagrun" ∷ codes "why" ∷ codes "x.dag" ∷ codes "B" ∷ codes "A" ∷ []

why_taken : (orphans progress : Bor (List (Bor Text))) → takes (dagrun_app false orphans progress) why_words ≡ true
unfolding clap_on_literals
why_taken orphans progress = refl

-- what is matched to these words
why_matched : (orphans progress : Bor (List (Bor Text))) → Option (Text × List Row)
why_matched orphans progress = subcommand_of (dagrun_app false orphans progress) why_words

abbrev why_rows : (orphans progress : Bor (List (Bor Text))) → List Row
why_rows orphans progress = rows_in (why_matched orphans progress)

why_found : (orphans progress : Bor (List (Bor Text))) → why_matched orphans progress ≡ Some (codes "why", why_rows orphans progress)
unfolding clap_on_literals why_matched
why_found orphans progress = refl

why_dag : (orphans progress : Bor (List (Bor Text))) → dag_path (why_rows orphans progress) ≡ codes "x.dag"
unfolding clap_on_literals why_matched
why_dag orphans progress = refl

why_nodes : (orphans progress : Bor (List (Bor Text))) → nodes_asked (why_rows orphans progress) ≡ codes "B" ∷ codes "A" ∷ []
unfolding clap_on_literals why_matched
why_nodes orphans progress = refl

why_grouped : (orphans progress : Bor (List (Bor Text))) → is_set (codes "all") (why_rows orphans progress) ≡ false
unfolding clap_on_literals why_matched
why_grouped orphans progress = refl

why_plain : (orphans progress : Bor (List (Bor Text))) → is_set (codes "json") (why_rows orphans progress) ≡ false
unfolding clap_on_literals why_matched
why_plain orphans progress = refl

why_now : (orphans progress : Bor (List (Bor Text))) → is_set (codes "as-begun") (why_rows orphans progress) ≡ false
unfolding clap_on_literals why_matched
why_now orphans progress = refl

why_distrusts : (orphans progress : Bor (List (Bor Text))) → trusts_owner (why_rows orphans progress) ≡ false
unfolding clap_on_literals why_matched
why_distrusts orphans progress = refl

why_asks : (orphans progress : Bor (List (Bor Text))) (request : Request) → AsksFor (why_matched orphans progress) request
    → asked_by request ≡ views (codes "x.dag") (the_reasons (codes "B" ∷ codes "A" ∷ []) false false) false false
why_asks orphans progress request h = why_alone (why_rows orphans progress) (codes "x.dag") _ request
    (subst (λ (o : Option (Text × List Row)). AsksFor o request) (why_found orphans progress) h)
    (why_dag orphans progress) (why_nodes orphans progress) (why_grouped orphans progress) (why_plain orphans progress) (why_now orphans progress) (why_distrusts orphans progress)

why_only : (orphans progress : Bor (List (Bor Text))) (request : Request) → AsksFor (subcommand_of (dagrun_app false orphans progress) why_words) request
    → asked_by request ≡ views (codes "x.dag") (the_reasons (codes "B" ∷ codes "A" ∷ []) false false) false false
unfolding why_matched
why_only orphans progress request h = why_asks orphans progress request h

pub nodes_in_order : AskForAlone why_words (views (codes "x.dag") (the_reasons (codes "B" ∷ codes "A" ∷ []) false false) false false)
nodes_in_order = by_table why_words _ why_taken why_only

abbrev clash_words : List Text
clash_words = codes "dagrun" ∷ codes "run" ∷ codes "--resume" ∷ codes "--dorescuefrom" ∷ codes "2" ∷ codes "x.dag" ∷ []

clash_taken : (orphans progress : Bor (List (Bor Text))) → takes (dagrun_app false orphans progress) clash_words ≡ true
unfolding clap_on_literals
clash_taken orphans progress = refl

clash_found : (orphans progress : Bor (List (Bor Text))) → clashes (subcommand_of (dagrun_app false orphans progress) clash_words) ≡ true
unfolding clap_on_literals
clash_found orphans progress = refl

pub in_vain : AskInVain clash_words
in_vain = record {
  taken = λ app t. ap (λ (a : App). takes a clash_words) t.table ∙ clash_taken t.orphans t.progress;
  none = λ request is.
      let clash = ap (λ (a : App). clashes (subcommand_of a clash_words)) is.table.table ∙ clash_found is.table.orphans is.table.progress in
      let alone = ap clashes is.matches ∙ is.alone in
      cc;
}

abbrev rehearsal_words : List Text
rehearsal_words = codes "dagrun" ∷ codes "rehearse" ∷ codes "--maxpre" ∷ codes "2" ∷ codes "--maxpost=3" ∷ codes "x.dag" ∷ codes "table" ∷ []

rehearsal_taken : (orphans progress : Bor (List (Bor Text))) → takes (dagrun_app false orphans progress) rehearsal_words ≡ true
unfolding clap_on_literals
rehearsal_taken orphans progress = refl

rehearsal_only : (orphans progress : Bor (List (Bor Text))) (request : Request) → AsksFor (subcommand_of (dagrun_app false orphans progress) rehearsal_words) request
    → asked_by request ≡ rehearses (codes "x.dag") (Some (codes "table")) (record no_limits { pre = 2; post = 3 }) false
unfolding clap_on_literals
rehearsal_only orphans progress request h =
    rehearsal_alone (rows_in (subcommand_of (dagrun_app false orphans progress) rehearsal_words)) (codes "x.dag") (Some (codes "table")) _ false request h refl refl refl refl

pub limits_apart : AskForAlone rehearsal_words (rehearses (codes "x.dag") (Some (codes "table")) (record no_limits { pre = 2; post = 3 }) false)
limits_apart = by_table rehearsal_words _ rehearsal_taken rehearsal_only

abbrev version_words : List Text
version_words = codes "dagrun" ∷ codes "version" ∷ []

version_taken : (orphans progress : Bor (List (Bor Text))) → takes (dagrun_app false orphans progress) version_words ≡ true
unfolding clap_on_literals
version_taken orphans progress = refl

version_only : (orphans progress : Bor (List (Bor Text))) (request : Request) → AsksFor (subcommand_of (dagrun_app false orphans progress) version_words) request
    → asked_by request ≡ shows version_text
unfolding clap_on_literals
version_only orphans progress request h = version_alone (rows_in (subcommand_of (dagrun_app false orphans progress) version_words)) request h refl

pub version_alone_shown : AskForAlone version_words (shows version_text)
version_alone_shown = by_table version_words _ version_taken version_only
