-- What the rows that `clap` matched to words ask for, by the rules of the manual, "The command line".
use Rattle.std.specs.Prelude.{◌≡◌, ◌⊎◌, ◌==◌, ◌^◌, ◌&&◌, not, ℕ, Bool, true, false, List, [], ◌∷◌, Option, Some, None, map, codes, nat_lt, unwrap_or, option_map, option_and_then, if◌then◌else◌, string_bytes}
use Rattle.std.specs.List.{list_any}
use Rattle.std.specs.Option.{option_map_or}
use Rattle.std.specs.Str.{bytes_eq}
use Rattle.std.specs.Str.Parse.{digits_value, true_text, without_leading_plus}
use Rattle.clap.specs.Walk.{Row, Text, all_of, first_of, one_of}
use Rattle.clap.specs.ValueTests.{is_numeral}
use Rattle.throttles.specs.declared.Limits.{Limits}
use Rattle.dag_main_args.specs.declared.request.RunOptions.{RunOptions}
use Rattle.dag_main_args.specs.declared.request.OrphanRule.{OrphanRule}
use Rattle.dag_main_args.specs.declared.request.OrphanRule.TheVariants.{Kill, Wait, Leave}
use Rattle.dag_main_args.specs.declared.request.ProgressRule.{ProgressRule}
use Rattle.dag_main_args.specs.declared.request.ProgressRule.TheVariants.{Auto, Always, Never}
use Rattle.dag_main_args.specs.declared.request.FoldRule.{FoldRule}
use Rattle.dag_main_args.specs.declared.request.FoldRule.TheVariants.{AtTerminal, Folded, Unfolded}
use Rattle.dag_main_args.specs.declared.request.Request.{Request}
use Rattle.dag_main_args.specs.declared.request.Request.TheVariants.{Check, Run, Show, Rehearse, Salvage, Redo, Page}
use Rattle.dag_main_args.specs.declared.request.ShownRound.{ShownRound}
use Rattle.dag_main_args.specs.declared.request.View.{View}
use Rattle.dag_main_args.specs.declared.request.View.TheVariants.{Status, Audit, Graph, Why, Times, Report}
use Rattle.dag_main_args.specs.Launchers.{IsLauncherOf}
use Rattle.dag_main_args.specs.Pages.{IsExplained}
use Rattle.dag_main_args.specs.Requests.{asked_by, no_limits, rehearses}

-- the number that a text writes in decimal digits, a plus before them or none, where `bits` bits hold it
abbrev pub decimal_in : (bits : ℕ) → Text → Option ℕ
decimal_in bits text =
    let number = digits_value 10 (without_leading_plus text) in
    if is_numeral (without_leading_plus text) && nat_lt number (2 ^ bits) then Some number else None

-- the number that an option has
abbrev pub number_asked : (bits : ℕ) → Text → List Row → Option ℕ
number_asked bits name rows = option_and_then (decimal_in bits) (one_of name rows)

-- a limit is the number of its own option; 0, which is none, where that is not given
abbrev pub limit_option : Text → List Row → ℕ
limit_option name rows = unwrap_or (number_asked 16 name rows) 0

-- how many jobs, PRE scripts and POST scripts may run at once; of all together no more than 1,024 ever do
abbrev pub limits_asked : List Row → Limits
limits_asked rows = record {
  jobs = limit_option (codes "maxjobs") rows;
  pre = limit_option (codes "maxpre") rows;
  post = limit_option (codes "maxpost") rows;
  children = 1024;
}

-- what is on is on until it is given as 0
abbrev pub is_on : Text → List Row → Bool
is_on name rows = not (option_map_or (λ n. n == 0) (number_asked 8 name rows) false)

-- what is off is off until it is given
abbrev pub is_set : Text → List Row → Bool
is_set name rows = option_map_or (λ text. bytes_eq text true_text) (one_of name rows) false

-- the first value of an option is this word
abbrev pub is_given_as : Text → Text → List Row → Bool
is_given_as name word rows = option_map_or (λ text. bytes_eq text word) (first_of name rows) false

-- processes that were left running are waited for or left, where that is asked for, and else killed
abbrev pub orphan_rule_of : List Row → OrphanRule
orphan_rule_of rows =
    if is_given_as (codes "orphans") (codes "wait") rows then Wait
    else (if is_given_as (codes "orphans") (codes "leave") rows then Leave else Kill)

-- how far the run is shows always or never, where that is asked for, and else on a terminal
abbrev pub progress_of : List Row → ProgressRule
progress_of rows =
    if is_given_as (codes "progress") (codes "always") rows then Always
    else (if is_given_as (codes "progress") (codes "never") rows then Never else Auto)

-- nodes of one shape have one box, or each node has one, where that is asked for, and else it is left to the terminal
abbrev pub fold_of : List Row → FoldRule
fold_of rows =
    if is_set (codes "fold") rows then Folded
    else (if is_set (codes "no-fold") rows then Unfolded else AtTerminal)

-- whether the owner of the files beside the DAG file is trusted
abbrev pub trusts_owner : List Row → Bool
trusts_owner rows = is_set (codes "trust-owner") rows

-- how a run is asked for to be done, option by option
pub record AreOptionsOf (rows : List Row) (options : RunOptions) : Type 0 where
  pub limits : options.limits ≡ limits_asked rows
  -- rescue files are read, but under `--autorescue 0`
  pub autorescue : options.autorescue ≡ is_on (codes "autorescue") rows
  -- a round goes back to the rescue file of a number only where that number is given
  pub dorescuefrom : options.dorescuefrom ≡ number_asked 16 (codes "dorescuefrom") rows
  pub orphans : options.orphans ≡ orphan_rule_of rows
  pub always_post : options.always_post ≡ is_set (codes "always-run-post") rows
  pub stop_at_first_error : options.stop_at_first_error ≡ is_set (codes "stop-at-first-error") rows
  -- files of output and error are brought to the disk, but under `--sync-output 0`
  pub sync_output : options.sync_output ≡ is_on (codes "sync-output") rows
  -- what scripts print is kept where they fail, but under `--script-output 0`
  pub script_output : options.script_output ≡ is_on (codes "script-output") rows
  -- the log stops growing at so many MiB only where that is given
  pub log_limit : options.log_limit ≡ number_asked 16 (codes "log-limit") rows
  -- the status is written into a file only where one is named, and at least so many seconds apart only where that is given
  pub status_file : options.status_file ≡ first_of (codes "status-file") rows
  pub status_every : options.status_every ≡ number_asked 16 (codes "status-every") rows
  -- the launcher is split into words as a submit file's arguments are
  pub launcher : IsLauncherOf (first_of (codes "launcher") rows) options.launcher
  -- how many seconds launchers have to end, only where that is given
  pub launcher_grace : options.launcher_grace ≡ number_asked 16 (codes "launcher-grace") rows
  pub launcher_final : options.launcher_final ≡ is_set (codes "launcher-final") rows
  pub progress : options.progress ≡ progress_of rows
  pub resume : options.resume ≡ is_set (codes "resume") rows
  pub json : options.json ≡ is_set (codes "json") rows
  pub trust_owner : options.trust_owner ≡ trusts_owner rows

-- the path of the DAG file, which each command has that reads one
abbrev pub dag_path : List Row → Text
dag_path rows = unwrap_or (first_of (codes "DAG") rows) (codes "-")

-- the names of nodes, all of them in the order of the words
abbrev pub nodes_asked : List Row → List Text
nodes_asked rows = unwrap_or (all_of (codes "NODE") rows) []

-- what `version` prints, and what for other programs
abbrev pub version_text : Text
version_text = codes "dagrun 1.0.0\n"

abbrev pub version_asked : (json : Bool) → Text
version_asked false = version_text
version_asked true = codes "{\"version\":\"1.0.0\"}\n"

-- the commands whose answer is a page; with those that make a rescue file of a round; with those that draw a round; with those that
-- tell of one; and all commands
abbrev pub page_names : List Text
page_names = codes "explain" ∷ codes "help" ∷ codes "version" ∷ []

abbrev pub made_names : List Text
made_names = codes "salvage" ∷ codes "redo" ∷ page_names

abbrev pub drawn_names : List Text
drawn_names = codes "graph" ∷ codes "times" ∷ codes "report" ∷ made_names

abbrev pub told_names : List Text
told_names = codes "status" ∷ codes "audit" ∷ codes "why" ∷ drawn_names

abbrev pub command_names : List Text
command_names = codes "run" ∷ codes "check" ∷ codes "rehearse" ∷ told_names

abbrev pub is_text_among : List Text → Text → Bool
is_text_among names command = list_any (bytes_eq command) names

-- the page that a command asks for: that of a code, or of all where none is given; a page of help; the version
abbrev pub IsPageOf : Text → List Row → Text → Type 0
IsPageOf command rows page = ((command ≡ codes "explain") × IsExplained (first_of (codes "CODE") rows) page)
    ⊎ ((command ≡ codes "help") ⊎ ((command ≡ codes "version") × (page ≡ version_asked (is_set (codes "json") rows))))

-- the round of which something is shown, whether by the files with which it began, and whether their owner is trusted
pub record IsShownRoundOf (rows : List Row) (round : ShownRound) : Type 0 where
  pub path : round.dag.now ≡ dag_path rows
  pub as_begun : round.as_begun ≡ is_set (codes "as-begun") rows
  pub trust_owner : round.trust_owner ≡ trusts_owner rows

-- what a command shows of a round: each view by one command alone
abbrev pub IsViewOf : Text → List Row → View → Type 0
IsViewOf command rows (Status json) = (command ≡ codes "status") × (json ≡ is_set (codes "json") rows)
IsViewOf command rows (Audit json) = (command ≡ codes "audit") × (json ≡ is_set (codes "json") rows)
IsViewOf command rows (Graph fold as_is) = (command ≡ codes "graph") × (fold ≡ fold_of rows) × (as_is ≡ is_set (codes "as-is") rows)
IsViewOf command rows (Why nodes all json) = (command ≡ codes "why") × (map (λ n. n.now) nodes.items ≡ nodes_asked rows)
    × (all ≡ is_set (codes "all") rows) × (json ≡ is_set (codes "json") rows)
IsViewOf command rows (Times svg json summary rounds) = (command ≡ codes "times") × (svg ≡ is_set (codes "svg") rows)
    × (json ≡ is_set (codes "json") rows) × (summary ≡ is_set (codes "summary") rows) × (rounds ≡ is_set (codes "rounds") rows)
IsViewOf command rows (Report reload) = (command ≡ codes "report") × (reload ≡ is_set (codes "reload") rows)

-- the request that a command asks for by what was matched to it: each kind of request by one command alone
abbrev pub IsRequestOf : Text → List Row → Request → Type 0
IsRequestOf command rows (Check dag all json hints condor) = (command ≡ codes "check") × (dag.now ≡ dag_path rows) × (all ≡ is_set (codes "all") rows)
    × (json ≡ is_set (codes "json") rows) × (hints ≡ is_set (codes "hints") rows) × (condor ≡ is_set (codes "condor") rows)
IsRequestOf command rows (Run dag options) = (command ≡ codes "run") × (dag.now ≡ dag_path rows) × AreOptionsOf rows options
IsRequestOf command rows (Show round view) = IsViewOf command rows view × IsShownRoundOf rows round
IsRequestOf command rows (Rehearse dag outcomes limits always_post) = (command ≡ codes "rehearse") × (dag.now ≡ dag_path rows)
    × (option_map (λ t. t.now) outcomes ≡ first_of (codes "OUTCOMES") rows) × (limits ≡ limits_asked rows)
    × (always_post ≡ is_set (codes "always-run-post") rows)
IsRequestOf command rows (Salvage dag ended trust_owner) = (command ≡ codes "salvage") × (dag.now ≡ dag_path rows) × (ended ≡ is_set (codes "ended") rows)
    × (trust_owner ≡ trusts_owner rows)
IsRequestOf command rows (Redo dag nodes only as_begun trust_owner) = (command ≡ codes "redo") × (dag.now ≡ dag_path rows)
    × (map (λ n. n.now) nodes.items ≡ nodes_asked rows) × (only ≡ is_set (codes "only") rows) × (as_begun ≡ is_set (codes "as-begun") rows)
    × (trust_owner ≡ trusts_owner rows)
IsRequestOf command rows (Page text) = IsPageOf command rows (string_bytes text)

-- what the command asks for that was matched to words; where none was, a rehearsal of standard input
abbrev pub AsksFor : Option (Text × List Row) → Request → Type 0
AsksFor None request = asked_by request ≡ rehearses (codes "-") None no_limits false
AsksFor (Some matched) request = IsRequestOf matched.0 matched.1 request
