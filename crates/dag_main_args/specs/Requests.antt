-- What the words of a command line ask for.
use Rattle.std.specs.Prelude.{◌≡◌, ◌<◌, ℕ, Bool, ◌||◌, List, Option, Some, None, map, string_bytes}
use Rattle.std.specs.Option.{option_map}
use Rattle.throttles.specs.declared.Limits.{Limits}
use Rattle.dag_main_args.specs.declared.request.RunOptions.{RunOptions}
use Rattle.dag_main_args.specs.declared.request.FoldRule.{FoldRule}
use Rattle.dag_main_args.specs.declared.request.Request.{Request}
use Rattle.dag_main_args.specs.declared.request.Request.TheVariants.{Check, Run, Show, Rehearse, Salvage, Redo, Page}
use Rattle.dag_main_args.specs.declared.request.View.{View}
use Rattle.dag_main_args.specs.declared.request.View.TheVariants.{Status, Audit, Graph, Why, Times, Report}

-- What of a round is shown: where each node is, what the nodes came to, its graph, why nodes are in error (those that are named, or all), when its phases ran,
-- or a page. `json` is whether it is for other programs; of a graph it matters whether nodes that are alike have one box, and whether the files are drawn as
-- they are; of the reasons whether each node is shown by itself; of the times whether a picture, a summary or rounds are asked for; of a page whether it loads itself again.
pub data Shown : Type 0 where
  the_status : (json : Bool) → Shown
  the_audit : (json : Bool) → Shown
  the_graph : (fold : FoldRule) → (as_is : Bool) → Shown
  the_reasons : (nodes : List (List ℕ)) → (all json : Bool) → Shown
  the_times : (svg json summary rounds : Bool) → Shown
  the_page : (reload : Bool) → Shown

-- A command with its words: the path of the DAG file first; of a command that reads what is beside that file last whether its owner is trusted. Of a check also
-- whether all faults of lines are asked for, whether it is for other programs, and whether hints are asked for; of what is shown of a round, and of `redo`, whether this is by
-- the files with which it began; of `salvage` whether a round that has ended is taken, too. Or the page that is to be printed, which the words alone determine.
pub data Asked : Type 0 where
  checks : List ℕ → (all json hinted : Bool) → Asked
  runs : List ℕ → RunOptions → Asked
  views : List ℕ → Shown → (as_begun trust_owner : Bool) → Asked
  rehearses : List ℕ → Option (List ℕ) → Limits → Bool → Asked
  salvages : List ℕ → (ended trust_owner : Bool) → Asked
  redoes : List ℕ → List (List ℕ) → (only as_begun trust_owner : Bool) → Asked
  shows : List ℕ → Asked

-- what a view shows
abbrev pub shown_by : View → Shown
shown_by (Status json) = the_status json
shown_by (Audit json) = the_audit json
shown_by (Graph fold as_is) = the_graph fold as_is
shown_by (Why nodes all json) = the_reasons (map (λ n. n.now) nodes.items) all json
shown_by (Times svg json summary rounds) = the_times svg json summary rounds
shown_by (Report reload) = the_page reload

-- what a request asks for
abbrev pub asked_by : Request → Asked
asked_by (Check dag all json hints condor) = checks dag.now all json (hints || condor)
asked_by (Run dag options) = runs dag.now options
asked_by (Show round view) = views round.dag.now (shown_by view) round.as_begun round.trust_owner
asked_by (Rehearse dag outcomes limits always_post) = rehearses dag.now (option_map (λ t. t.now) outcomes) limits always_post
asked_by (Salvage dag ended trust_owner) = salvages dag.now ended trust_owner
asked_by (Redo dag nodes only as_begun trust_owner) = redoes dag.now (map (λ n. n.now) nodes.items) only as_begun trust_owner
asked_by (Page text) = shows (string_bytes text)

-- no limits but that on all children
abbrev pub no_limits : Limits
no_limits = record { jobs = 0; pre = 0; post = 0; children = 1024 }

-- limits that words may set: numbers of 16 bits, 0 for none; that on all children is fixed
pub record AreLimits (limits : Limits) : Type 0 where
  pub jobs : limits.jobs < 65536
  pub pre : limits.pre < 65536
  pub post : limits.post < 65536
  pub children : limits.children ≡ 1024

-- the limits under which something is to run
abbrev pub limits_in : Asked → Option Limits
limits_in (checks dag all json hinted) = None
limits_in (runs dag options) = Some options.limits
limits_in (rehearses dag outcomes limits always_post) = Some limits
limits_in (views dag shown as_begun trust_owner) = None
limits_in (salvages dag ended trust_owner) = None
limits_in (redoes dag nodes only as_begun trust_owner) = None
limits_in (shows text) = None
