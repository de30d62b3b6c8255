-- Words whose request is worked out.
use Rattle.std.specs.Prelude.{◌≡◌, true, false, List, [], None}
use Rattle.clap.specs.Walk.{Text}
use Rattle.clap.specs.Simple.{App}
use Rattle.clap.specs.Takes.{takes}
use Rattle.dag_main_args.specs.declared.request.RunOptions.{RunOptions}
use Rattle.dag_main_args.specs.declared.request.OrphanRule.TheVariants.{Kill}
use Rattle.dag_main_args.specs.declared.request.ProgressRule.TheVariants.{Auto}
use Rattle.dag_main_args.specs.declared.request.Request.{Request}
use Rattle.dag_main_args.specs.Requests.{Asked, asked_by, no_limits}
use Rattle.dag_main_args.specs.Table.{IsDagrunApp}
use Rattle.dag_main_args.specs.Answered.{IsAskedFor}

-- how a run is done, where words say nothing of it
abbrev pub plain_options : RunOptions
plain_options = record {
  limits = no_limits;
  autorescue = true;
  dorescuefrom = None;
  orphans = Kill;
  always_post = false;
  stop_at_first_error = false;
  sync_output = true;
  script_output = true;
  log_limit = None;
  status_file = None;
  status_every = None;
  launcher = [];
  launcher_grace = None;
  launcher_final = false;
  progress = Auto;
  resume = false;
  json = false;
  trust_owner = false;
}

-- by the program's table clap takes these words
abbrev pub AreTaken : List Text → Type 0
AreTaken words = (app : App) → IsDagrunApp false app → takes app words ≡ true

-- and they ask for this alone
pub record AskForAlone (words : List Text) (asked : Asked) : Type 0 where
  pub taken : AreTaken words
  pub only : (request : Request) → IsAskedFor words request → asked_by request ≡ asked

-- though clap takes them, they are no request
pub record AskInVain (words : List Text) : Type 0 where
  pub taken : AreTaken words
  pub none : (request : Request) → IsAskedFor words request → ⊥
