-- What comes of a request in a world.
use Rattle.std.proofs.Common.{◌≡◌, ℕ, Bool, true, false, List, Result, Ok, Err, IfOk, sym, subst}
use Rattle.std.specs.Prelude.{IfErr, IsErrAnd, codes}
use Rattle.std.proofs.lemmas.Bool.{false≢true}
use Rattle.event_journal_log.specs.declared.disk.Disk.{Ghosts}
use Rattle.splices_flat.specs.Opening.{Files}
use Rattle.splices_flat.specs.FileSet.{bytes_of}
use Rattle.splices_flat.specs.declared.file_set.FileSet.{FileSet}
use Rattle.dag_main_files.specs.Folder.{IsReadFrom}
use Rattle.throttles.specs.declared.Limits.{Limits}
use Rattle.job_starter_local.specs.declared.launching.Launcher.{Launcher}
use Rattle.run_plan.specs.Plan.{Plan}
use Rattle.job_starter_drive.specs.declared.Call.{Call}
use Rattle.dag_main_args.specs.declared.request.RunOptions.{RunOptions}
use Rattle.dag_main_args.specs.declared.request.Request.{Request}
use Rattle.dag_main_args.specs.Requests.{Asked, asked_by, checks, runs, views, rehearses, salvages, redoes, shows}
use Rattle.dag_main_files.specs.declared.rounds.Round.{Round}
use Rattle.dag_main_files.specs.Beside.{IsRefusalOf, path_refused, refusing_had_no_memory}
use Rattle.dag_main_check.specs.declared.fault.RunFault.{RunFault}
use Rattle.dag_main_check.specs.declared.warnings.Answer.{Answer}
use Rattle.dag_main_run.specs.Sites.{Own, IsKnownTo, IsAtSite, Rounds, rounds_at, journal_found}
use Rattle.dag_main_run.specs.Runs.{any_round, held_round, RoundSight, IsRunWhere, IsStopFault, no_endings, orphans_in_the_way, no_status_file, not_readied, round_stopped, leading_had_no_memory, IsHeldFault, not_found_again, another_was_at_work, not_led, IsRunFaultWhere, no_graph, not_found, no_plan, no_launcher, no_room, not_alone, not_held, no_memory}
use Rattle.dagrun.specs.Answered.{as_text, as_json, run_refused, not_stated, World, files_for, is_beside, led, reported_again, not_run, not_reported, CommandContract, Knowledge, changing_files, held_in, run_contract, command_contract, IsAnswerUnder, ComesTo, IsReply, of_command, of_no_folder, IsFolderFault, folder_refused, folder_had_no_memory, is_run}

-- what a command comes to, by what is said of its answer and of its refusal
pub comes-to : (command : CommandContract) (r : Result Answer RunFault) → IfOk r (IsAnswerUnder command) → IfErr r command.refused → ComesTo command r
comes-to command (Ok answer) is why = is
comes-to command (Err fault) is why = why

-- the same of the command of a request
pub request-to : (known : Knowledge) (rounds : Rounds) (request other : Request) → request ≡ other → (r : Result Answer RunFault)
    → IfOk r (IsAnswerUnder (command_contract known rounds (asked_by other))) → IfErr r (command_contract known rounds (asked_by other)).refused
    → ComesTo (command_contract known rounds (asked_by request)) r
request-to known rounds request other same r is why =
    subst (λ (q : Request). ComesTo (command_contract known rounds (asked_by q)) r) (sym same) (comes-to (command_contract known rounds (asked_by other)) r is why)

-- the same of a refusal that is handed on
pub refused-to : (command : CommandContract) (given : RunFault) → command.refused given → (r : Result Answer RunFault) → IsErrAnd r (λ fault. fault ≡ given) → ComesTo command r
refused-to command given why (Ok answer) same = absurd same
refused-to command given why (Err fault) same = subst command.refused (sym same) why

-- what is said of some rounds is said of others, too
pub record AreToldAs (rounds known : Rounds) : Type 0 where
  pub led : (top : List ℕ) (limits : Limits) (launcher : Launcher) (plan : Plan) (round : Round) (text : List ℕ) (status : ℕ)
      → rounds.led top limits launcher plan round text status → known.led top limits launcher plan round text status
  pub stopped : (top : List ℕ) (limits : Limits) (launcher : Launcher) (plan : Plan) (round : Round) (fault : RunFault)
      → rounds.stopped top limits launcher plan round fault → known.stopped top limits launcher plan round fault
  pub deaf : rounds.is_deaf → known.is_deaf

-- what is known of these rounds is known of others, too
record Keeps (rounds others : Rounds) (known : Knowledge) : Type 0 where
  keeps_led : (path : List ℕ) (options : RunOptions) (text warnings : List ℕ) (status : ℕ) → known.led rounds path options text warnings status → known.led others path options text warnings status
  keeps_not_led : (path : List ℕ) (options : RunOptions) (fault : RunFault) → known.not_led rounds path options fault → known.not_led others path options fault

module _ (rounds told_rounds : Rounds) (told : AreToldAs rounds told_rounds) where
  run-by : (says : FileSet → Files) (IsRead : FileSet → Type 0) (sight : RoundSight) (path : List ℕ) (options : RunOptions) (text warnings : List ℕ) (status : ℕ)
      → IsRunWhere says IsRead sight rounds path options text warnings status → IsRunWhere says IsRead sight told_rounds path options text warnings status
  run-by says IsRead sight path options text warnings status run = record {
    files = run.files;
    read = run.read;
    round = run.round;
    is_round = run.is_round;
    rescue = run.rescue;
    rescue_is = run.rescue_is;
    launcher = run.launcher;
    answered = record {
      plan = run.answered.plan;
      planned = run.answered.planned;
      answered = (
        run.answered.answered.0,
        told.led path options.limits run.launcher run.answered.plan run.round text status run.answered.answered.1,
      );
      warnings_are = run.answered.warnings_are;
    };
  }

  stop-fault : (options : RunOptions) (path : List ℕ) (launcher : Launcher) (plan : Plan) (round : Round) (fault : RunFault)
      → IsStopFault path options round rounds.is_deaf (rounds.stopped path options.limits launcher plan round) fault
      → IsStopFault path options round told_rounds.is_deaf (told_rounds.stopped path options.limits launcher plan round) fault
  stop-fault options path launcher plan round _ (no_endings deaf) = no_endings (told.deaf deaf)
  stop-fault options path launcher plan round _ (orphans_in_the_way fault why) = orphans_in_the_way fault why
  stop-fault options path launcher plan round _ (no_status_file name fault is why) = no_status_file name fault is why
  stop-fault options path launcher plan round _ (not_readied fault why) = not_readied fault why
  stop-fault options path launcher plan round _ (round_stopped fault why) = round_stopped fault (told.stopped path options.limits launcher plan round fault why)
  stop-fault options path launcher plan round _ leading_had_no_memory = leading_had_no_memory

  held-fault : (NotFound : RunFault → Type 0) (options : RunOptions) (path : List ℕ) (launcher : Launcher) (plan : Plan) (round : Round) (fault : RunFault)
      → IsHeldFault path options round NotFound rounds.is_deaf (rounds.stopped path options.limits launcher plan round) fault
      → IsHeldFault path options round NotFound told_rounds.is_deaf (told_rounds.stopped path options.limits launcher plan round) fault
  held-fault NotFound options path launcher plan round _ (not_found_again fault why) = not_found_again fault why
  held-fault NotFound options path launcher plan round _ (another_was_at_work fault why) = another_was_at_work fault why
  held-fault NotFound options path launcher plan round _ (not_led fault why) = not_led fault (stop-fault options path launcher plan round fault why)

  run-fault : (says : FileSet → Files) (IsRead : FileSet → Type 0) (sight : RoundSight) (path : List ℕ) (options : RunOptions) (fault : RunFault)
      → IsRunFaultWhere says IsRead sight rounds path options fault → IsRunFaultWhere says IsRead sight told_rounds path options fault
  run-fault says IsRead sight path options _ (no_graph files fault read why) = no_graph files fault read why
  run-fault says IsRead sight path options _ (not_found files graph fault read is why) = not_found files graph fault read is why
  run-fault says IsRead sight path options _ (no_plan files graph round rescue fault read is is_round is_rescue why) = no_plan files graph round rescue fault read is is_round is_rescue why
  run-fault says IsRead sight path options _ (no_launcher fault planned why) = no_launcher fault planned why
  run-fault says IsRead sight path options _ (no_room fault planned why) = no_room fault planned why
  run-fault says IsRead sight path options _ (not_alone fault planned why) = not_alone fault planned why
  run-fault says IsRead sight path options _ (not_held planned launcher fault launches why) =
      not_held planned launcher fault launches (held-fault sight.not_found options path launcher planned.plan planned.round fault why)
  run-fault says IsRead sight path options _ no_memory = no_memory

  keeps-nothing : Keeps rounds told_rounds changing_files
  keeps-nothing = record {
    keeps_led = λ path options text warnings status is. run-by bytes_of (λ files. Unit {0}) (any_round path options) path options text warnings status is;
    keeps_not_led = λ path options fault why. run-fault bytes_of (λ files. Unit {0}) (any_round path options) path options fault why;
  }

  keeps-held : (holds : Files) (has : List ℕ → Bool) → Keeps rounds told_rounds (held_in holds has)
  keeps-held holds has = record {
    keeps_led = λ path options text warnings status is. run-by (λ files. holds) (IsReadFrom holds path) (held_round holds has path options) path options text warnings status is;
    keeps_not_led = λ path options fault why. run-fault (λ files. holds) (IsReadFrom holds path) (held_round holds has path options) path options fault why;
  }

  module _ (known : Knowledge) (keeps : Keeps rounds told_rounds known) where
    run-with : (path : List ℕ) (options : RunOptions) (text warnings : List ℕ) (status : ℕ) → (run_contract known rounds path options).answers text warnings status
        → (run_contract known told_rounds path options).answers text warnings status
    run-with path options text warnings status (led none run) = led none (keeps.keeps_led path options text warnings status run)
    run-with path options text warnings status (reported_again asked again) = reported_again asked again

    run-refusal : (path : List ℕ) (options : RunOptions) (fault : RunFault) → (run_contract known rounds path options).refused fault → (run_contract known told_rounds path options).refused fault
    run-refusal path options _ (not_run fault none why) = not_run fault none (keeps.keeps_not_led path options fault why)
    run-refusal path options _ (not_reported fault asked why) = not_reported fault asked why

    told-by : (asked : Asked) (r : Result Answer RunFault) → ComesTo (command_contract known rounds asked) r → ComesTo (command_contract known told_rounds asked) r
    told-by (checks path all json hinted) r is = is
    told-by (runs path options) (Ok answer) (as_text asked is) = as_text asked (run-with path options _ _ _ is)
    told-by (runs path options) (Ok answer) (as_json report others other asked is states) = as_json report others other asked (run-with path options _ _ _ is) states
    told-by (runs path options) (Err _) (run_refused fault why) = run_refused fault (run-refusal path options fault why)
    told-by (runs path options) (Err _) (not_stated fault asked why) = not_stated fault asked why
    told-by (views path shown begun owned) r is = is
    told-by (rehearses path outcomes limits always_post) r is = is
    told-by (salvages path ended owned) r is = is
    told-by (redoes path nodes only begun owned) r is = is
    told-by (shows page) r is = is

  -- a reply by what is beside a DAG file
  pub beside-reply : (Honest IsLost : Type 0) (world : World) (holds : Files) (has : List ℕ → Bool) (asked : Asked) → is_beside asked ≡ true → (reply : Result Answer RunFault)
      → (Honest → holds ≡ world.holds) → (Honest → has ≡ world.has) → ComesTo (command_contract changing_files rounds asked) reply
      → (Honest → ComesTo (command_contract (held_in holds has) rounds asked) reply) → IsReply Honest IsLost world told_rounds asked reply
  beside-reply Honest IsLost world holds has asked beside reply same there some held =
      of_command reply (told-by changing_files keeps-nothing asked reply some)
      (λ honest. subst (λ (b : Bool). ComesTo (command_contract (held_in (files_for b world) world.has) told_rounds asked) reply) (sym beside)
      (subst (λ (f : Files). ComesTo (command_contract (held_in f world.has) told_rounds asked) reply) (same honest)
      (subst (λ (h : List ℕ → Bool). ComesTo (command_contract (held_in holds h) told_rounds asked) reply) (there honest)
      (told-by (held_in holds has) (keeps-held holds has) asked reply (held honest)))))

-- what isn't asked of what is beside a DAG file, is asked of no round
pub unbeside-some : (rounds known : Rounds) (asked : Asked) → is_beside asked ≡ false → (r : Result Answer RunFault) → ComesTo (command_contract changing_files rounds asked) r
    → ComesTo (command_contract changing_files known asked) r
unbeside-some rounds known (checks path all json hinted) isnt r is = is
unbeside-some rounds known (runs path options) isnt r is = absurd (false≢true (sym isnt))
unbeside-some rounds known (views path shown begun owned) isnt r is = is
unbeside-some rounds known (rehearses path outcomes limits always_post) isnt r is = is
unbeside-some rounds known (salvages path ended owned) isnt r is = is
unbeside-some rounds known (redoes path nodes only begun owned) isnt r is = is
unbeside-some rounds known (shows page) isnt r is = is

pub unbeside-from : (holds : Files) (has there : List ℕ → Bool) (rounds known : Rounds) (asked : Asked) → is_beside asked ≡ false → (r : Result Answer RunFault)
    → ComesTo (command_contract (held_in holds has) rounds asked) r → ComesTo (command_contract (held_in holds there) known asked) r
unbeside-from holds has there rounds known (checks path all json hinted) isnt r is = is
unbeside-from holds has there rounds known (runs path options) isnt r is = absurd (false≢true (sym isnt))
unbeside-from holds has there rounds known (views path shown begun owned) isnt r is = absurd (false≢true (sym isnt))
unbeside-from holds has there rounds known (rehearses path outcomes limits always_post) isnt r is = is
unbeside-from holds has there rounds known (salvages path ended owned) isnt r is = absurd (false≢true (sym isnt))
unbeside-from holds has there rounds known (redoes path nodes only begun owned) isnt r is = absurd (false≢true (sym isnt))
unbeside-from holds has there rounds known (shows page) isnt r is = is

-- a reply by what is read alone
pub input-reply : (Honest IsLost : Type 0) (world : World) (rounds known : Rounds) (holds : Files) (has : List ℕ → Bool) (asked : Asked) → is_beside asked ≡ false
    → (reply : Result Answer RunFault) → (Honest → holds ≡ world.inputs) → ComesTo (command_contract changing_files rounds asked) reply
    → (Honest → ComesTo (command_contract (held_in holds has) rounds asked) reply) → IsReply Honest IsLost world known asked reply
input-reply Honest IsLost world rounds known holds has asked isnt reply same some held =
    of_command reply (unbeside-some rounds known asked isnt reply some)
    (λ honest. subst (λ (b : Bool). ComesTo (command_contract (held_in (files_for b world) world.has) known asked) reply) (sym isnt)
    (subst (λ (f : Files). ComesTo (command_contract (held_in f world.has) known asked) reply) (same honest)
    (unbeside-from holds has world.has rounds known asked isnt reply (held honest))))

-- no round is asked for where nothing is asked of what is beside a DAG file
pub unasked : {P : Type 0} (asked : Asked) → is_beside asked ≡ false → is_run asked ≡ true → P
unasked (checks path all json hinted) isnt run = absurd (false≢true run)
unasked (runs path options) isnt run = absurd (false≢true (sym isnt))
unasked (views path shown begun owned) isnt run = absurd (false≢true run)
unasked (rehearses path outcomes limits always_post) isnt run = absurd (false≢true run)
unasked (salvages path ended owned) isnt run = absurd (false≢true run)
unasked (redoes path nodes only begun owned) isnt run = absurd (false≢true run)
unasked (shows page) isnt run = absurd (false≢true run)

-- a folder that is refused isn't said
pub folder-fault : (IsLost : Type 0) → IsLost → (fault : RunFault) → IsRefusalOf (codes ".") fault → IsFolderFault IsLost fault
folder-fault IsLost lost _ (path_refused file same) = folder_refused lost file same
folder-fault IsLost lost _ refusing_had_no_memory = folder_had_no_memory

-- the folder isn't known
pub folder-reply : (Honest IsLost : Type 0) (world : World) (rounds : Rounds) (asked : Asked) → is_beside asked ≡ true → (given : RunFault) → IsFolderFault IsLost given
    → (reply : Result Answer RunFault) → IsErrAnd reply (λ fault. fault ≡ given) → IsReply Honest IsLost world rounds asked reply
folder-reply Honest IsLost world rounds asked beside given why (Ok answer) same = absurd same
folder-reply Honest IsLost world rounds asked beside given why (Err fault) same = of_no_folder fault beside (subst (IsFolderFault IsLost) (sym same) why)

-- What a site says of its rounds, a host says that knows it.
module _ {D R : Type 0} (disks : Ghosts D) (rescues : Ghosts R) (own known : Own D R) (Here Honest : Type 0) (holds all : Files)
    (knows : IsKnownTo own known) (to : Honest → Here) (back : Here → Honest) (same : Honest → holds ≡ all) where
  at-host : (top : List ℕ) (launcher : Launcher) (round : Round) (journal : D) (rescue : R) (calls : List Call) (before now : ℕ)
      → IsAtSite disks rescues own Here holds top launcher round journal rescue calls before now
      → IsAtSite disks rescues known Honest all top launcher round journal rescue calls before now
  at-host top launcher round journal rescue calls before now is = record {
    is_journal = knows.journals top journal is.is_journal;
    is_rescue = knows.rescues top round.next rescue is.is_rescue;
    answered = knows.children launcher calls before now is.answered;
    none_left = is.none_left;
    honest = λ honest. is.honest (to honest);
    found = λ honest. subst (λ (f : Files). disks.seen journal ≡ journal_found f top round) (same honest) (is.found (to honest));
    back = λ honest. back (is.back honest);
  }

  pub told-at : AreToldAs (rounds_at disks rescues own Here holds) (rounds_at disks rescues known Honest all)
  told-at = record {
    led = λ top limits launcher plan round text status is. record {
      journal = is.journal;
      rescue = is.rescue;
      left = is.left;
      rest = is.rest;
      calls = is.calls;
      before = is.before;
      now = is.now;
      at_site = at-host top launcher round is.journal is.rescue is.calls is.before is.now is.at_site;
      led = is.led;
    };
    stopped = λ top limits launcher plan round fault is. record {
      journal = is.journal;
      rescue = is.rescue;
      left = is.left;
      rest = is.rest;
      calls = is.calls;
      before = is.before;
      now = is.now;
      cause = is.cause;
      at_site = at-host top launcher round is.journal is.rescue is.calls is.before is.now is.at_site;
      refused = is.refused;
      returned = is.returned;
    };
    deaf = knows.deaf;
  }
