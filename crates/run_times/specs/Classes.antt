-- How phases ended, as a picture tells it.
use Rattle.std.specs.Prelude.{ℕ, zero, suc, Bool, true, false, ◌&&◌, ◌==◌, not, List, codes, if◌then◌else◌}
use Rattle.std.specs.List.{list_any}
use Rattle.std.specs.Str.{bytes_eq}
use Rattle.node_machine.specs.declared.Phase.{Phase}
use Rattle.node_machine.specs.declared.Phase.TheVariants.{Pre, Job, Post}
use Rattle.run_times.specs.declared.runs.Ending.{Ending}
use Rattle.run_times.specs.declared.runs.Ending.TheVariants.{Exit, Signal, Untold, NotStarted, Killed, Lost, Runs}
use Rattle.run_times.specs.declared.runs.PhaseRun.{PhaseRun}
use Rattle.run_times.specs.declared.classes.Class.{Class}
use Rattle.run_times.specs.declared.classes.Class.TheVariants.{Good, Bad, Signalled, Accepted, Gone, Running}

abbrev pub is_post : Phase → Bool
is_post Pre = false
is_post Job = false
is_post Post = true

abbrev pub ended_well : Ending → Bool
ended_well (Exit zero) = true
ended_well (Exit (suc n)) = false
ended_well (Signal number) = false
ended_well Untold = false
ended_well NotStarted = false
ended_well Killed = false
ended_well Lost = false
ended_well Runs = false

-- a POST script of the same node and attempt that ended with 0 accepts the value of a phase
abbrev pub accepts : PhaseRun → PhaseRun → Bool
accepts post run = is_post post.phase && ended_well post.ending && (post.attempt == run.attempt) && bytes_eq post.node.now run.node.now

-- one of those that began later accepts the value of a phase, which is no POST script
abbrev pub is_accepted : PhaseRun → List PhaseRun → Bool
is_accepted run later = not (is_post run.phase) && list_any (λ post. accepts post run) later

abbrev pub class_of_failed : Class → PhaseRun → List PhaseRun → Class
class_of_failed class run later = if is_accepted run later then Accepted else class

-- the class of a phase, by how it ended and by those that began later
abbrev pub class_by_ending : Ending → PhaseRun → List PhaseRun → Class
class_by_ending (Exit zero) run later = Good
class_by_ending (Exit (suc n)) run later = class_of_failed Bad run later
class_by_ending (Signal number) run later = class_of_failed Signalled run later
class_by_ending Untold run later = Gone
class_by_ending NotStarted run later = class_of_failed Bad run later
class_by_ending Killed run later = Gone
class_by_ending Lost run later = Gone
class_by_ending Runs run later = Running

abbrev pub class_of_run : PhaseRun → List PhaseRun → Class
class_of_run run later = class_by_ending run.ending run later

-- its word in the picture's style
abbrev pub class_name : Class → List ℕ
class_name Good = codes "good"
class_name Bad = codes "bad"
class_name Signalled = codes "signal"
class_name Accepted = codes "accepted"
class_name Gone = codes "gone"
class_name Running = codes "runs"
