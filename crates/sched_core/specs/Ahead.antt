-- Phases that are launched one after another, and records that are added together: what holds once the earlier ones do.
use Rattle.std.specs.Prelude.{◌≡◌, ℕ, Bool, true, ◌&&◌, List, [], ◌∷◌, length, map, Option, Some, None, if◌then◌else◌}
use Rattle.node_machine.specs.declared.Key.{Key}
use Rattle.node_machine.specs.declared.Outcome.{Outcome}
use Rattle.node_machine.specs.declared.Record.{Record}
use Rattle.node_machine.specs.declared.Record.TheVariants.{Launch, End}
use Rattle.throttles.specs.declared.Limits.{Limits}
use Rattle.run_plan.specs.Plan.{Plan}
use Rattle.sched_core.specs.declared.Choice.TheVariants as choices
use Rattle.sched_core.specs.Run.{launch_number, may_follow}
use Rattle.sched_core.specs.Looks.{stops}
use Rattle.sched_core.specs.Choices.{startable, IsChoice}

-- the record of a launch
abbrev pub launch_of : List Record → Key → Record
launch_of past key = Launch key (launch_number past key)

-- the records once these phases are launched, the first of them first
abbrev pub launched : List Record → List Key → List Record
launched past [] = past
launched past (key ∷ keys) = launched (launch_of past key ∷ past) keys

-- each of these is what is to be started once those before it are launched
abbrev pub AreChosen : Limits → Plan → List Record → List Key → Type 0
AreChosen limits plan past [] = Unit {0}
AreChosen limits plan past (key ∷ keys) =
    IsChoice limits plan past (choices.Start key) × AreChosen limits plan (launch_of past key ∷ past) keys

-- their records, the first of them first
abbrev pub launches : List Record → List Key → List Record
launches past [] = []
launches past (key ∷ keys) = launch_of past key ∷ launches (launch_of past key ∷ past) keys

-- each of these may be launched once those before it are
abbrev pub may_launch_all : Plan → List Record → List Key → Bool
may_launch_all plan past [] = true
may_launch_all plan past (key ∷ keys) =
    may_follow plan past (launch_of past key) && may_launch_all plan (launch_of past key ∷ past) keys

-- nothing may be launched that the limits let in
abbrev pub NothingToStart : Limits → Plan → List Record → Type 0
NothingToStart limits plan past = (node : ℕ) → startable limits plan past node ≡ None

-- each of these records may follow those before it
abbrev pub may_follow_all : Plan → List Record → List Record → Bool
may_follow_all plan past [] = true
may_follow_all plan past (entry ∷ entries) = may_follow plan past entry && may_follow_all plan (entry ∷ past) entries

-- of these records those up to and including the first that aborts the run
abbrev pub up_to_abort : Plan → List Record → List Record → List Record
up_to_abort plan past [] = []
up_to_abort plan past (entry ∷ entries) =
    if stops plan past entry then entry ∷ [] else entry ∷ up_to_abort plan (entry ∷ past) entries

-- how many records there are up to and including the first that aborts the run, where each of them may follow those before it;
-- none where one may not
abbrev pub fitting : Plan → List Record → List Record → Option ℕ
fitting plan past entries =
    if may_follow_all plan past (up_to_abort plan past entries)
    then Some (length (up_to_abort plan past entries))
    else None

-- the records of these endings, in their order
abbrev pub ends_of : List (Key × Outcome) → List Record
ends_of ends = map (λ (end : Key × Outcome). End end.0 end.1) ends

-- the phases that ended
abbrev pub ended_in : List (Key × Outcome) → List Key
ended_in ends = map (λ (end : Key × Outcome). end.0) ends

-- the records with these added, the first of them first
abbrev pub added : List Record → List Record → List Record
added past [] = past
added past (entry ∷ entries) = added (entry ∷ past) entries
