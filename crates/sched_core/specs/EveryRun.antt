-- The headline: what every run comes to, whatever its records are kept in and whatever a child is started by. What a manager finds and
-- leaves is of any type I, and a command of any type C.
use Rattle.std.specs.Prelude.{◌≡◌, ℕ, ◌≤◌, ℤ, List, [], ◌∷◌, ◌++◌, Option, Some, IsTrue, if◌then◌else◌}
use Rattle.node_machine.specs.declared.Phase.{Phase}
use Rattle.node_machine.specs.declared.Phase.TheVariants.{Pre, Job, Post}
use Rattle.node_machine.specs.declared.Key.{Key}
use Rattle.node_machine.specs.declared.Ended.{Ended}
use Rattle.node_machine.specs.declared.Record.{Record}
use Rattle.node_machine.specs.declared.Record.TheVariants.{Launch}
use Rattle.node_machine.specs.Story.{Table, ends_with}
use Rattle.run_plan.specs.Plan.{Plan, node_at}
use Rattle.run_plan_node.specs.Commands.{starts_child}
use Rattle.sched_core.specs.Run.{table_of}
use Rattle.sched_core.specs.AttemptValues.{attempt_values}
use Rattle.sched_core.specs.Lives.{IsRunBy}

abbrev pub key_of : ℕ → ℕ → Phase → Key
key_of node attempt phase = record { node = node; attempt = attempt; phase = phase }

-- records that were added to those from before: they come first, since the newest record does
abbrev pub IsGrown : List Record → List Record → Type 0
IsGrown records before = (added : List Record) × (records ≡ added ++ before)

-- a way of running: which records there are in what is found, the newest first, if it can be read; and by which command a launch is started,
-- as soon as it is the newest record
pub record Way (I C : Type 0) : Type 0 where
  pub read : I → Option (List Record)
  pub command : List Record → Key → C

-- What one manager did: what it found; the records with which it began, and those that it held in the end; the commands that it handed
-- over to be started, each with its phase, the oldest first; and what it left when it stopped, which may be at any moment.
pub record AnyLife (I C : Type 0) : Type 0 where
  pub found : I
  pub begun : List Record
  pub held : List Record
  pub handed : List (Key × C)
  pub left : I

-- the commands of the launches that start a child, the oldest first, each by the records of its moment
abbrev pub commands_at : {C : Type 0} → Plan → (List Record → Key → C) → List Record → List (Key × C)
commands_at plan command [] = []
commands_at plan command (Launch key number ∷ past) =
    if starts_child (node_at plan key.node) key.phase
    then commands_at plan command past ++ (key, command (Launch key number ∷ past) key) ∷ []
    else commands_at plan command past
commands_at plan command (_ ∷ past) = commands_at plan command past

-- A life begins with the records that it finds, and adds to them. It hands over the commands of its own launches, in their order,
-- but perhaps for the last ones. What it leaves has the records that it held, and perhaps more, of which it did not learn.
pub record IsAnyLife {I C : Type 0} (plan : Plan) (way : Way I C) (life : AnyLife I C) : Type 0 where
  pub begins : way.read life.found ≡ Some life.begun
  pub adds : IsGrown life.held life.begun
  pub rest : List (Key × C)
  pub hands : commands_at plan way.command life.held ≡ commands_at plan way.command life.begun ++ (life.handed ++ rest)
  pub kept : List Record
  pub leaves : way.read life.left ≡ Some kept
  pub keeps : IsGrown kept life.held

-- the lives of a run, the newest first: the oldest begins with no records, and each other finds what the one before it left
abbrev pub AreAnyLives : {I C : Type 0} → Plan → Way I C → List (AnyLife I C) → Type 0
AreAnyLives plan way [] = Unit {0}
AreAnyLives plan way (life ∷ []) = IsAnyLife plan way life × (life.begun ≡ [])
AreAnyLives plan way (life ∷ last ∷ before) =
    IsAnyLife plan way life × (life.found ≡ last.left) × AreAnyLives plan way (last ∷ before)

-- the same life, by the records that it left: those that it held, and perhaps more, of which it did not learn
abbrev pub by_what_it_left : {I C : Type 0} → AnyLife I C → List Record → AnyLife I C
by_what_it_left life kept = record { found = life.found; begun = life.begun; held = kept; handed = life.handed; left = life.left }

-- a run: its plan, a table of outcomes, the way in which it was run, its last life, and the lives before that, the newest first
pub record AnyRun (I C : Type 0) : Type 0 where
  pub plan : Plan
  pub table : Table
  pub way : Way I C
  pub last : AnyLife I C
  pub before : List (AnyLife I C)

-- Its lives are lives, and in the end the last one held the records of a run that finished without abort, at the outcomes of the table.
pub record IsRunOver {I C : Type 0} (run : AnyRun I C) : Type 0 where
  pub lives : AreAnyLives run.plan run.way (run.last ∷ run.before)
  pub ended : IsRunBy run.plan run.table run.last.held

-- what the command of a phase may hold of these values: that of POST both, that of PRE or of the job neither
abbrev pub AreSameFor : Phase → ℤ × ℤ → ℤ × ℤ → Type 0
AreSameFor Post values other = values ≡ other
AreSameFor _ values other = Unit {0}

-- The commands of a node are plain in these records: that of each of its launches there is `plain` of its key and of the values in its attempt.
abbrev pub ArePlain : {C : Type 0} → Plan → List Record → (List Record → Key → C) → (Key → ℤ × ℤ → C) → ℕ → Type 0
ArePlain plan records command plain node =
    (past : List Record) (key : Key) (number : ℕ) → key.node ≡ node → IsGrown records (Launch key number ∷ past)
    → (values : ℤ × ℤ)
    → AreSameFor key.phase (attempt_values (node_at plan node).course (table_of past node key.attempt Pre) (table_of past node key.attempt Job)) values
    → command (Launch key number ∷ past) key ≡ plain key values

-- the plain command of a key, read from the table
abbrev pub plain_by : {C : Type 0} → Plan → Table → (Key → ℤ × ℤ → C) → Key → C
plain_by plan table plain key =
    plain key (attempt_values (node_at plan key.node).course (table key.node key.attempt Pre)
    (ends_with (node_at plan key.node).course Job (table key.node key.attempt Job)))

-- of phases of a node those that start a child, each with its plain command
abbrev pub with_plain : {C : Type 0} → Plan → Table → (Key → ℤ × ℤ → C) → ℕ → List Ended → List (Ended × C)
with_plain plan table plain node [] = []
with_plain plan table plain node (e ∷ phases) =
    if starts_child (node_at plan node) e.phase
    then (e, plain_by plan table plain (key_of node e.attempt e.phase)) ∷ with_plain plan table plain node phases
    else with_plain plan table plain node phases

-- two nodes have the same plain commands: for each phase that starts a child, in each attempt that is allowed, by any values
abbrev pub HaveSamePlain : {C : Type 0} → Plan → (plain plain' : Key → ℤ × ℤ → C) → ℕ → ℕ → Type 0
HaveSamePlain plan plain plain' node node' =
    (attempt : ℕ) → attempt ≤ (node_at plan node).course.retries → (phase : Phase) → IsTrue (starts_child (node_at plan node) phase)
    → (values : ℤ × ℤ) → plain (key_of node attempt phase) values ≡ plain' (key_of node' attempt phase) values
