-- The nodes that may start, as a core keeps them: just those that are ready, in a queue for each class of their next phases.
use Rattle.std.specs.Prelude.{◌≡◌, ℕ, suc, ◌+◌, ◌<◌, ◌≤◌, ◌==◌, Bool, true, false, ◌||◌, List, [], length, Option, Some, None, unwrap_or, slice_get, if◌then◌else◌}
use Rattle.std.specs.List.{Contains}
use Rattle.node_machine.specs.NodeProgress.{NodeProgress}
use Rattle.node_machine.specs.declared.Phase.{Phase}
use Rattle.node_machine.specs.declared.Phase.TheVariants.{Pre, Job, Post}
use Rattle.ready_queue.specs.declared.Member.{Member}
use Rattle.ready_queue.specs.Queue.{Queue, IsOrdered}
use Rattle.run_plan.specs.Plan.{Plan, node_at, count_of}
use Rattle.sched_core.specs.Bound.{sum_below}
use Rattle.sched_core.specs.Core.{run_at}
use Rattle.sched_core.specs.Limits.{member_of}
use Rattle.sched_core.specs.States.{is_ready_at}

-- The class of a phase by its kind and the place of its node's category, if the category has a limit: one class for PRE scripts,
-- one for POST scripts, one for the jobs of nodes without such a category, and one for those of each.
abbrev pub class_of : Phase → Option ℕ → ℕ
class_of Pre category = 0
class_of Post category = 1
class_of Job None = 2
class_of Job (Some place) = place + 3

-- that of a node by the phase that comes next; where none does it is in no queue
abbrev pub class_by : Option Phase → Option ℕ → ℕ
class_by None category = 0
class_by (Some phase) category = class_of phase category

-- how many classes there are
abbrev pub classes_of : Plan → ℕ
classes_of plan = length plan.graph.dag.categories + 3

abbrev pub count_at : List ℕ → ℕ → ℕ
count_at counts class = unwrap_or (slice_get counts class) 0

-- one where two classes are the same
abbrev pub share : ℕ → ℕ → ℕ
share own class = if own == class then 1 else 0

-- a phase of a node may be of a class: that of its job is one alone, and any node may have scripts
abbrev pub may_be_of : Plan → ℕ → ℕ → Bool
may_be_of plan class node = (class == 0) || ((class == 1) || (class_of Job (node_at plan node).category == class))

-- how many nodes may wait in a class's queue
abbrev pub candidates : Plan → ℕ → ℕ
candidates plan class = sum_below (λ node. if may_be_of plan class node then 1 else 0) (count_of plan)

-- the queues of the classes
pub record Classed : Type 0 where
  pub queues : List Queue

abbrev pub no_queue : Queue
no_queue = record { members = []; room = 0 }

abbrev pub queue_at : List Queue → ℕ → Queue
queue_at queues class = unwrap_or (slice_get queues class) no_queue

abbrev pub members_at : List Queue → ℕ → List Member
members_at queues class = (queue_at queues class).members

-- A class's members are ordinary nodes that may be of it, with their priorities, best first, and there is room for all others and
-- one more.
pub record AreMembers (plan : Plan) (class : ℕ) (queue : Queue) : Type 0 where
  pub ordered : IsOrdered queue.members
  pub each : (member : Member) → Contains queue.members member
      → (member.node < count_of plan) × (member ≡ member_of plan member.node) × (may_be_of plan class member.node ≡ true)
  pub room : suc (candidates plan class) ≤ length queue.members + queue.room

-- there is such a queue for each class
pub record AreQueues (plan : Plan) (queues : List Queue) : Type 0 where
  pub many : length queues ≡ classes_of plan
  pub each : (class : ℕ) → class < classes_of plan → AreMembers plan class (queue_at queues class)

-- of each class at least as many as there are nodes that may wait in its queue
pub record AreRooms (plan : Plan) (counts : List ℕ) : Type 0 where
  pub many : length counts ≡ classes_of plan
  pub each : (class : ℕ) → class < classes_of plan → candidates plan class ≤ count_at counts class

-- where the nodes are so, the class of a node's next phase
abbrev pub class_at : Plan → List NodeProgress → ℕ → ℕ
class_at plan runs node = class_by (run_at runs node).machine.phase (node_at plan node).category

-- Where the nodes are so and have so many parents that are not done, the members are those that are ready, each in the queue of
-- its class.
pub record IsQueued (plan : Plan) (aborted : Bool) (runs : List NodeProgress) (left : List ℕ) (classed : Classed) : Type 0 where
  pub are : AreQueues plan classed.queues
  pub ready : (node : ℕ) → node < count_of plan → is_ready_at plan aborted runs left node ≡ true
      → Contains (members_at classed.queues (class_at plan runs node)) (member_of plan node)
  pub only : (class : ℕ) → class < classes_of plan → (node : ℕ) → node < count_of plan
      → Contains (members_at classed.queues class) (member_of plan node)
      → (is_ready_at plan aborted runs left node ≡ true) × (class_at plan runs node ≡ class)

-- this node's member is one or none, and the others are as before
pub record IsSet (plan : Plan) (node : ℕ) (now : Bool) (old new : List Member) : Type 0 where
  pub kept : (member : Member) → Contains old member → (member.node ≡ node → ⊥) → Contains new member
  pub others : (member : Member) → Contains new member → (member.node ≡ node → ⊥) → Contains old member
  pub there : now ≡ true → Contains new (member_of plan node)
  pub absent : now ≡ false → Contains new (member_of plan node) → ⊥
