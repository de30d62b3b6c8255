-- The heads of the queues of the nodes that may start: the best that may start is one of them.
use Rattle.std.specs.Prelude.{◌≡◌, ℕ, true, ◌<◌, ◌≤◌, List, length, Option, Some, None, slice_index_or}
use Rattle.std.specs.List.{All, Contains}
use Rattle.node_machine.specs.declared.Key.{Key}
use Rattle.node_machine.specs.declared.Phase.{Phase}
use Rattle.node_machine.specs.declared.Record.{Record}
use Rattle.ready_queue.specs.declared.Member.{Member}
use Rattle.ready_queue.specs.Queue.{Queue}
use Rattle.run_plan.specs.Plan.{Plan, node_at, count_of}
use Rattle.throttles.specs.declared.Limits.{Limits}
use Rattle.sched_core.specs.Ahead.{launched}
use Rattle.sched_core.specs.Choices.{startable}
use Rattle.sched_core.specs.Limits.{member_of}
use Rattle.sched_core.specs.Queued.{AreQueues, class_by, class_of, classes_of, count_at, members_at}
use Rattle.sched_core.specs.Run.{next, is_ready}

-- the phase of a node's next key
abbrev pub next_phase : Option Key → Option Phase
next_phase None = None
next_phase (Some key) = Some key.phase

-- as the records have it, the class of a node's next phase
abbrev pub class_of_next : Plan → List Record → ℕ → ℕ
class_of_next plan past node = class_by (next_phase (next plan past node)) (node_at plan node).category

-- the class of a phase of a node
abbrev pub class_of_key : Plan → Key → ℕ
class_of_key plan key = class_of key.phase (node_at plan key.node).category

-- the ordinary nodes that are ready wait, each in the queue of its class, best first
pub record AreWaiting (plan : Plan) (past : List Record) (queues : List Queue) : Type 0 where
  pub are : AreQueues plan queues
  pub ready : (node : ℕ) → node < count_of plan → is_ready plan past node ≡ true
      → Contains (members_at queues (class_of_next plan past node)) (member_of plan node)
  pub only : (class : ℕ) → class < classes_of plan → (member : Member) → Contains (members_at queues class) member
      → (is_ready plan past member.node ≡ true) × (class_of_next plan past member.node ≡ class)

-- So many members of each class are taken, from the head of its queue on, once these phases are launched: none of them may be
-- started any more, and of the others none is of a node of these phases.
pub record AreHeadsTaken (limits : Limits) (plan : Plan) (past : List Record) (queues : List Queue) (keys : List Key) (taken : List ℕ) : Type 0 where
  pub gone : (class : ℕ) → class < classes_of plan → (k : ℕ) (d : Member) → k < count_at taken class
      → k < length (members_at queues class)
      → startable limits plan (launched past keys) (slice_index_or (members_at queues class) k d).node ≡ None
  pub left : (class : ℕ) → class < classes_of plan → (k : ℕ) (d : Member) → count_at taken class ≤ k
      → k < length (members_at queues class)
      → All (λ (key : Key). key.node ≡ (slice_index_or (members_at queues class) k d).node → ⊥) keys

-- this node's member is the first of its class that is not taken
pub record IsNextHead (queues : List Queue) (taken : List ℕ) (class node : ℕ) : Type 0 where
  pub within : count_at taken class < length (members_at queues class)
  pub is : (d : Member) → (slice_index_or (members_at queues class) (count_at taken class) d).node ≡ node
