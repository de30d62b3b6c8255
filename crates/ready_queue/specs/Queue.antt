-- A queue of the nodes that may start, best first.
use Rattle.std.specs.Prelude.{◌≡◌, ◌≢◌, ℕ, ◌<◌, ◌≤◌, ◌<ℤ◌, ◌⊎◌, Bool, true, false, List, length, map, slice_index_or, int_lt, nat_lt, not, ◌&&◌, ◌||◌, Option, Some, None}
use Rattle.std.specs.List.{AllPairs, Contains}
use Rattle.ready_queue.specs.declared.Member.{Member}

-- the members, best first, and how many more need no memory
pub record Queue : Type 0 where
  pub members : List Member
  pub room : ℕ

-- a member's priority is greater, or the same and its node comes first in plan order
abbrev pub ComesBefore : Member → Member → Type 0
ComesBefore member other = (other.priority <ℤ member.priority) ⊎ ((member.priority ≡ other.priority) × (member.node < other.node))

-- whether it is so
abbrev pub comes_before : Member → Member → Bool
comes_before member other =
    int_lt other.priority member.priority || (not (int_lt member.priority other.priority) && nat_lt member.node other.node)

-- each member comes before the later ones
abbrev pub IsOrdered : List Member → Type 0
IsOrdered members = AllPairs ComesBefore members

-- no two members are of one node
abbrev pub AreApart : List Member → Type 0
AreApart members = AllPairs (λ (member other : Member). member.node ≢ other.node) members

-- the nodes of these members
abbrev pub nodes_of : List Member → List ℕ
nodes_of members = map (λ (member : Member). member.node) members

-- each of these numbers is less than the later ones
abbrev pub AreRising : List ℕ → Type 0
AreRising nodes = AllPairs (λ node other. node < other) nodes

-- members in order, each node once, and beside them their nodes in plan order
pub record IsIndexed (members : List Member) (nodes : List ℕ) : Type 0 where
  pub ordered : IsOrdered members
  pub apart : AreApart members
  pub rising : AreRising nodes
  pub many : length nodes ≡ length members
  pub has : (node : ℕ) → Contains (nodes_of members) node → Contains nodes node
  pub only : (node : ℕ) → Contains nodes node → Contains (nodes_of members) node

-- where a test has such answers: of the members at whose node it answers true, the one that comes before the others;
-- none where it answers false at each
abbrev pub IsBest : (ℕ → Bool → Type 0) → List Member → Option Member → Type 0
IsBest answers members None = (other : Member) → Contains members other → answers other.node false
IsBest answers members (Some best) =
    Contains members best × answers best.node true
    × ((other : Member) → Contains members other → ComesBefore other best → answers other.node false)

-- all members below a place come before this one, and none from there on does
pub record IsPlaceOf (members : List Member) (member : Member) (place : ℕ) : Type 0 where
  pub within : place ≤ length members
  pub before : (k : ℕ) (d : Member) → k < place → ComesBefore (slice_index_or members k d) member
  pub behind : (k : ℕ) (d : Member) → place ≤ k → k < length members → ComesBefore (slice_index_or members k d) member → ⊥
