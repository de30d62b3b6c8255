-- A climb from nodes to their parents, which puts nodes into a topological order.
use Rattle.std.specs.Prelude.{◌≡◌, ℕ, ◌+◌, ◌-◌, ◌<◌, ◌≤◌, Bool, true, false, not, List, [], ◌∷◌, ◌++◌, length, take, slice_set, slice_index, slice_index_or}
use Rattle.std.specs.List.{Contains, count_by, sum_by}
use Rattle.dag_graph.specs.Graph.{AreDistinct, rank_in}

-- the nodes that were met, those that have a place in the order, of each node the number of its parents that were
-- looked at, the order, and the path from a node upward
pub record Climbing : Type 0 where
  pub entered : List Bool
  pub placed : List Bool
  pub next : List ℕ
  pub order : List ℕ
  pub path : List ℕ

-- the parents of a node
abbrev pub up : List (List ℕ) → ℕ → List ℕ
up parents v = slice_index_or parents v []

abbrev pub is_entered : Climbing → ℕ → Bool
is_entered c v = slice_index_or c.entered v false

abbrev pub is_placed : Climbing → ℕ → Bool
is_placed c v = slice_index_or c.placed v false

-- a node is met: the path goes on to it
abbrev pub with_entered : Climbing → ℕ → Climbing
with_entered c v = record c { entered = slice_set c.entered v true; path = c.path ++ v ∷ [] }

-- the next parent of a node was looked at
abbrev pub with_passed : Climbing → ℕ → Climbing
with_passed c v = record c { next = slice_set c.next v (slice_index c.next v + 1) }

-- the last node of the path has its place in the order
abbrev pub with_order_place : Climbing → ℕ → Climbing
with_order_place c v = record c { placed = slice_set c.placed v true; order = c.order ++ v ∷ []; path = take (length c.path - 1) c.path }

-- what is left to do
abbrev pub work_left : List (List ℕ) → Climbing → ℕ
work_left parents c = sum_by (λ n. sum_by length parents - n) c.next + count_by (λ b. not b) c.entered + count_by (λ b. not b) c.placed

-- each node of the path is followed by one of its parents; nodes that were met are in the path or in the order;
-- parents of what is placed are placed, at lower ranks
pub record IsClimb (parents : List (List ℕ)) (c : Climbing) : Type 0 where
  pub entered_len : length c.entered ≡ length parents
  pub placed_len : length c.placed ≡ length parents
  pub next_len : length c.next ≡ length parents
  pub inside : (i : ℕ) → i < length c.path → slice_index c.path i < length parents
  pub met : (i : ℕ) → i < length c.path → is_entered c (slice_index c.path i) ≡ true
  pub open_yet : (i : ℕ) → i < length c.path → is_placed c (slice_index c.path i) ≡ false
  pub apart : AreDistinct c.path
  pub chain : (i : ℕ) → i + 1 < length c.path → Contains (up parents (slice_index c.path i)) (slice_index c.path (i + 1))
  pub standing : (v : ℕ) → v < length parents → is_entered c v ≡ true → is_placed c v ≡ false → rank_in c.path v < length c.path
  pub known : (v : ℕ) → v < length parents → is_placed c v ≡ true → is_entered c v ≡ true
  pub passed : (v k : ℕ) → v < length parents → k < slice_index c.next v → is_placed c (slice_index (up parents v) k) ≡ true
  pub through : (v : ℕ) → v < length parents → is_placed c v ≡ true → length (up parents v) ≤ slice_index c.next v
  pub ranked : (v k : ℕ) → v < length parents → is_placed c v ≡ true → k < length (up parents v) → rank_in c.order (slice_index (up parents v) k) < rank_in c.order v
  pub there : (v : ℕ) → v < length parents → is_placed c v ≡ true → rank_in c.order v < length c.order
  pub absent : (v : ℕ) → v < length parents → is_placed c v ≡ false → rank_in c.order v ≡ length c.order
  pub count : length c.order + count_by (λ b. not b) c.placed ≡ length parents

-- a path on which each node is followed by one of its parents, and none comes twice, comes back: one of the parents of
-- the last is on it
pub record IsClosed (parents : List (List ℕ)) (path : List ℕ) (parent : ℕ) : Type 0 where
  pub some : 0 < length path
  pub chain : (i : ℕ) → i + 1 < length path → Contains (up parents (slice_index path i)) (slice_index path (i + 1))
  pub last : Contains (up parents (slice_index path (length path - 1))) parent
  pub there : rank_in path parent < length path
  pub apart : AreDistinct path

-- a climb goes on
pub record ClimbsOn (parents : List (List ℕ)) (before after : Climbing) : Type 0 where
  pub climb : IsClimb parents after
  pub kept : (v : ℕ) → is_entered before v ≡ true → is_entered after v ≡ true
  pub less : work_left parents after < work_left parents before

-- a climb is back from where it went up: the path is empty
pub record IsThrough (parents : List (List ℕ)) (before after : Climbing) : Type 0 where
  pub climb : IsClimb parents after
  pub kept : (v : ℕ) → is_entered before v ≡ true → is_entered after v ≡ true
  pub empty : after.path ≡ []

-- each node has its place
pub record IsFullClimb (parents : List (List ℕ)) (c : Climbing) : Type 0 where
  pub climb : IsClimb parents c
  pub all : (v : ℕ) → v < length parents → is_placed c v ≡ true
