-- What is reached from a node, of which each has next ones.
use Rattle.std.specs.Prelude.{◌≡◌, ◌↔◌, ℕ, ◌<◌, ◌≤◌, Bool, true, false, List, [], map, length, Vec, slice_index, slice_index_or}
use Rattle.std.specs.Global.{Global}
use Rattle.std.specs.List.{All, Contains, count_by}
use Rattle.dag_graph.specs.Search.{Searched, IsSearch, is_met}

-- the lists of the nodes
abbrev pub nodes_in : List (Vec ℕ Global) → List (List ℕ)
nodes_in lists = map (λ list. list.items) lists

-- the next ones of a node
abbrev pub next_in : List (List ℕ) → ℕ → List ℕ
next_in lists node = slice_index_or lists node []

-- each of these lists has numbers below n alone
abbrev pub ListsAreBelow : ℕ → List (List ℕ) → Type 0
ListsAreBelow n lists = All (All (λ k. k < n)) lists

-- a node is one of the next ones of that from which it is reached, or of one that is reached from there
pub data Reaches (next : ℕ → List ℕ) (from : ℕ) : ℕ → Type 0 where
  beside : {node : ℕ} → Contains (next from) node → Reaches next from node
  behind : {between node : ℕ} → Reaches next from between → Contains (next between) node → Reaches next from node

-- just those nodes are marked that are reached
abbrev pub AreReached : (ℕ → List ℕ) → ℕ → List Bool → Type 0
AreReached next from marks = (node : ℕ) → (slice_index_or marks node false ≡ true) ↔ Reaches next from node

-- so many nodes are reached: just those are marked, and so many are
pub record IsReachCount (next : ℕ → List ℕ) (from count : ℕ) : Type 0 where
  pub marks : List Bool
  pub are : (node : ℕ) → (slice_index_or marks node false ≡ true) ↔ Reaches next from node
  pub counted : count ≡ count_by (λ mark. mark) marks

abbrev pub IsCountOf : List (List ℕ) → ℕ → ℕ → Type 0
IsCountOf lists from count = IsReachCount (next_in lists) from count

-- the next ones of the node are met, and those of the first nodes that were found; all of them are reached
pub record IsOnTheWay (lists : List (List ℕ)) (from done : ℕ) (s : Searched) : Type 0 where
  pub search : IsSearch s
  pub len : length s.met ≡ length lists
  pub within : done ≤ length s.found
  pub first : (k : ℕ) → k < length (next_in lists from) → is_met s (slice_index (next_in lists from) k) ≡ true
  pub closed : (i k : ℕ) → i < done → k < length (next_in lists (slice_index s.found i)) → is_met s (slice_index (next_in lists (slice_index s.found i)) k) ≡ true
  pub sound : (node : ℕ) → is_met s node ≡ true → Reaches (next_in lists) from node

-- just those that are reached were met
pub record IsReached (lists : List (List ℕ)) (from : ℕ) (s : Searched) : Type 0 where
  pub search : IsSearch s
  pub len : length s.met ≡ length lists
  pub are : (node : ℕ) → (is_met s node ≡ true) ↔ Reaches (next_in lists) from node
