-- How a node in error is added to groups.
use Rattle.std.specs.Prelude.{◌≡◌, ℕ, ◌<◌, List, [], ◌∷◌, ◌++◌, length, slice_index_or, slice_set}
use Rattle.failure_report.specs.declared.failed.Failure.{Failure}
use Rattle.failure_report.specs.declared.groups.Group.{Group}
use Rattle.failure_report.specs.Grouped.{IsSameEnding}

-- the first of the group at a place failed in the same phase with the same outcome
pub record IsOfGroup (failure : Failure) (groups : List Group) (place : ℕ) : Type 0 where
  pub within : place < length groups
  pub alike : (other : Group) → IsSameEnding (slice_index_or groups place other).first failure

-- The group at a place, whose first failed so, has one more, and all else is as before.
pub record IsJoined (failure : Failure) (before : List Group) (place : ℕ) (now : List Group) : Type 0 where
  pub of : IsOfGroup failure before place
  pub group : Group
  pub first : group.first ≡ (slice_index_or before place group).first
  pub same : group.same.items ≡ (slice_index_or before place group).same.items ++ failure ∷ []
  pub set : now ≡ slice_set before place group

-- A node in error was added to groups: to one whose first failed so, or as the first of a new one after all others.
pub data IsAddedToGroups (failure : Failure) (before : List Group) : List Group → Type 0 where
  joined_one : (place : ℕ) (now : List Group) → IsJoined failure before place now → IsAddedToGroups failure before now
  began_one : (group : Group) → group.first ≡ failure → group.same.items ≡ [] → IsAddedToGroups failure before (before ++ group ∷ [])
