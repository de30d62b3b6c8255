-- A table of outcomes: what each phase of each attempt of each node comes to.
use Rattle.std.specs.Prelude.{◌≡◌, ℕ, Bool, true, false, ◌&&◌, ◌==◌, List, map, filter, None, unwrap_or, IsTrue}
use Rattle.std.specs.List.{last_or}
use Rattle.std.specs.Str.{bytes_eq}
use Rattle.node_machine.specs.Story.{is_possible}
use Rattle.node_machine.specs.declared.Phase.{Phase}
use Rattle.node_machine.specs.declared.Phase.TheVariants.{Pre, Job, Post}
use Rattle.node_machine.specs.declared.Outcome.{Outcome}
use Rattle.node_machine.specs.declared.Outcome.TheVariants.{Exit}

-- an outcome with the key that it is of: the node's name, the attempt from 0 and the phase
pub record Entry : Type 0 where
  pub name : List ℕ
  pub attempt : ℕ
  pub phase : Phase
  pub outcome : Outcome

abbrev pub same_phase : Phase → Phase → Bool
same_phase Pre Pre = true
same_phase Job Job = true
same_phase Post Post = true
same_phase p q = false

-- whether an entry is of this key
abbrev pub is_of : List ℕ → ℕ → Phase → Entry → Bool
is_of name attempt phase entry =
    bytes_eq name entry.name && (attempt == entry.attempt && same_phase phase entry.phase)

-- the outcomes of the entries of a key, in the order of the entries
abbrev pub outcomes_of : List Entry → List ℕ → ℕ → Phase → List Outcome
outcomes_of entries name attempt phase =
    map (λ entry. entry.outcome) (filter (is_of name attempt phase) entries)

-- The outcome of a key: that of the last entry of this key, and Exit 0 where no entry is of it.
unfoldable pub outcome_at : List Entry → List ℕ → ℕ → Phase → Outcome
outcome_at entries name attempt phase =
    unwrap_or (last_or None (outcomes_of entries name attempt phase)) (Exit 0)

-- Each key has the same outcome in both.
abbrev pub SameOutcomes : List Entry → List Entry → Type 0
SameOutcomes xs ys = (name : List ℕ) (attempt : ℕ) (phase : Phase)
    → outcome_at xs name attempt phase ≡ outcome_at ys name attempt phase

-- Each outcome is one that there is.
abbrev pub HasPossibleOutcomes : List Entry → Type 0
HasPossibleOutcomes entries = (name : List ℕ) (attempt : ℕ) (phase : Phase)
    → IsTrue (is_possible (outcome_at entries name attempt phase))
